-- Who waits, and the two moves that events are made of: refill and pick.
-- Assumes nothing.
use Rattle.std.specs.Prelude.{ℕ, Bool, false, ◌&&◌, ◌||◌, cond, List, [], ◌∷◌, ◌++◌, eqb, ltb, length}
use Rattle.std.proofs.Math.Option.{Option, some, none}
use Rattle.rules.specs.Lists.{has, remove, highest}
use Rattle.rules.specs.Setup.{Setup}
use Rattle.rules.specs.State.{State, Server, idle, front, best, spent, tidying, blocks}
use Rattle.rules.specs.Changes.{with_line, with_room, with_global, with_background, with_server}
use Rattle.rules.specs.Rank.{Rank}

-- WHO WAITS

-- c is in the waiting room of cluster k
abbrev pub in_room : Setup → State → ℕ → ℕ → Bool
in_room u s k c = s.room c && eqb (u.cluster c) k

-- c is in its line or its waiting room
abbrev pub waits : Setup → State → ℕ → Bool
waits u s c = has c (s.lines (u.cluster c)) || s.room c

-- REFILL

-- c leaves the line of k
abbrev pub without : ℕ → ℕ → State → State
without k c s = with_line k (remove c (s.lines k)) s

-- whoever was found moves from the room to the end of the line of k
abbrev pub enter : ℕ → State → Option ℕ → State
enter k s none = s
enter k s (some d) = with_room d false (with_line k (s.lines k ++ (d ∷ [])) s)

-- Refill of a cluster: if its line has room and its waiting room isn't empty, the highest in rank moves to the
-- line's end.
unfoldable pub refill : Setup → Rank → ℕ → State → State
refill u rank k s =
    enter k s (cond (ltb (length (s.lines k)) (u.size k)) (highest rank (in_room u s k) u.clients) none)

-- THE GLOBAL QUEUE

-- the front of a line, if it has one, joins the end of a queue
abbrev pub join : List ℕ → List ℕ → List ℕ
join [] g = g
join (x ∷ l) g = g ++ (x ∷ [])

-- the front of k joins the end of the global queue, unless k is blocked
unfoldable pub queue : Setup → ℕ → State → State
queue u k s = with_global (cond (blocks u s.server k) s.global (join (s.lines k) s.global)) s

-- PICK

-- Pick: the first of the global queue enters service (it stays front of its line); if that queue is empty, the first
-- of the background queue; if both are empty, the server is idle. Units served become 0.
abbrev pub start : State → List ℕ → List ℕ → State
start s [] [] = with_server idle 0 (with_global [] (with_background [] s))
start s [] (b ∷ bs) = with_server (best b) 0 (with_global [] (with_background bs s))
start s (g ∷ gs) bs = with_server (front g) 0 (with_global gs (with_background bs s))

unfoldable pub pick : State → State
pick s = start s s.global s.background

-- if the server is idle, pick
abbrev pub pick_idle : Server → State → State
pick_idle idle s = pick s
pick_idle (front c) s = s
pick_idle (best c) s = s
pick_idle (spent c) s = s
pick_idle tidying s = s
