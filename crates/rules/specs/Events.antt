-- What each of the five events does, where it is accepted.
-- Assumes nothing.
use Rattle.std.specs.Prelude.{ℕ, ◌+◌, Bool, true, false, ◌&&◌, cond, List, [], ◌∷◌, ◌++◌, eqb, ltb, length}
use Rattle.std.proofs.Math.Option.{Option, some, none}
use Rattle.rules.specs.Lists.{upd, remove, heads, count_below}
use Rattle.rules.specs.Setup.{Setup, real_time}
use Rattle.rules.specs.State.{State, Server, idle, front, best, spent, tidying, is_front}
use Rattle.rules.specs.Changes.{with_line, with_room, with_global, with_background, with_server, with_charge}
use Rattle.rules.specs.Rank.{Rank}
use Rattle.rules.specs.Queues.{waits, without, refill, queue, pick, pick_idle}

-- An event is one of five kinds, each with its own data: a client, a number of units, or none. An invoke may carry a
-- deadline. `ready` is the event that request 2 calls wait: the server has tidied up. Document 01 has the word wait for
-- what a client does.
pub data Event : Type 0 where
  invoke : ℕ → Option ℕ → Event
  run : ℕ → Event
  reply : Event
  abort : ℕ → Event
  ready : Event

-- INVOKE

-- Best-effort: joins the background queue.
abbrev pub behind : ℕ → State → State
behind c s = with_background (s.background ++ (c ∷ [])) s

-- Real-time: its charge becomes 0; it joins the end of its cluster's line if there is room ..
abbrev pub joined : Setup → ℕ → State → State
joined u c s =
    with_charge (upd s.charge c 0) (with_line (u.cluster c) (s.lines (u.cluster c) ++ (c ∷ [])) s)

-- .. else the waiting room.
abbrev pub roomed : ℕ → State → State
roomed c s = with_charge (upd s.charge c 0) (with_room c true s)

-- If it became front and the cluster isn't blocked, it joins the end of the global queue.
-- The list is the line that it finds: an empty one has room, as every size is at least 1.
abbrev pub arrive : Setup → ℕ → List ℕ → State → State
arrive u c [] s = queue u (u.cluster c) (joined u c s)
arrive u c (x ∷ l) s = cond (ltb (length (x ∷ l)) (u.size (u.cluster c))) (joined u c s) (roomed c s)

-- Invoke c: the one or the other by its kind. Last, if the server is idle, pick; while it tidies they queue only.
unfoldable pub invoked : Setup → ℕ → State → State
invoked u c s =
    pick_idle s.server (cond (real_time u c) (arrive u c (s.lines (u.cluster c)) s) (behind c s))

-- RUN

module _ (u : Setup) (rank : Rank) where
  -- d waits in c's cluster and outranks c
  abbrev pub precedes : State → ℕ → ℕ → Bool
  precedes s c d = (waits u s d && eqb (u.cluster d) (u.cluster c)) && rank d c

  -- A real-time client is charged if it is in its line or waiting room (in service too, but not when spent) and fewer
  -- than m clients in the line or waiting room of its cluster outrank it.
  abbrev pub charged : State → ℕ → Bool
  charged s c =
      real_time u c && (waits u s c && ltb (count_below (precedes s c) u.clients) (u.size (u.cluster c)))

  -- Run n. Units served, or tidied, grow by n. Each charged client's charge grows by n.
  unfoldable pub ran : ℕ → State → State
  ran n s =
      with_charge (λ (c : ℕ). s.charge c + cond (charged s c) n 0) (with_server s.server (s.units + n) s)

-- REPLY

-- the request in service has ended, and the server tidies: 0 units so far
abbrev pub freed : State → State
freed s = with_server tidying 0 s

-- c leaves its line, then refill
abbrev pub gone : Setup → Rank → ℕ → State → State
gone u rank c s = refill u rank (u.cluster c) (without (u.cluster c) c s)

-- The served request ends. A front leaves its line, then refill. A spent client's cluster stops being blocked. In both
-- cases, if that line isn't empty, its front joins the end of the global queue.
abbrev pub ended : Setup → Rank → Server → State → State
ended u rank idle s = s
ended u rank (front c) s = queue u (u.cluster c) (gone u rank c (freed s))
ended u rank (best c) s = freed s
ended u rank (spent c) s = queue u (u.cluster c) (freed s)
ended u rank tidying s = s

-- Reply: all that at once, and nobody is picked yet.
unfoldable pub replied : Setup → Rank → State → State
replied u rank s = ended u rank s.server s

-- ABORT

-- leaves the waiting room
abbrev pub left : ℕ → State → State
left c s = with_room c false s

-- leaves the global queue (others keep their order)
abbrev pub unqueue : ℕ → State → State
unqueue c s = with_global (remove c s.global) s

-- stays in service as spent: its cluster is now blocked
abbrev pub spend : ℕ → State → State
spend c s = with_server (spent c) s.units s

-- Abort c. In the waiting room: leaves. Front in service: leaves the line, stays in service as spent, the cluster is
-- now blocked, refill; the new front joins nothing yet. Front and not in service: leaves line and global queue, refill,
-- and the new front, if any, joins the end of the global queue unless the cluster is blocked. In the line but not
-- front: leaves, refill.
unfoldable pub aborted : Setup → Rank → ℕ → State → State
aborted u rank c s =
    cond (s.room c) (left c s)
    (cond (is_front s.server c) (gone u rank c (spend c s))
    (cond (heads c (s.lines (u.cluster c))) (queue u (u.cluster c) (gone u rank c (unqueue c s)))
    (gone u rank c s)))

-- READY

-- The tidying ends, and the next is picked.
unfoldable pub readied : State → State
readied s = pick s

-- DEADLINES

-- the number of an invoke's deadline, 0 where it has none
abbrev pub due_by : Option ℕ → ℕ
due_by none = 0
due_by (some d) = d

-- The deadlines after an invoke of c: it is fixed for that wait. A best-effort client's has no effect.
abbrev pub dated : Setup → ℕ → Option ℕ → (ℕ → ℕ) → ℕ → ℕ
dated u c o f = cond (real_time u c) (upd f c (due_by o)) f

-- c waits no more: the gate holds 0 for a client that doesn't wait
abbrev pub undated : ℕ → (ℕ → ℕ) → ℕ → ℕ
undated c f = upd f c 0

-- The deadlines after a reply. Of those in service only a front waits.
abbrev pub answered : Server → (ℕ → ℕ) → ℕ → ℕ
answered idle f = f
answered (front c) f = undated c f
answered (best c) f = f
answered (spent c) f = f
answered tidying f = f
