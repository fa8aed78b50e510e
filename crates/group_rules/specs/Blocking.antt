-- Who is committed, who blocks whom, and to whom a context delegates its bandwidth. All of it is computed from the
-- queue, and nothing of it is stored.
-- Assumes nothing.
use Rattle.std.specs.Prelude.{ℕ, ◌-◌, Bool, not, ◌&&◌, cond, List, ltb, length, get_or}
use Rattle.std.proofs.Math.Option.{Option, some, none}
use Rattle.rules.specs.Lists.{some_below, highest}
use Rattle.group_rules.specs.declared.Group.{Group}
use Rattle.group_rules.specs.Limits.{max_contexts, max_servers}
use Rattle.group_rules.specs.Groups.{time_of, has_ticket, calls_of, queued}

-- RULE S3

-- (a) b is in the group queue, with an earlier timestamp than c
abbrev pub earlier : Group → ℕ → ℕ → Bool
earlier g b c = queued g b && ltb (time_of g b) (time_of g c)

-- (b) b and c have tickets for the same server
unfoldable pub share : Group → ℕ → ℕ → Bool
share g b c = some_below (λ (s : ℕ). has_ticket g b s && has_ticket g c s) max_servers

-- b prevents c from being committed
abbrev pub blocks : Group → ℕ → ℕ → Bool
blocks g c b = earlier g b c && share g b c

-- A context is committed when it is queued and there is no such b.
unfoldable pub committed : Group → ℕ → Bool
committed g c = queued g c && not (some_below (blocks g c) max_contexts)

-- RULES D2 AND D3

-- Of the contexts that prevent it, the one with the latest timestamp blocks c directly.
unfoldable pub blocker_of : Group → ℕ → Option ℕ
blocker_of g c = highest (λ (a b : ℕ). ltb (time_of g b) (time_of g a)) (blocks g c) max_contexts

-- The server of the current request is the one on top of the stack (rule S4: it serves that request, if c is
-- committed).
abbrev pub last_of : List ℕ → ℕ
last_of l = get_or l (length l - 1) 0

abbrev pub current_of : Group → ℕ → ℕ
current_of g c = last_of (calls_of g c)

-- to whom a context delegates its bandwidth
pub data Delegate : Type 0 where
  nobody : Delegate
  server : (s : ℕ) → Delegate
  context : (b : ℕ) → Delegate

abbrev pub to_blocker : Option ℕ → Delegate
to_blocker none = nobody
to_blocker (some b) = context b

-- D2: a committed context to the server of its current request. D3: a queued one that isn't committed to the context
-- that blocks it directly. One that isn't queued to nobody.
unfoldable pub delegate_of : Group → ℕ → Delegate
delegate_of g c =
    cond (queued g c) (cond (committed g c) (server (current_of g c)) (to_blocker (blocker_of g c))) nobody
