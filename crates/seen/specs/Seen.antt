-- Who is seen in a queue of places, each once.
-- Assumes nothing.
use Rattle.std.specs.Prelude.{ℕ, Bool, ◌&&◌, cond, List, [], ◌∷◌}
use Rattle.std.specs.Prelude as code
use Rattle.std.specs.Prelude.{Some, None}
use Rattle.std.proofs.Math.Option.{Option, some, none}
use Rattle.sets.specs.Sets.{member, with_of}
use Rattle.places.specs.Places.{unpad, used_first}
use Rattle.places.specs.Tests.{every}

-- Each case's set, if any.
abbrev pub seen_of : code.Option ℕ → Option ℕ
seen_of None = none
seen_of (Some s) = some s

-- the set s with those of the list, unless one of them is met twice
unfoldable pub seen_from : ℕ → List ℕ → Option ℕ
seen_from s [] = some s
seen_from s (x ∷ l) = cond (member s x) none (seen_from (with_of s x) l)

-- the same, if the test is passed
abbrev pub seen_if : Bool → ℕ → List ℕ → Option ℕ
seen_if b s l = cond b (seen_from s l) none

-- the set s with those in a queue, each of whom passes the test
unfoldable pub queue_seen : (ℕ → Bool) → List ℕ → ℕ → Option ℕ
queue_seen p q s = seen_if (used_first q && every p (unpad q)) s (unpad q)
