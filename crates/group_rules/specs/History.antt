-- Histories of a group: what events lead to, and what is followed and waited for in it.
-- Assumes nothing.
use Rattle.std.specs.Prelude.{ℕ, zero, suc, ◌≡◌, Bool, true, false, ◌&&◌, ◌||◌, List, [], ◌∷◌, eqb}
use Rattle.std.proofs.Math.Option.{Option, some, none}
use Rattle.rules.specs.Lists.{some_below}
use Rattle.group_rules.specs.declared.Group.{Group}
use Rattle.group_rules.specs.Limits.{max_contexts}
use Rattle.group_rules.specs.Groups.{none_entered, calls_of}
use Rattle.group_rules.specs.Blocking.{blocker_of}
use Rattle.group_rules.specs.Events.{Event, step_of}

-- the group after these events, the latest first, refused ones among them
abbrev pub reached : List Event → Group
reached [] = none_entered
reached (e ∷ es) = step_of (reached es) e

-- WHO BLOCKS ME DIRECTLY

-- one step: a context that nobody blocks stays where it is
abbrev pub steps_to : ℕ → Option ℕ → ℕ
steps_to c none = c
steps_to c (some b) = b

-- n steps
abbrev pub follow : Group → ℕ → ℕ → ℕ
follow g zero c = c
follow g (suc n) c = follow g n (steps_to c (blocker_of g c))

-- WHICH SERVER WAITS FOR WHICH

-- q stands directly before r in the list
abbrev pub next : ℕ → ℕ → List ℕ → Bool
next q r [] = false
next q r (x ∷ []) = false
next q r (x ∷ y ∷ l) = (eqb x q && eqb y r) || next q r (y ∷ l)

-- Server q has called r for some context, and r has not replied.
unfoldable pub awaits : Group → ℕ → ℕ → Bool
awaits g q r = some_below (λ (c : ℕ). next q r (calls_of g c)) max_contexts

-- q waits for the first of the list, that one for the second, and so on
abbrev pub Chain : Group → ℕ → List ℕ → Type 0
Chain g q [] = Unit {0}
Chain g q (r ∷ l) = (awaits g q r ≡ true) × Chain g r l
