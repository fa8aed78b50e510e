-- The few tests on lists of numbers in which soundness is written, a gate's and a group's.
-- Assumes nothing.
use Rattle.std.specs.Prelude.{ℕ, zero, suc, Bool, true, not, ◌&&◌, List, [], ◌∷◌}
use Rattle.rules.specs.Lists.{has}
use Rattle.places.specs.Places.{holds_only}

-- every number of the list passes the test
unfoldable pub every : (ℕ → Bool) → List ℕ → Bool
every p [] = true
every p (x ∷ l) = p x && every p l

-- every number below n passes the test
unfoldable pub all_below : ℕ → (ℕ → Bool) → Bool
all_below zero p = true
all_below (suc n) p = p n && all_below n p

-- nothing but zeros
abbrev pub zeros : List ℕ → Bool
zeros l = holds_only 0 l

-- no number stands twice: the test of `Distinct`
unfoldable pub distinct : List ℕ → Bool
distinct [] = true
distinct (x ∷ l) = not (has x l) && distinct l
