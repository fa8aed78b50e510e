-- The clause of the deadlines, tried on columns that are written out: each case computes.
-- Assumes nothing.
use Prim.Native.Nat.{ℕ}
use mathlib.Core.Path.{◌≡◌, refl}
use mathlib.Core.Bool.{Bool, true, false, cond}
use mathlib.Core.List.{List, [], ◌∷◌}
use lib.Dec.{eqb}
use Rattle.sets.specs.Sets.{member}
use Rattle.gate.specs.Shown.{table}
use Rattle.places.specs.Tests.{all_below}
use Rattle.sound_check.specs.Answers.{deadline_fits, deadlines_fit}

-- clients 0 to 3 of clusters 0, 1, 0, 1; 3 is in the room of cluster 1, and 2 in it too, which is not its own; 0 is
-- seen in a line
abbrev fits : Bool → ℕ → ℕ → Bool
fits timed c n = deadline_fits (0 ∷ 1 ∷ 0 ∷ 1 ∷ []) (0 ∷ 12 ∷ []) timed 1 c n

-- of one in a line and one in its room; of one in no queue, and one in another's room; 0 of anybody; of 32 bits, and of
-- 33; under priorities none but 0
deadline-cases :
    fits true 0 9 ∷ fits true 3 9 ∷ fits true 1 9 ∷ fits true 2 9 ∷ fits true 1 0 ∷ fits true 0 4294967295
    ∷ fits true 0 4294967296 ∷ fits false 0 9 ∷ fits false 0 0 ∷ []
    ≡ true ∷ true ∷ false ∷ false ∷ true ∷ true ∷ false ∷ false ∷ true ∷ []
unfolding member
deadline-cases = refl

-- n deadlines, 9 for client c and 0 for the others
abbrev column : ℕ → ℕ → List ℕ
column n c = table n (λ (i : ℕ). cond (eqb i c) 9 0)

-- 64 of them, no fewer and no more; the first, and the last
column-cases :
    deadlines_fit [] [] true 1 (column 64 0) ∷ deadlines_fit [] [] true 1 (column 63 0)
    ∷ deadlines_fit [] [] true 1 (column 65 0) ∷ deadlines_fit [] [] true 1 (column 64 63) ∷ []
    ≡ true ∷ false ∷ false ∷ false ∷ []
unfolding deadlines_fit member table all_below
column-cases = refl
