-- The column of keys, tried on columns that are written out: each case computes.
-- Assumes nothing.
use mathlib.Core.Path.{◌≡◌, refl}
use mathlib.Core.Bool.{true, false}
use mathlib.Core.List.{[], ◌∷◌}
use lib.ListN.{length, get_or}
use Rattle.gate.specs.Shown.{table}
use Rattle.parts.specs.Parts.{keys_in, deadlines_in}

-- of priorities 1 and 2 and deadlines 8 and 9: the one, or the other
keys-cases :
    (keys_in true (1 ∷ 2 ∷ []) (8 ∷ 9 ∷ []) ≡ 8 ∷ 9 ∷ []) × (keys_in false (1 ∷ 2 ∷ []) (8 ∷ 9 ∷ []) ≡ 1 ∷ 2 ∷ [])
keys-cases = (refl, refl)

-- under deadlines the keys; under priorities 64 zeros, whatever the keys are
deadlines-cases :
    (deadlines_in true (8 ∷ 9 ∷ []) ≡ 8 ∷ 9 ∷ []) × (get_or (deadlines_in false (1 ∷ 2 ∷ [])) 0 7 ≡ 0)
    × (get_or (deadlines_in false (1 ∷ 2 ∷ [])) 63 7 ≡ 0) × (length (deadlines_in false (1 ∷ 2 ∷ [])) ≡ 64)
unfolding table
deadlines-cases = (refl, refl, refl, refl)
