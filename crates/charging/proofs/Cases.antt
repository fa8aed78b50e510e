-- The definitions, tried on places, sets and charges that are written out: each case computes.
-- Assumes nothing.
use mathlib.Core.Bool.{true, false}
use mathlib.Core.List.{[], ◌∷◌}
use mathlib.Core.Path.{◌≡◌, refl}
use Rattle.sets.specs.Sets.{member, set_of}
use Rattle.places.specs.Places.{unpad}
use Rattle.gate.specs.Shown.{table}
use Rattle.charging.specs.Charged.{waiting_in, overcharges_in, grown}

-- 3 and 1 in the line and 2 in the room; what stands behind an unused place is not in the line; 70 is no client
waiting-cases :
    (waiting_in (3 ∷ 1 ∷ 255 ∷ 255 ∷ []) 4 ≡ 14) × (waiting_in (255 ∷ 0 ∷ []) 4 ≡ 4) × (waiting_in [] 0 ≡ 0)
    × (waiting_in (70 ∷ 1 ∷ []) 0 ≡ 2)
unfolding unpad member set_of
waiting-cases = (refl, refl, refl, refl)

-- to the limit, and past it by one; and client 0 is not in the set
over-cases :
    (overcharges_in (0 ∷ 33554426 ∷ []) 2 5 1 ≡ false) × (overcharges_in (0 ∷ 33554426 ∷ []) 2 6 1 ≡ true)
    × (overcharges_in (33554426 ∷ []) 2 6 0 ≡ false)
unfolding member
over-cases = (refl, refl, refl)

-- clients 0 and 2 are charged; of nobody nothing changes
grown-cases : (grown (7 ∷ 8 ∷ 9 ∷ []) 5 10 ≡ 17 ∷ 8 ∷ 19 ∷ []) × (grown (7 ∷ 8 ∷ []) 0 10 ≡ 7 ∷ 8 ∷ [])
unfolding member table
grown-cases = (refl, refl)
