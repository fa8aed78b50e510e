-- The definitions, tried on places and rooms that are written out: each case computes.
-- Assumes nothing.
use Prim.Native.Nat.{ℕ}
use mathlib.Core.Bool.{true, false}
use mathlib.Core.List.{List, [], ◌∷◌}
use mathlib.Core.Path.{◌≡◌, refl}
use Rattle.rules.specs.State.{idle, front, best, spent}
use Rattle.sets.specs.Sets.{member}
use Rattle.places.specs.Places.{unpad}
use Rattle.presence.specs.Presence.{waits_in, present_in}

-- 3 is in the line, 2 in the room, and 1 in neither
waits-cases : (waits_in (3 ∷ 255 ∷ []) 4 3 ≡ true) × (waits_in (3 ∷ 255 ∷ []) 4 2 ≡ true)
    × (waits_in (3 ∷ 255 ∷ []) 4 1 ≡ false)
unfolding member
waits-cases = (refl, refl, refl)

-- in the line, the room or the background queue, or in service, spent included; what stands behind an unused place
-- is in no queue, and 1 is nowhere
abbrev queue : List ℕ
queue = 5 ∷ 255 ∷ 6 ∷ []

present-cases :
    (present_in (3 ∷ []) 4 queue (front 7) 3 ≡ true) × (present_in (3 ∷ []) 4 queue idle 2 ≡ true)
    × (present_in (3 ∷ []) 4 queue idle 5 ≡ true) × (present_in (3 ∷ []) 4 queue idle 6 ≡ false)
    × (present_in (3 ∷ []) 4 queue (best 6) 6 ≡ true) × (present_in (3 ∷ []) 4 queue (spent 6) 6 ≡ true)
    × (present_in (3 ∷ []) 4 queue (front 7) 1 ≡ false)
unfolding member unpad
present-cases = (refl, refl, refl, refl, refl, refl, refl)
