-- Rooms, computed.
-- Assumes nothing.
use mathlib.Core.Path.{◌≡◌, refl}
use mathlib.Core.List.{[], ◌∷◌}
use Rattle.lines.specs.Input.{room_with}

-- two bytes in a room of four, and in one of two
pub rooms : (room_with 4 (5 ∷ 6 ∷ []) ≡ 5 ∷ 6 ∷ 0 ∷ 0 ∷ []) × (room_with 2 (5 ∷ 6 ∷ []) ≡ 5 ∷ 6 ∷ [])
rooms = (refl, refl)
