-- What an input asks for is no more than there is.
-- Assumes nothing.
use Rattle.std.specs.Prelude.{ℕ, ◌≤◌, ◌≡◌, Option, Some}
use Rattle.write_log.specs.declared.input.Asked.{Asked}
use Rattle.write_log.specs.Sizes.{max_room}

-- a room is no larger than the largest, and the log behind it begins within the input, of so many bytes
abbrev pub Within : ℕ → Option Asked → Type 0
Within bytes asked = (a : Asked) → asked ≡ Some a → (a.room ≤ max_room) × (a.log ≤ bytes)
