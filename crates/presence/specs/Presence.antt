-- Who is where, over the places of a line and of the background queue, a room, and the one in service.
-- Assumes nothing.
use Rattle.std.specs.Prelude.{ℕ, Bool, ◌||◌, List}
use Rattle.rules.specs.Lists.{has}
use Rattle.rules.specs.State.{Server, serves}
use Rattle.sets.specs.Sets.{member}
use Rattle.places.specs.Places.{unpad}

-- c is in its line or its waiting room
abbrev pub waits_in : List ℕ → ℕ → ℕ → Bool
waits_in line room c = has c line || member room c

-- or in the queue that the background's places hold, or in service
abbrev pub present_in : List ℕ → ℕ → List ℕ → Server → ℕ → Bool
present_in line room background x c = waits_in line room c || (has c (unpad background) || serves x c)
