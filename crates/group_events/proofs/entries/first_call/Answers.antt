-- `group_events::first_call` meets its contract.
-- Assumes nothing.
use mathlib.Core.Path.{refl}
use Rattle.places.specs.Places.{pad}
use Rattle.group_events.proofs.entries.first_call.Goals as goal

pub returns : goal.returns
unfolding pad
returns c = refl
