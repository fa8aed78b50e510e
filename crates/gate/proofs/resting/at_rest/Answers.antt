-- `gate::resting::at_rest` meets its contract: each part computes to the shown form of a gate in which nobody waits.
-- Assumes nothing.
use mathlib.Core.Path.{refl}
use Rattle.sets.specs.Sets.{set_of}
use Rattle.places.specs.Places.{pad}
use Rattle.gate.specs.Shown.{shown, table}
use Rattle.gate.proofs.resting.at_rest.Goals as goal

pub returns : goal.returns
unfolding shown table pad set_of
returns c = refl
