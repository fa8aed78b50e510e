-- `group_rules::no_calls` meets its contract.
-- Assumes nothing.
use mathlib.Core.Path.{refl}
use Rattle.places.specs.Places.{pad}
use Rattle.group_rules.proofs.no_calls.Goals as goal

pub returns : goal.returns
unfolding pad
returns c = refl
