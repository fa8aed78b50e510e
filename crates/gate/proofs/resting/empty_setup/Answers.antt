-- `gate::resting::empty_setup` meets its contract: each array computes to zeros.
-- Assumes nothing.
use mathlib.Core.Path.{refl}
use Rattle.gate.specs.Shown.{table}
use Rattle.gate.proofs.resting.empty_setup.Goals as goal

pub returns : goal.returns
unfolding table
returns c = refl
