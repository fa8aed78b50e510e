-- `parts::deadlines_of` meets its contract.
-- Assumes nothing.
use mathlib.Core.Path.{refl}
use Rattle.gate.specs.Shown.{table}
use Rattle.parts.proofs.deadlines_of.Goals as goal

pub returns-then-timed : goal.returns-then-timed
returns-then-timed c = rw c.if-timed.true

pub returns : goal.returns
unfolding table
returns c = rw c.if-timed.false refl
