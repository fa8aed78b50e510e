-- `fronts::firsts` meets its contract: the loop holds the fronts of the lines passed.
-- Assumes nothing.
use mathlib.Core.Path.{◌≡◌}
use Rattle.fronts.specs.Answers.{firsts_of}
use Rattle.fronts.proofs.firsts.Given as goal

abbrev pub invariant-loop-line : goal.invariant-loop-line
invariant-loop-line l = l.fronts ≡ firsts_of l.line-items l.line-index
