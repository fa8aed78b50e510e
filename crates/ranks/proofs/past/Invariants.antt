-- `ranks::past` meets its contract: after i turns the i lowest by number are gone.
-- Assumes nothing.
use mathlib.Core.Path.{◌≡◌}
use Rattle.ranks.specs.Ranks.{past_of}
use Rattle.ranks.proofs.past.Given as goal

abbrev pub invariant-loop-i : goal.invariant-loop-i
invariant-loop-i l = l.left ≡ past_of l.s l.i
