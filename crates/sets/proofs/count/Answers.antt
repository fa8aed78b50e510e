-- `count` answers how many clients are in a set: the ones of a word are its members below 64.
-- Assumes nothing.
use native.Mathlib.Omega.{arith}
use lib.Count.{ones-le}
use Rattle.sets.specs.Sets.{count_of}
use Rattle.sets.proofs.Words.{ones-count}
use Rattle.sets.proofs.count.Goals as goal

pub overflow_cast-result : goal.overflow_cast-result
overflow_cast-result c = omega (arith, ones-le 64 c.args.s (omega arith))

pub returns : goal.returns
unfolding count_of
returns c = ones-count 64 c.args.s (omega arith)
