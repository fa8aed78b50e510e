-- `common` answers the set of those in both: the bits of both words.
-- Assumes nothing.
use native.Mathlib.Omega.{arith}
use Rattle.sets.proofs.Words.{and_both}
use Rattle.sets.proofs.common.Goals as goal

pub returns : goal.returns
returns c = and_both 64 c.args.s c.args.t (omega arith) (omega arith)
