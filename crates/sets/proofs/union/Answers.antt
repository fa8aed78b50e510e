-- `union` answers the set of both: the bits of one word or the other.
-- Assumes nothing.
use native.Mathlib.Omega.{arith}
use Rattle.sets.proofs.Words.{or-both}
use Rattle.sets.proofs.union.Goals as goal

pub returns : goal.returns
returns c = or-both 64 c.args.s c.args.t (omega arith) (omega arith)
