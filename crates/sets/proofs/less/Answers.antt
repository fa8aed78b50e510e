-- `less` answers the members of one set that another hasn't: the bits of both, with those of the other turned.
-- Assumes nothing.
use native.Mathlib.Omega.{arith}
use Rattle.sets.proofs.Words.{or-xor-both}
use Rattle.sets.proofs.less.Goals as goal

pub returns : goal.returns
returns c = or-xor-both 64 c.args.s c.args.t (omega arith) (omega arith)
