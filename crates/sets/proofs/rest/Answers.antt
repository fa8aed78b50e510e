-- `rest` answers the set without its lowest member, which is a smaller word. Assumes nothing.
use native.Mathlib.Omega.{arith}
use Rattle.sets.proofs.Lowest.{rest-set, rest-less}
use Rattle.sets.proofs.rest.Goals as goal

pub returns : goal.returns
returns c = (rest-set 64 c.args.s (omega arith) c.requires, rest-less c.args.s c.requires)
