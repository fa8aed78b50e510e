-- `charging::overcharged` meets its contract, without a sum that could wrap.
-- Assumes nothing.
use native.Mathlib.Omega.{arith}
use Rattle.rules.specs.Limits.{max_charge}
use Rattle.charging.proofs.Growing.{past_is}
use Rattle.charging.proofs.overcharged.Goals as goal

pub returns : goal.returns
returns c = rw c.from.ensures (past_is max_charge c.args.charge c.args.n (omega arith))
