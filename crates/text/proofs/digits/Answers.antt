-- `text::digits` meets its contract: a number between two powers of ten has as many digits as the larger one has zeros.
-- Assumes nothing.
use native.Mathlib.Omega.{arith}
use Rattle.text.proofs.Decimal.{length-digit, length_between}
use Rattle.text.proofs.digits.Goals as goal

pub returns-in-Some : goal.returns-in-Some
returns-in-Some c =
    let e = c.in-Some.ensures in
    omega (arith, length_between c.in-Some.k c.args.n (omega arith) e.power_le e.next_power_gt)

pub returns-in-None : goal.returns-in-None
returns-in-None c = omega (arith, length-digit c.args.n (omega (arith, c.in-None.ensures.none)))
