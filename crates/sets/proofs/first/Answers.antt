-- `first` answers the lowest member: as many bits below it are 0. Assumes nothing.
use native.Mathlib.Omega.{arith}
use mathlib.Core.Path.{refl}
use lib.Count.{trailing_le}
use Rattle.sets.proofs.Lowest.{first-in}
use Rattle.sets.proofs.first.Goals as goal

pub overflow_cast-result : goal.overflow_cast-result
overflow_cast-result c = omega (arith, trailing_le 64 c.args.s)

pub returns : goal.returns
returns c =
    let i = first-in 64 c.args.s (omega arith) c.requires in
    (refl, i.0, i.1)
