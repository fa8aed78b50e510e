-- `quote::whole` meets its contract: a number that is not negative is its own size, which fits.
-- Assumes nothing.
use mathlib.Core.Path.{ap}
use lib.IntN.{nat_abs}
use mir.Syntax.{w64}
use mir.Facts.{to_z-of_z, Fits-nat_abs, sfits_to_z, Fits-of_z}
use Rattle.quote.proofs.whole.Goals as goal

pub overflow_cast-result : goal.overflow_cast-result
overflow_cast-result c = (
  rw (to_z-of_z c.ranges.x) c.requires,
  Fits-nat_abs {w = w64} {w' = w64} tt (sfits_to_z (Fits-of_z c.ranges.x)),
)

pub returns : goal.returns
returns c = ap nat_abs (to_z-of_z c.ranges.x)
