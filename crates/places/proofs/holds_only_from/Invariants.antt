-- `places::holds_only_from` meets its contract: what is left to look at passes the test if the whole does.
-- Assumes nothing.
use mathlib.Core.Path.{◌≡◌}
use lib.ListN.{drop}
use Rattle.places.specs.Places.{holds_only}
use Rattle.places.proofs.holds_only_from.Given as goal

abbrev pub invariant-loop-i : goal.invariant-loop-i
invariant-loop-i l = holds_only l.x (drop l.i l.q) ≡ holds_only l.x (drop l.from l.q)
