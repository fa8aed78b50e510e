-- `find` answers the first place that holds x. The loop's invariant: what is passed, and what a search of the rest
-- answers, make the answer. Assumes nothing.
use Prim.Native.Nat.{◌+◌}
use mathlib.Core.Path.{◌≡◌}
use lib.ListN.{drop}
use Rattle.places.specs.Places.{place_of}
use Rattle.places.proofs.find.Given as goal

abbrev pub invariant-loop-i : goal.invariant-loop-i
invariant-loop-i l = place_of l.x l.q ≡ l.i + place_of l.x (drop l.i l.q)
