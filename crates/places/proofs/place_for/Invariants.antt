-- `place_for` answers where x stands or would join. The loop's invariant: what is passed, and what a search of the rest
-- answers, make the answer. Assumes nothing.
use Prim.Native.Nat.{◌+◌}
use mathlib.Core.Path.{◌≡◌}
use lib.ListN.{drop}
use Rattle.places.specs.Places.{place_for}
use Rattle.places.proofs.place_for.Given as goal

abbrev pub invariant-loop-i : goal.invariant-loop-i
invariant-loop-i l = place_for l.x l.q ≡ l.i + place_for l.x (drop l.i l.q)
