-- `numerals::size` meets its contract. The loop's invariant: n and the digits that are left spell what all do.
-- Assumes nothing.
use Prim.Native.Nat.{◌≤◌}
use mathlib.Core.Path.{◌≡◌}
use lib.ListN.{drop}
use Rattle.text.specs.Text.{max_count}
use Rattle.numerals.specs.Numbers.{spelt, digits}
use Rattle.numerals.proofs.size.Given as goal

abbrev pub invariant-loop-b : goal.invariant-loop-b
invariant-loop-b l = (spelt l.n (drop l.b-index l.f) ≡ digits l.f) × (l.n ≤ max_count)
