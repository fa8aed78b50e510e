-- `group_says::read_numbers` meets its contract. The loop's invariant: n fields say numbers, which are placed, and the
-- next field starts at byte a.
-- Assumes nothing.
use Prim.Native.Nat.{ℕ, ◌+◌, ◌-◌, ◌≤◌, ◌<◌}
use lib.ListN.{length}
use Rattle.text.specs.Text.{space}
use Rattle.fields.specs.Fields.{fields}
use Rattle.fields.proofs.Placed.{Reading}
use Rattle.group_says.specs.Says.{most_numbers}
use Rattle.group_says.proofs.Numbers.{field_number, Says}
use Rattle.group_says.proofs.read_numbers.Given as goal

abbrev pub invariant-loop-a : goal.invariant-loop-a
invariant-loop-a l =
    Reading 0 space field_number l.s l.initial.v l.v l.n l.a × (l.n ≤ most_numbers) × ((j : ℕ) → j < l.n → Says (fields space l.s) j)

abbrev pub decreases-loop-a : goal.decreases-loop-a
decreases-loop-a l = length l.s + 1 - l.a
