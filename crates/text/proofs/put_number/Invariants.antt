-- `text::put_number` meets its contract. The loop's invariant: what is left, written over the buffer as it is, makes
-- the buffer that is promised. The measure is what is left: its tenth is smaller. Assumes nothing.
use Prim.Native.Nat.{◌+◌, ◌≤◌}
use mathlib.Core.Path.{◌≡◌}
use lib.ListN.{length}
use Rattle.text.specs.Text.{decimal, written}
use Rattle.text.proofs.put_number.Given as goal

abbrev pub invariant-loop-left : goal.invariant-loop-left
invariant-loop-left l =
    (l.left ≤ l.n) × (l.i ≡ l.at + length (decimal l.left)) × (length l.out ≡ length l.initial.out)
    × (written l.out l.at (decimal l.left) ≡ written l.initial.out l.at (decimal l.n))

abbrev pub decreases-loop-left : goal.decreases-loop-left
decreases-loop-left l = l.left
