-- `order::column` meets its contract. The loop's invariant: the places below i hold their fields.
-- Assumes nothing.
use Prim.Native.Nat.{ℕ, ◌+◌, ◌*◌, ◌<◌}
use mathlib.Core.Path.{◌≡◌}
use lib.IntN.{pos}
use lib.ListN.{length, get_or}
use Rattle.rules.specs.Limits.{max_lines}
use Rattle.order.proofs.column.Given as goal

abbrev pub invariant-loop-i : goal.invariant-loop-i
invariant-loop-i l =
    (length l.out ≡ max_lines)
    × ((q : ℕ) → q < l.i → get_or l.out q (pos 0) ≡ get_or l.v (l.from + 3 * q) (pos 0))
