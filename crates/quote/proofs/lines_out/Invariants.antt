-- `quote::lines_out` meets its contract. The loop's invariant: the first bad field of the lines that are left,
-- counted from the first line, is that of all lines.
-- Assumes nothing.
use Prim.Native.Nat.{◌+◌, ◌*◌}
use mathlib.Core.Path.{◌≡◌}
use lib.ListN.{drop}
use Rattle.rules.specs.Quote.{lines_fit, first_false}
use Rattle.quote.proofs.lines_out.Given as goal

abbrev pub invariant-loop-i : goal.invariant-loop-i
invariant-loop-i l =
    3 * l.i + first_false (lines_fit (drop l.i l.calls) (drop l.i l.caps) (drop l.i l.tidies))
    ≡ first_false (lines_fit l.calls l.caps l.tidies)
