-- `quote::lines_burn` meets its contract. The loop's invariant: the sum and what the lines that are left burn make
-- what all lines burn.
-- Assumes nothing.
use Prim.Native.Nat.{◌+◌, ◌*◌, ◌≤◌}
use mathlib.Core.Path.{◌≡◌}
use lib.ListN.{drop}
use Rattle.rules.specs.Quote.{burnt}
use Rattle.quote.specs.Steps.{most_of_line}
use Rattle.quote.proofs.lines_burn.Given as goal

abbrev pub invariant-loop-i : goal.invariant-loop-i
invariant-loop-i l =
    (l.sum + burnt l.m l.k (drop l.i l.calls) (drop l.i l.caps) (drop l.i l.tidies)
    ≡ burnt l.m l.k l.calls l.caps l.tidies)
    × (l.sum ≤ l.i * most_of_line)
