-- `lines::fit` meets its contract. The loop's invariant: the numbers from i on fit exactly if all do.
-- Assumes nothing.
use mathlib.Core.Path.{◌≡◌}
use lib.ListN.{length, drop}
use Rattle.lines.specs.Lines.{fit_in}
use Rattle.lines.proofs.fit.Given as goal

abbrev pub invariant-loop-i : goal.invariant-loop-i
invariant-loop-i l =
    (length l.widths ≡ length l.values)
    × (fit_in (drop l.i l.widths) (drop l.i l.values) ≡ fit_in l.widths l.values)
