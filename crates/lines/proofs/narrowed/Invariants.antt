-- `lines::narrowed` meets its contract. The loop's invariant: i are copied, and the others fit exactly if all do.
-- Assumes nothing.
use mathlib.Core.Path.{◌≡◌}
use lib.ListN.{take, drop}
use Rattle.text.specs.Text.{bits32}
use Rattle.lines.specs.Lines.{all_fit}
use Rattle.lines.proofs.narrowed.Given as goal

abbrev pub invariant-loop-i : goal.invariant-loop-i
invariant-loop-i l =
    (all_fit bits32 (drop l.i l.values) ≡ all_fit bits32 l.values) × (take l.i l.out ≡ take l.i l.values)
