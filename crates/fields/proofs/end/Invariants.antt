-- `fields::end` meets its contract. The loop's invariant: from i on, the field ends where it ends from a on.
-- Assumes nothing.
use Prim.Native.Nat.{◌+◌}
use mathlib.Core.Path.{◌≡◌}
use lib.ListN.{drop}
use Rattle.fields.specs.Fields.{field_length}
use Rattle.fields.proofs.end.Given as goal

abbrev pub invariant-loop-i : goal.invariant-loop-i
invariant-loop-i l =
    l.i + field_length l.separator (drop l.i l.s) ≡ l.a + field_length l.separator (drop l.a l.s)
