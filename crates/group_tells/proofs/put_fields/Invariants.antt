-- `group_tells::put_fields` meets its contract. The loop's invariant: the fields of the first c contexts are written.
-- Assumes nothing.
use Prim.Native.Nat.{◌+◌, ◌*◌, ◌≤◌}
use mathlib.Core.Path.{◌≡◌}
use lib.ListN.{length}
use Rattle.text.specs.Text.{WroteAt}
use Rattle.group_tells.specs.Tells.{field_bytes}
use Rattle.group_tells.proofs.Fields.{first_in}
use Rattle.group_tells.proofs.put_fields.Given as goal

abbrev pub invariant-loop-c : goal.invariant-loop-c
invariant-loop-c l =
    WroteAt l.at (first_in l.fn.g.times l.sets l.s-items l.c) l.initial.out l.out l.n × (l.n ≤ l.at + l.c * field_bytes)
    × (length l.out ≡ length l.initial.out)
