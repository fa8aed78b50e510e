-- `fields::end` meets its contract. The loop's invariant: from i on, the field ends where it ends from a on.
-- Assumes nothing.
use native.Mathlib.Omega.{arith}
use mathlib.Core.Path.{ap}
use lib.ListN.{drop_of_length-le}
use Rattle.fields.specs.Fields.{field_length}
use Rattle.fields.proofs.Fields.{at-separator, no-separator}
use Rattle.fields.proofs.end.Goals as goal

pub returns-then-s-i : goal.returns-then-s-i
returns-then-s-i c = let a = c.args in
    let here = at-separator a.separator a.s.now c.loop-i.i (omega arith) c.if-s-i.true in
    record { ends = omega arith; behind = omega arith; within = omega arith }

pub loop-i-preserved : goal.loop-i-preserved
loop-i-preserved c = let a = c.args in
    omega (arith, no-separator a.separator a.s.now c.loop-i.i (omega arith) c.if-s-i.false)

pub returns : goal.returns
returns c = let a = c.args in
    let here = ap (field_length a.separator) (drop_of_length-le a.s.now {i = c.loop-i.i} (omega arith)) in
    record { ends = omega arith; behind = omega arith; within = omega arith }
