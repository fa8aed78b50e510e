-- `form::without_cr` meets its contract.
-- Assumes nothing.
use Prim.Native.Nat.{◌<◌}
use native.Mathlib.Omega.{arith}
use Rattle.form.proofs.Text.{with-cr, with_none}
use Rattle.form.proofs.without_cr.Goals as goal

pub returns-then-k-eq0 : goal.returns-then-k-eq0
returns-then-k-eq0 c = (omega arith, rw c.if-k-eq0.true)

pub returns-then-room-k-eq-CR : goal.returns-then-room-k-eq-CR
returns-then-room-k-eq-CR c = let some : 0 < c.args.k = omega arith in
    (omega arith, with-cr c.args.room.now c.args.k c.requires some c.if-room-k-eq-CR.true)

pub returns-else-room-k-eq-CR : goal.returns-else-room-k-eq-CR
returns-else-room-k-eq-CR c = let some : 0 < c.args.k = omega arith in
    (omega arith, with_none c.args.room.now c.args.k c.requires some c.if-room-k-eq-CR.false)
