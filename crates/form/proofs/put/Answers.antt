-- `form::put` meets its contract: past its end, a store changes nothing.
-- Assumes nothing.
use native.Mathlib.Omega.{arith}
use mathlib.Core.Path.{sym}
use lib.Seq.{set_out}
use Rattle.form.proofs.put.Goals as goal

pub returns-else-k-room : goal.returns-else-k-room
returns-else-k-room c = let a = c.args in
    record { value = omega arith; room_after = sym (set_out a.room.now a.k a.b c.if-k-room.false) }
