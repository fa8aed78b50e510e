-- `running::passes_cap` meets its contract.
-- Assumes nothing.
use Prim.Native.Nat.{◌+◌}
use mathlib.Core.Path.{sym}
use native.Mathlib.Omega.{arith}
use borrow.Author.Tests.{lt-ltb}
use Rattle.charging.proofs.Growing.{past_is}
use Rattle.running.proofs.passes_cap.Goals as goal

pub returns-then-cap-n : goal.returns-then-cap-n
returns-then-cap-n c =
    let a = c.args in
    sym (lt-ltb a.cap (a.units + a.n) (omega arith))

pub returns : goal.returns
returns c =
    let a = c.args in
    rw c.from.ensures (past_is a.cap a.units a.n (omega arith))
