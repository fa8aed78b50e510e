-- `order::column` meets its contract. The loop's invariant: the places below i hold their fields.
-- Assumes nothing.
use Prim.Native.Nat.{ℕ, ◌+◌, ◌*◌}
use native.Mathlib.Omega.{arith}
use mathlib.Core.Path.{refl}
use lib.IntN.{ℤ, pos}
use lib.ListN.{get_or, length-set}
use Rattle.quote.proofs.Ranges.{read, read_back}
use Rattle.order.proofs.Columns.{stored}
use Rattle.order.proofs.column.Goals as goal

pub loop-i-init : goal.loop-i-init
loop-i-init c = (refl, λ q h. absurd (omega arith))

pub loop-i-preserved : goal.loop-i-preserved
loop-i-preserved c = let a = c.args in
    let f : ℕ → ℤ = λ q. get_or a.v.now (a.from + 3 * q) (pos 0) in
    let x = f c.loop-i.i in (
      simp length-set c.loop-i.invariant.0,
      stored f c.loop-i.out c.loop-i.i (read x) (omega arith) (read_back x c.x-1.given) c.loop-i.invariant.1,
    )

pub returns : goal.returns
returns c = let l = c.loop-i in
    (l.invariant.0, λ q h. l.invariant.1 q (omega arith))
