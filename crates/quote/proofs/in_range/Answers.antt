-- `quote::in_range` meets its contract, by the sign, then the low end, then the high one.
-- Assumes nothing.
use Prim.Native.Nat.{ℕ}
use native.Mathlib.Omega.{arith}
use mathlib.Core.Path.{ap, ◌∙◌}
use lib.Dec.{leb}
use borrow.Author.Tests.{lt-leb}
use Rattle.quote.proofs.Ranges.{not_negative, negative-out, low-out, high-test, read, same-range}
use Rattle.quote.proofs.in_range.Goals as goal

pub returns-then-x-lt0 : goal.returns-then-x-lt0
returns-then-x-lt0 c = let a = c.args in
    negative-out a.low a.high (read a.x) c.if-x-lt0.true
    ∙ same-range a.low a.high a.x c.ranges.x.sfits

pub whole-n-requires : goal.whole-n-requires
whole-n-requires c = not_negative (read c.args.x) c.if-x-lt0.false

pub returns-else-low-n : goal.returns-else-low-n
returns-else-low-n c = let a = c.args in
    let t = not_negative (read a.x) c.if-x-lt0.false in
    lt-leb a.low c.whole-n.result (omega arith)
    ∙ low-out a.low a.high (read a.x) t (omega arith)
    ∙ same-range a.low a.high a.x c.ranges.x.sfits

pub returns-then-low-n : goal.returns-then-low-n
returns-then-low-n c = let a = c.args in
    let t = not_negative (read a.x) c.if-x-lt0.false in
    ap (λ (n : ℕ). leb n a.high) c.whole-n.ensures
    ∙ high-test a.low a.high (read a.x) t (omega arith)
    ∙ same-range a.low a.high a.x c.ranges.x.sfits
