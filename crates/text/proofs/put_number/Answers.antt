-- `text::put_number` meets its contract. The loop's invariant: what is left, written over the buffer as it is, makes
-- the buffer that is promised. The measure is what is left: its tenth is smaller. Assumes nothing.
use Prim.Native.Nat.{ℕ, ◌+◌, ◌-◌, ◌%◌, ◌/◌}
use mathlib.Core.Path.{◌≡◌, refl, ap, ◌∙◌}
use native.Mathlib.Omega.{arith}
use lib.ListN.{length, set, length-set}
use Rattle.text.specs.Text.{first_digit, decimal, written}
use Rattle.text.proofs.Decimal.{decimal_digit, decimal-more, decimal-short, length_more}
use Rattle.text.proofs.Written.{byte-at, byte-before}
use Rattle.text.proofs.put_number.Goals as goal

pub overflow_add-end : goal.overflow_add-end
overflow_add-end c = omega (arith, decimal-short 19 c.args.n (omega arith))

pub loop-left-init : goal.loop-left-init
loop-left-init c = (omega arith, omega arith, refl, refl)

pub overflow_sub-i : goal.overflow_sub-i
overflow_sub-i c = omega (arith, length_more c.loop-left.left (omega arith) (omega arith))

pub overflow_cast-out : goal.overflow_cast-out
overflow_cast-out c = omega arith

pub overflow_add-out : goal.overflow_add-out
overflow_add-out c = omega arith

pub bounds-out-i : goal.bounds-out-i
bounds-out-i c =
    omega (
      arith,
      length_more c.loop-left.left (omega arith) (omega arith),
      decimal-short 19 c.loop-left.left (omega arith),
    )

pub loop-left-smaller : goal.loop-left-smaller
loop-left-smaller c = omega arith

pub loop-left-preserved : goal.loop-left-preserved
loop-left-preserved c =
    let l = c.loop-left in
    let at = c.args.at in
    let d = first_digit + l.left % 10 in
    let more = length_more l.left (omega arith) (omega arith) in
    let few = decimal-short 19 l.left (omega arith) in
    let rest = decimal (l.left / 10) in
    let place : l.i - 1 ≡ at + length rest = omega arith in (
      omega arith,
      place,
      length-set l.out (l.i - 1) d ∙ l.invariant.2,
      ap (λ (j : ℕ). written (set l.out j d) at rest) place
          ∙ byte-before l.out rest at (omega arith) d (omega arith)
          ∙ ap (written l.out at) (decimal-more l.left (omega arith) (omega arith))
          ∙ l.invariant.3,
    )

pub overflow_cast-out-2 : goal.overflow_cast-out-2
overflow_cast-out-2 c = omega arith

pub overflow_add-out-2 : goal.overflow_add-out-2
overflow_add-out-2 c = omega arith

pub bounds-out-at : goal.bounds-out-at
bounds-out-at c = omega arith

pub shape_of-out : goal.shape_of-out
shape_of-out c = simp length-set c.loop-left.invariant.2

pub returns : goal.returns
returns c =
    let l = c.loop-left in
    let a = c.args in
    let few = decimal-short 19 a.n (omega arith) in record {
      wrote_at = record {
        ends = omega arith;
        bytes =
            byte-at l.out a.at (first_digit + l.left) (omega arith)
            ∙ ap (written l.out a.at) (decimal_digit l.left (omega arith))
            ∙ l.invariant.3;
      };
      upper_bound = omega arith;
    }
