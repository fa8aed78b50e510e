-- `group_says::tickets_in` meets its contract. The loop's invariant: the first s numbers are copied.
-- Assumes nothing.
use native.Mathlib.Omega.{arith}
use mathlib.Core.Path.{refl, sym, ◌∙◌}
use lib.ListN.{get_or, length-set}
use lib.Seq.{take_all}
use Rattle.text.specs.Text.{bits8}
use Rattle.lines.proofs.Widths.{all-at, one-copied}
use Rattle.group_says.proofs.tickets_in.Goals as goal

pub loop-s-init : goal.loop-s-init
loop-s-init c = (refl, refl)

pub bounds-v-s : goal.bounds-v-s
bounds-v-s c = omega arith

pub overflow_cast-count : goal.overflow_cast-count
overflow_cast-count c = omega (arith, all-at bits8 c.args.v.now c.requires.1 c.loop-s.s)

pub loop-s-preserved : goal.loop-s-preserved
loop-s-preserved c = let v = c.args.v.now in
    let s = c.loop-s.s in (
      length-set c.loop-s.count-items s (get_or v s 0) ∙ c.loop-s.invariant.0,
      one-copied v c.loop-s.count-items s (omega arith) (omega arith) c.loop-s.invariant.1,
    )

pub returns : goal.returns
returns c = let v = c.args.v.now in
    sym (take_all c.loop-s.s c.loop-s.count-items (omega arith))
    ∙ c.loop-s.invariant.1
    ∙ take_all c.loop-s.s v (omega arith)
