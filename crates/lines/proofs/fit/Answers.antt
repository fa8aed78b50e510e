-- `lines::fit` meets its contract. The loop's invariant: the numbers from i on fit exactly if all do.
-- Assumes nothing.
use native.Mathlib.Omega.{arith}
use mathlib.Core.Path.{sym, ◌∙◌}
use Rattle.lines.proofs.Widths.{other-count, too_wide, fits-here, all-passed}
use Rattle.lines.proofs.fit.Goals as goal

pub returns-then-widths-values : goal.returns-then-widths-values
returns-then-widths-values c = let a = c.args in sym (other-count a.widths.now a.values.now c.if-widths-values.true)

pub returns-then-widths-i : goal.returns-then-widths-i
returns-then-widths-i c = let a = c.args in
    sym (too_wide a.widths.now a.values.now c.loop-i.i (omega arith) (omega arith) c.if-widths-i.true)
    ∙ c.loop-i.invariant.1

pub loop-i-preserved : goal.loop-i-preserved
loop-i-preserved c = let a = c.args in (
  omega arith,
  sym (fits-here a.widths.now a.values.now c.loop-i.i (omega arith) (omega arith) c.if-widths-i.false)
      ∙ c.loop-i.invariant.1,
)

pub returns : goal.returns
returns c = let a = c.args in
    sym (all-passed a.widths.now a.values.now c.loop-i.i (omega arith) (omega arith)) ∙ c.loop-i.invariant.1
