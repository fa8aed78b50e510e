-- `checking::check` meets its contract.
-- Assumes nothing.
use mathlib.Core.Path.{sym, ◌∙◌}
use Rattle.checking.specs.Checking.{seen_in}
use Rattle.checking.proofs.Steps.{checked-told, checked-by}
use Rattle.checking.proofs.check.Goals as goal

pub returns-then-not-is_agreeing : goal.returns-then-not-is_agreeing
returns-then-not-is_agreeing c =
    let k = c.args.k in
    sym (checked-told k _ _ (sym c.is_agreeing.ensures ∙ c.if-not-is_agreeing.true))

pub returns : goal.returns
returns c =
    let a = c.args in
    let step = c.step_heard-a in
    checked-by a.k _ (seen_in a.answer a.says a.charges.now) step.result _ _ _
    (sym c.is_agreeing.ensures ∙ c.if-not-is_agreeing.false)
    c.heard_in.ensures step.ensures c.number.ensures
    c.entered.ensures
