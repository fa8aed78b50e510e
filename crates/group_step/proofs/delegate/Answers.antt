-- `group_step::delegate` meets its contract.
-- Assumes nothing.
use Prim.Native.Nat.{ℕ, ◌<◌}
use mathlib.Core.Path.{sym, ap₂, ◌∙◌, subst}
use Rattle.std.proofs.lemmas.Result.{err_from_is_err_and}
use Rattle.group_rules.specs.Limits.{max_contexts}
use Rattle.group_rules.specs.Blocking.{delegate_of}
use Rattle.blocking.specs.Delegates.{delegate_in}
use Rattle.blocking.proofs.Delegates.{delegate-in}
use Rattle.group_events.proofs.Told.{places-at}
use Rattle.group_step.specs.Doors.{ask_answer, delegates_to}
use Rattle.group_step.proofs.Stepped.{ask-known, named-nobody, named-one}
use Rattle.group_step.proofs.delegate.Goals as goal

pub returns-in_err-i : goal.returns-in_err-i
unfolding delegates_to
returns-in_err-i c =
    let a = c.args in
    let p = err_from_is_err_and c.from_residual.result c.from_residual.ensures.1 in
    rw (p.1, p.2)
    (named-nobody (ask_answer a.g a.c.0) (delegate_of a.g a.c.0) c.in_err-i.field-0.0 c.in_err-i.ensures.answer)

pub stack_of-requires : goal.stack_of-requires
stack_of-requires c =
    subst (λ (i : ℕ). i < max_contexts) (sym c.in_ok-i.ensures.index)
    (ask-known c.args.g c.args.c.0 (sym c.in_ok-i.ensures.answer)).0

pub delegates_to-requires : goal.delegates_to-requires
delegates_to-requires c =
    subst (λ (i : ℕ). i < max_contexts) (sym c.in_ok-i.ensures.index)
    (ask-known c.args.g c.args.c.0 (sym c.in_ok-i.ensures.answer)).0

pub returns : goal.returns
unfolding delegates_to
returns c =
    let a = c.args in
    let is = c.in_ok-i.ensures in
    let k = ask-known a.g a.c.0 (sym is.answer) in
    let s = c.queued_sets-sets in
    named-one (ask_answer a.g a.c.0) (delegate_of a.g a.c.0) (sym is.answer) c.delegates_to.result
    (c.delegates_to.ensures
    ∙ ap₂ (delegate_in a.g.times s.result)
    (places-at a.g is.index c.stack_of.ensures) is.index
    ∙ delegate-in a.g s.result s.ensures.1 a.c.0 k.0)
