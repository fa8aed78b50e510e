-- `group_step::blocker` meets its contract.
-- Assumes nothing.
use Prim.Native.Nat.{ℕ, ◌<◌}
use mathlib.Core.Path.{sym, ap, ◌∙◌, subst}
use Rattle.std.proofs.lemmas.Result.{err_from_is_err_and}
use Rattle.group_rules.specs.Limits.{max_contexts}
use Rattle.group_rules.specs.Blocking.{to_blocker, blocker_of}
use Rattle.blocking.specs.Queue.{blocker_in}
use Rattle.blocking.proofs.Blocking.{blocker-in}
use Rattle.group_step.specs.Doors.{ask_answer, blocked_by}
use Rattle.group_step.proofs.Stepped.{ask-known, named-nobody, named-one}
use Rattle.group_step.proofs.blocker.Goals as goal

pub returns-in_err-i : goal.returns-in_err-i
unfolding blocked_by
returns-in_err-i c =
    let a = c.args in
    let p = err_from_is_err_and c.from_residual.result c.from_residual.ensures.1 in
    rw (p.1, p.2)
    (named-nobody (ask_answer a.g a.c.0) (to_blocker (blocker_of a.g a.c.0)) c.in_err-i.field-0.0 c.in_err-i.ensures.answer)

pub blocker-found-requires : goal.blocker-found-requires
blocker-found-requires c =
    subst (λ (i : ℕ). i < max_contexts) (sym c.in_ok-i.ensures.index)
    (ask-known c.args.g c.args.c.0 (sym c.in_ok-i.ensures.answer)).0

pub returns : goal.returns
unfolding blocked_by
returns c =
    let a = c.args in
    let is = c.in_ok-i.ensures in
    let k = ask-known a.g a.c.0 (sym is.answer) in
    let s = c.queued_sets-sets in
    named-one (ask_answer a.g a.c.0) (to_blocker (blocker_of a.g a.c.0)) (sym is.answer) c.context_of.result
    (c.context_of.ensures
    ∙ ap to_blocker (c.blocker-found.ensures.value
    ∙ ap (blocker_in a.g.times s.result) is.index
    ∙ blocker-in a.g s.result s.ensures.1 a.c.0 k.0 k.1))
