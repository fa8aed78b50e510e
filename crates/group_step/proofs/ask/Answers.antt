-- `group_step::ask` meets its contract: each test in its order.
-- Assumes nothing.
use mathlib.Core.Path.{sym, ap, ◌∙◌}
use native.Mathlib.Omega.{arith}
use Rattle.std.proofs.lemmas.Result.{err_from_is_err_and}
use Rattle.group_events.specs.Answers.{refusal_of}
use Rattle.group_events.proofs.Told.{queued-at}
use Rattle.group_step.proofs.Stepped.{ask-unsound, ask-no-context, ask_out, ask_in}
use Rattle.group_step.proofs.ask.Goals as goal

pub returns-then-not-sound-clause-answer : goal.returns-then-not-sound-clause-answer
returns-then-not-sound-clause-answer c =
    let a = c.args in
    sym (ask-unsound a.g a.c.0 (sym c.sound.ensures ∙ c.if-not-sound.true))

pub returns-in_err-i-clause-answer : goal.returns-in_err-i-clause-answer
returns-in_err-i-clause-answer c =
    let a = c.args in
    let p = err_from_is_err_and c.from_residual.result c.from_residual.ensures.1 in
    rw (p.1, p.2)
    (ap refusal_of c.in_err-i.ensures.0
    ∙ sym (ask-no-context a.g a.c.0 (sym c.sound.ensures ∙ c.if-not-sound.false) c.in_err-i.ensures.1))

pub returns-then-not-is_queued-clause-answer : goal.returns-then-not-is_queued-clause-answer
returns-then-not-is_queued-clause-answer c =
    let a = c.args in
    sym (ask_out a.g a.c.0 (sym c.sound.ensures ∙ c.if-not-sound.false)
    (omega (arith, c.in_ok-i.ensures)) (sym (queued-at a.g c.in_ok-i.ensures.0 c.stack_of.ensures c.is_queued.ensures) ∙ c.if-not-is_queued.true))

pub returns-clause-answer : goal.returns-clause-answer
returns-clause-answer c =
    let a = c.args in
    sym (ask_in a.g a.c.0 (sym c.sound.ensures ∙ c.if-not-sound.false)
    (omega (arith, c.in_ok-i.ensures)) (sym (queued-at a.g c.in_ok-i.ensures.0 c.stack_of.ensures c.is_queued.ensures) ∙ c.if-not-is_queued.false))
