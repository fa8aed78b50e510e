-- `tracing::entered` meets its contract.
-- Assumes nothing.
use Prim.Native.Nat.{ℕ, ◌+◌}
use native.Mathlib.Omega.{arith}
use mathlib.Core.Path.{◌≡◌, ◌∙◌, ap}
use lib.ListN.{get_or}
use Rattle.checking.specs.Checking.{served_in}
use Rattle.tracing.specs.Shapes.{EntryNumbers, served_of}
use Rattle.tracing.proofs.Fitting.{entry-numbers, served-cases}
use Rattle.tracing.proofs.Taken.{entered-is}
use Rattle.tracing.proofs.stages.entered.Goals as goal

pub byte-code-requires : goal.byte-code-requires
byte-code-requires c =
    let n : EntryNumbers c.args.t.checker.version c.args.vs.now =
    entry-numbers c.args.t.checker.version c.args.vs.now c.requires.vs_value.0 in
    omega (arith, c.value_at.ensures, n.code)

pub word-argument-requires : goal.word-argument-requires
word-argument-requires c =
    let n : EntryNumbers c.args.t.checker.version c.args.vs.now =
    entry-numbers c.args.t.checker.version c.args.vs.now c.requires.vs_value.0 in
    omega (arith, c.value_at-2.ensures, n.argument)

pub deadline_in-deadline-requires : goal.deadline_in-deadline-requires
deadline_in-deadline-requires c =
    let n : EntryNumbers c.args.t.checker.version c.args.vs.now =
    entry-numbers c.args.t.checker.version c.args.vs.now c.requires.vs_value.0 in
    n.deadline

pub word-answer-requires : goal.word-answer-requires
word-answer-requires c =
    let n : EntryNumbers c.args.t.checker.version c.args.vs.now =
    entry-numbers c.args.t.checker.version c.args.vs.now c.requires.vs_value.0 in
    rw (c.value_at-3.ensures, c.answer_at-at.ensures.0) n.answer

pub returns : goal.returns
returns c =
    let vs = c.args.vs.now in
    let place = c.answer_at-at.ensures.0 in
    let x = c.value_at-4.ensures ∙ ap (λ (n : ℕ). get_or vs (n + 1) 0) place in
    let who = c.served_in-served in
    let v = c.args.t.checker.version in
    let same : served_in who.result ≡ served_of c.value_at-4.result
    = served-cases v vs c.requires.vs_value.0 (λ h. who.ensures.0 (omega (arith, x))) (λ h. who.ensures.1 (x ∙ h)) in (
      entered-is c.args.t vs who.result (c.byte-code.ensures ∙ c.value_at.ensures)
          (c.word-argument.ensures ∙ c.value_at-2.ensures) c.deadline_in-deadline.ensures
          (c.word-answer.ensures ∙ c.value_at-3.ensures ∙ ap (λ (n : ℕ). get_or vs n 0) place)
          (same ∙ ap served_of x) c.requires.vs_value.1 c.check_sound-next.ensures.value,
      c.check_sound-next.ensures.going,
    )
