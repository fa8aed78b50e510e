-- `running::answered` meets its contract: 13, 12, 14, or what is left of the run.
-- Assumes nothing.
use Prim.Native.Nat.{◌+◌, ◌<◌}
use mathlib.Core.Path.{◌∙◌, ap, ap₂, sym}
use native.Mathlib.Omega.{arith}
use lib.Dec.{ltb}
use borrow.Author.Rules.{rules}
use borrow.Author.Tests.{ltb-false}
use Rattle.rules.specs.Events.{run}
use Rattle.rules.specs.Records.{known}
use Rattle.rules.specs.State.{cap_of, is_idle}
use Rattle.gate.specs.Shown.{setup_of}
use Rattle.answers.specs.declared.Answer.TheVariants.{RunOfNone, RunPastCap, ServerIdle}
use Rattle.answers.proofs.Answering.{refuses}
use Rattle.running.proofs.Running.{run-charges, run-idle, run_none, run_past}
use Rattle.running.proofs.answered.Goals as goal

pub returns-then-n-eq0 : goal.returns-then-n-eq0
returns-then-n-eq0 c =
    let n = c.args.n in
    λ q lines rooms service v s e h.
    rw (← service) (refuses h (known (run n)) RunOfNone (run_none v s n c.if-n-eq0.true) (λ z. omega arith))

pub returns-then-is_idle : goal.returns-then-is_idle
returns-then-is_idle c =
    let n = c.args.n in
    λ q lines rooms service v s e h.
    let idle = c.is_idle.ensures ∙ ap is_idle (rw service at h.queues.service.server) in
    rw (← service)
    (refuses h (known (run n)) ServerIdle (run-idle v s idle n c.if-n-eq0.false c.if-is_idle.true)
    (λ z. omega arith))

pub returns-then-passes_cap : goal.returns-then-passes_cap
returns-then-passes_cap c =
    let n = c.args.n in
    λ q lines rooms service v s e h.
    let idle = c.is_idle.ensures ∙ ap is_idle (rw service at h.queues.service.server) in
    let past = c.passes_cap.ensures
    ∙ ap₂ (λ l m. ltb l (m + n))
    (c.cap_of.ensures ∙ e.2 ∙ ap (cap_of (setup_of v)) (rw service at h.queues.service.server))
    (rw service at h.queues.service.units) in
    rw (← service)
    (refuses h (known (run n)) RunPastCap (run_past v s idle n c.if-n-eq0.false
    c.if-is_idle.false past c.if-passes_cap.true) (λ z. omega arith))

pub charged-requires : goal.charged-requires
charged-requires c =
    let fits = ltb-false c.cap_of.result _ (sym c.passes_cap.ensures ∙ c.if-passes_cap.false) in
    let low : c.cap_of.result < 65536 = search rules in
    (c.requires, omega arith)

pub returns : goal.returns
returns c =
    let n = c.args.n in
    λ q lines rooms service v s e h.
    let idle = c.is_idle.ensures ∙ ap is_idle (rw service at h.queues.service.server) in
    let past = c.passes_cap.ensures
    ∙ ap₂ (λ l m. ltb l (m + n))
    (c.cap_of.ensures ∙ e.2 ∙ ap (cap_of (setup_of v)) (rw service at h.queues.service.server))
    (rw service at h.queues.service.units) in
    run-charges v s idle n c.if-n-eq0.false c.if-is_idle.false past
    c.if-passes_cap.false
    (c.charged.ensures q lines rooms service v s (e.0, e.1) h)
