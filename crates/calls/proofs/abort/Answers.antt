-- `calls::abort` meets its contract: 10, 16, 15, 17, or the abort.
-- Assumes nothing.
use Prim.Native.Nat.{◌<◌}
use mathlib.Core.Path.{◌∙◌, ap}
use native.Mathlib.Omega.{arith}
use Rattle.leaving.proofs.Found.{refills, turn}
use Rattle.presence.proofs.Here.{waits-is}
use Rattle.rules.specs.Events.{abort}
use Rattle.rules.specs.Limits.{max_clients}
use Rattle.rules.specs.Records.{known}
use Rattle.rules.specs.State.{is_spent}
use Rattle.rules.specs.Step.{moved_by}
use Rattle.answers.specs.declared.Answer.TheVariants.{BestEffort, NoClient, NotWaiting, SpentAlready}
use Rattle.answers.proofs.Answering.{accepts, fine, refuses}
use Rattle.calls.proofs.Charges.{abort-charge}
use Rattle.calls.proofs.Keys.{abort-keys}
use Rattle.calls.proofs.Refusing.{abort-absent, abort-effort, abort-fine, abort-spent, abort-unknown}
use Rattle.calls.proofs.abort.Goals as goal

pub returns-then-from-c : goal.returns-then-from-c
returns-then-from-c c =
    let d = c.args.c.0 in
    λ cs v s e h.
    refuses h (known (abort d)) NoClient (abort-unknown v s d (c.from.ensures ∙ e.3) c.if-from-c.true)
    (λ z. omega arith)

pub returns-then-not-is_real_time : goal.returns-then-not-is_real_time
returns-then-not-is_real_time c =
    let d = c.args.c.0 in
    λ cs v s e h.
    refuses h (known (abort d)) BestEffort
    (abort-effort v s d (c.from.ensures ∙ e.3) c.if-from-c.false (rw e.0 at c.is_real_time.ensures)
    c.if-not-is_real_time.true)
    (λ z. omega arith)

pub returns-then-is_spent : goal.returns-then-is_spent
returns-then-is_spent c =
    let d = c.args.c.0 in
    λ cs v s e h.
    refuses h (known (abort d)) SpentAlready
    (abort-spent v s d (c.from.ensures ∙ e.3) c.if-from-c.false (rw e.0 at c.is_real_time.ensures)
    c.if-not-is_real_time.false
    (rw c.from-2.ensures at c.is_spent.ensures ∙ ap (λ x. is_spent x d) h.queues.service.server)
    c.if-is_spent.true)
    (λ z. omega arith)

pub returns-then-not-waits : goal.returns-then-not-waits
returns-then-not-waits c =
    let d = c.args.c.0 in
    λ cs v s e h.
    refuses h (known (abort d)) NotWaiting
    (abort-absent v s d (c.from.ensures ∙ e.3) c.if-from-c.false (rw e.0 at c.is_real_time.ensures)
    c.if-not-is_real_time.false
    (rw c.from-2.ensures at c.is_spent.ensures ∙ ap (λ x. is_spent x d) h.queues.service.server)
    c.if-is_spent.false (c.waits.ensures ∙ waits-is h.queues (rw e.1 at c.home-k.ensures) _ _) c.if-not-waits.true)
    (λ z. omega arith)

pub returns : goal.returns
unfolding moved_by
returns c =
    let d = c.args.c.0 in
    let low : d < max_clients = omega (arith, c.from.ensures, c.requires) in
    λ cs v s e h.
    accepts (abort d)
    (abort-fine v s d (c.from.ensures ∙ e.3) c.if-from-c.false (rw e.0 at c.is_real_time.ensures)
    c.if-not-is_real_time.false
    (rw c.from-2.ensures at c.is_spent.ensures ∙ ap (λ x. is_spent x d) h.queues.service.server)
    c.if-is_spent.false (c.waits.ensures ∙ waits-is h.queues (rw e.1 at c.home-k.ensures) _ _) c.if-not-waits.false)
    (c.aborted-n.ensures v s (fine h) (e.1, refills v s h.sound e.2 h.keys, turn v s h.sound d) h.queues)
    (abort-charge h d) (abort-keys h.keys d low (rw e.4 at c.due.ensures))
