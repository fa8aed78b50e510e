-- `calls::reply` meets its contract: 12, or the reply.
-- Assumes nothing.
use mathlib.Core.Path.{◌∙◌, ap, sym}
use native.Mathlib.Omega.{arith}
use Rattle.leaving.proofs.Found.{refills, yields}
use Rattle.rules.specs.Events.{reply}
use Rattle.rules.specs.Records.{known}
use Rattle.rules.specs.State.{is_serving}
use Rattle.rules.specs.Step.{moved_by}
use Rattle.answers.specs.declared.Answer.TheVariants.{ServerIdle}
use Rattle.answers.proofs.Answering.{accepts, fine, refuses}
use Rattle.calls.proofs.Charges.{reply-charge}
use Rattle.calls.proofs.Keys.{reply-keys}
use Rattle.calls.proofs.Refusing.{reply-fine, reply-idle}
use Rattle.calls.proofs.reply.Goals as goal

pub returns-then-not-is_serving : goal.returns-then-not-is_serving
returns-then-not-is_serving c =
    λ cs v s e h.
    refuses h (known reply) ServerIdle
    (reply-idle v s (c.is_serving.ensures ∙ ap is_serving h.queues.service.server)
    (c.if-not-is_serving.true)) (λ z. omega arith)

pub returns : goal.returns
unfolding moved_by
returns c =
    λ cs v s e h.
    let told = c.is_serving.ensures ∙ ap is_serving h.queues.service.server in
    let serves = c.if-not-is_serving.false in
    accepts reply (reply-fine v s told serves)
    (c.replied-n.ensures v s (fine h)
    (e.0, refills v s h.sound e.1 h.keys, yields v s h.sound (sym told ∙ serves)) h.queues)
    (reply-charge h)
    (reply-keys h.keys (sym h.queues.service.server) c.requires.0 (rw e.2 at c.replied.ensures))
