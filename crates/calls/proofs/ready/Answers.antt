-- `calls::ready` meets its contract: 26, or the pick.
-- Assumes nothing.
use mathlib.Core.Path.{◌∙◌, ap}
use native.Mathlib.Omega.{arith}
use Rattle.rules.specs.Events.{ready, readied}
use Rattle.rules.specs.Records.{known}
use Rattle.rules.specs.State.{is_tidying}
use Rattle.rules.specs.Step.{moved_by}
use Rattle.answers.specs.declared.Answer.TheVariants.{NotTidying}
use Rattle.answers.proofs.Answering.{accepts, fine, refuses}
use Rattle.calls.proofs.Charges.{ready-charge}
use Rattle.calls.proofs.Keys.{ready-keys}
use Rattle.calls.proofs.Refusing.{ready-fine, ready_refused}
use Rattle.calls.proofs.ready.Goals as goal

pub returns-then-not-is_tidying : goal.returns-then-not-is_tidying
returns-then-not-is_tidying c =
    λ cs ks v s e h.
    refuses h (known ready) NotTidying
    (ready_refused v s (c.is_tidying.ensures ∙ ap is_tidying h.queues.service.server)
    (c.if-not-is_tidying.true)) (λ z. omega arith)

pub returns : goal.returns
unfolding moved_by readied
returns c =
    λ cs ks v s e h.
    accepts ready
    (ready-fine v s (c.is_tidying.ensures ∙ ap is_tidying h.queues.service.server)
    (c.if-not-is_tidying.false))
    (c.picked-n.ensures v s (fine h) tt h.queues) (ready-charge h) (ready-keys h.keys)
