-- `step::sound_step` meets its contract: each kind of event by its own function's promise.
-- Assumes nothing.
use Rattle.step.proofs.sound_step.Goals as goal

pub returns-in-Invoke : goal.returns-in-Invoke
returns-in-Invoke c =
    λ v s g h.
    rw c.in-Invoke.is (c.invoke.ensures v s (g.kinds, g.homes, g.sizes, g.clients, g.timed) h)

pub returns-in-InvokeBy : goal.returns-in-InvokeBy
returns-in-InvokeBy c =
    λ v s g h.
    rw c.in-InvokeBy.is
    (c.invoke-in-InvokeBy.ensures v s (g.kinds, g.homes, g.sizes, g.clients, g.timed) h)

pub returns-in-Run : goal.returns-in-Run
returns-in-Run c = λ v s g h. rw c.in-Run.is (c.run.ensures v s (g.sizes, g.clusters, g.cap, g.tidy) h)

pub returns-in-Reply : goal.returns-in-Reply
returns-in-Reply c = λ v s g h. rw c.in-Reply.is (c.reply.ensures _ v s (g.homes, g.sizes, g.timed) h)

pub returns-in-Abort : goal.returns-in-Abort
returns-in-Abort c =
    λ v s g h.
    rw c.in-Abort.is (c.abort.ensures _ v s (g.kinds, g.homes, g.sizes, g.clients, g.timed) h)

pub returns-in-Ready : goal.returns-in-Ready
returns-in-Ready c = λ v s g h. rw c.in-Ready.is (c.ready.ensures _ _ v s tt h)
