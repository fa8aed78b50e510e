-- `leaving::spent_ended` meets its contract.
-- Assumes nothing.
use Rattle.rules.specs.Events.{freed}
use Rattle.leaving.proofs.Leaving.{shows-freed, shows-queue}
use Rattle.leaving.proofs.spent_ended.Goals as goal

pub returns : goal.returns
returns c =
    λ v s fine e h.
    shows-queue (rw e.0 at c.home-k.ensures) (freed s)
    (c.queued.ensures v (freed s) fine e (rw c.freed-free.ensures (shows-freed h)))
