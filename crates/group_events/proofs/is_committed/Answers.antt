-- `group_events::is_committed` meets its contract: nobody blocks a queued context that is committed.
-- Assumes nothing.
use mathlib.Core.Path.{sym, ap, ◌∙◌}
use Rattle.blocking.specs.Queue.{is_nobody}
use Rattle.blocking.proofs.Found.{none-nobody}
use Rattle.blocking.proofs.Blocking.{committed-in}
use Rattle.group_events.proofs.is_committed.Goals as goal

pub returns : goal.returns
returns c =
    let s = c.queued_sets-sets in
    none-nobody c.blocker.result c.is_none.result c.is_none.ensures ∙ ap is_nobody c.blocker.ensures.value
    ∙ sym (committed-in c.args.g s.result s.ensures.1 c.args.c c.requires.0 c.requires.1)
