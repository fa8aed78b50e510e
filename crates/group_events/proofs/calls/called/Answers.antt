-- `group_events::called` meets its contract.
-- Assumes nothing.
use Rattle.group_rules.specs.Events.{called}
use Rattle.group_events.proofs.calls.called.Goals as goal

pub returns : goal.returns
unfolding called
returns c = rw (c.pushed.ensures, c.stack_of.ensures)
