-- `group_events::gone` meets its contract.
-- Assumes nothing.
use Rattle.group_rules.specs.Events.{gone}
use Rattle.group_events.proofs.replies.gone.Goals as goal

pub returns : goal.returns
unfolding gone
returns c = rw (c.no_tickets.ensures, c.no_calls.ensures)
