-- `Group::none_entered` meets its contract.
-- Assumes nothing.
use Rattle.group_rules.proofs.Group.none_entered.Goals as goal

pub returns : goal.returns
returns c = rw (c.no_tickets-t.ensures, c.no_calls-s.ensures)
