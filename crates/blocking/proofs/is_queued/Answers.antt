-- `blocking::is_queued` meets its contract: the first place is used.
-- Assumes nothing.
use borrow.Author.Rules.{rules}
use Rattle.blocking.proofs.Tickets.{queued-first}
use Rattle.blocking.proofs.is_queued.Goals as goal

pub returns : goal.returns
returns c = queued-first c.args.s.places (search rules)
