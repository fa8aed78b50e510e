-- `blocking::ticket_set` meets its contract: the loop holds the servers that it has passed.
-- Assumes nothing.
use mathlib.Core.Path.{◌≡◌}
use Rattle.sets.specs.Sets.{set_of}
use Rattle.blocking.proofs.Tickets.{ticket_for}
use Rattle.blocking.proofs.ticket_set.Given as goal

abbrev pub invariant-loop-s : goal.invariant-loop-s
invariant-loop-s l = l.set ≡ set_of l.s (ticket_for l.n-items)
