-- `seen::queue_seen` meets its contract: who is seen from here on is who is seen in the whole queue.
-- Assumes nothing.
use mathlib.Core.Path.{◌≡◌}
use lib.ListN.{drop}
use Rattle.sets.specs.Sets.{member}
use Rattle.seen.specs.Seen.{queue_seen}
use Rattle.seen.proofs.queue_seen.Given as goal

abbrev pub invariant-loop-i : goal.invariant-loop-i
invariant-loop-i l = queue_seen (member l.known) (drop l.i l.q) l.everyone ≡ queue_seen (member l.known) l.q l.others
