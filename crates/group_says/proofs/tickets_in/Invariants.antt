-- `group_says::tickets_in` meets its contract. The loop's invariant: the first s numbers are copied.
-- Assumes nothing.
use mathlib.Core.Path.{◌≡◌}
use lib.ListN.{length, take}
use Rattle.group_rules.specs.Limits.{max_servers}
use Rattle.group_says.proofs.tickets_in.Given as goal

abbrev pub invariant-loop-s : goal.invariant-loop-s
invariant-loop-s l = (length l.count-items ≡ max_servers) × (take l.s l.count-items ≡ take l.s l.v)
