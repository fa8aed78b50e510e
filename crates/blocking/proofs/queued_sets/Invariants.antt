-- `blocking::queued_sets` meets its contract: the loop holds the sets of those that it has passed.
-- Assumes nothing.
use Prim.Native.Nat.{ℕ, ◌<◌}
use mathlib.Core.Path.{◌≡◌}
use lib.ListN.{length, get_or}
use Rattle.group_rules.specs.Limits.{max_contexts}
use Rattle.group_rules.specs.Groups.{no_tickets, no_calls}
use Rattle.blocking.specs.Queue.{queued_set}
use Rattle.blocking.proofs.queued_sets.Given as goal

abbrev pub invariant-loop-c : goal.invariant-loop-c
invariant-loop-c l =
    (length l.set-items ≡ max_contexts)
    × ((i : ℕ) → i < l.c
    → get_or l.set-items i 0 ≡ queued_set (get_or l.tickets i no_tickets).counts (get_or l.stacks i no_calls).places)
