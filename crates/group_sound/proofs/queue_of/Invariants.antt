-- `group_sound::queue_of` meets its contract: the loop holds the queued contexts that it has passed.
-- Assumes nothing.
use mathlib.Core.Path.{◌≡◌}
use Rattle.sets.specs.Sets.{set_of}
use Rattle.group_sound.proofs.Times.{queued_in}
use Rattle.group_sound.proofs.queue_of.Given as goal

abbrev pub invariant-loop-c : goal.invariant-loop-c
invariant-loop-c l = l.queue ≡ set_of l.c (queued_in l.s-items)
