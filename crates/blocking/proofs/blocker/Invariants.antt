-- `blocking::blocker` meets its contract: the loop holds the latest of those that it has passed.
-- Assumes nothing.
use mathlib.Core.Path.{◌≡◌}
use Rattle.rules.specs.Lists.{highest}
use Rattle.blocking.specs.Queue.{found_in, blocks_in}
use Rattle.blocking.proofs.Found.{later_by}
use Rattle.blocking.proofs.blocker.Given as goal

abbrev pub invariant-loop-b : goal.invariant-loop-b
invariant-loop-b l = found_in l.found ≡ highest (later_by l.times) (blocks_in l.times l.sets l.c) l.b
