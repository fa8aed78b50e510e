-- `group_sound::time_sound` meets its contract: nobody that the loop has passed has the timestamp.
-- Assumes nothing.
use mathlib.Core.Path.{◌≡◌}
use mathlib.Core.Bool.{false}
use Rattle.rules.specs.Lists.{some_below}
use Rattle.group_sound.specs.Answers.{has_time}
use Rattle.group_sound.proofs.time_sound.Given as goal

abbrev pub invariant-loop-b : goal.invariant-loop-b
invariant-loop-b l = some_below (has_time l.g.times l.others l.c) l.b ≡ false
