-- `group_sound::sound` meets its contract: every context that the loop has passed is sound.
-- Assumes nothing.
use mathlib.Core.Path.{◌≡◌}
use mathlib.Core.Bool.{true}
use Rattle.places.specs.Tests.{all_below}
use Rattle.group_rules.specs.Sound.{context_sound}
use Rattle.group_sound.proofs.sound.Given as goal

abbrev pub invariant-loop-c : goal.invariant-loop-c
invariant-loop-c l = all_below l.c (context_sound l.g) ≡ true
