-- The group is sound.
use Rattle.std.proofs.Common.{◌≡◌, true}
use Rattle.group_rules.specs.Sound.{sound_of}
use Rattle.group.proofs.answer.Given as goal

abbrev pub invariant-loop : goal.invariant-loop
invariant-loop g l = sound_of l.held.run.group ≡ true
