-- `group_step::step` meets its contract: 19 before all else.
-- Assumes nothing.
use mathlib.Core.Path.{sym, ◌∙◌}
use Rattle.group_rules.specs.Events.{said}
use Rattle.group_step.proofs.Stepped.{unsound-stepped}
use Rattle.group_step.proofs.step.Goals as goal

pub returns-then-not-sound : goal.returns-then-not-sound
returns-then-not-sound c =
    let a = c.args in
    unsound-stepped a.g (said a.e a.tickets) (sym c.sound.ensures ∙ c.if-not-sound.true)

pub sound_step-requires : goal.sound_step-requires
sound_step-requires c = sym c.sound.ensures ∙ c.if-not-sound.false
