-- `step::step_heard` meets its contract.
-- Assumes nothing.
use mathlib.Core.Path.{refl, sym, ◌∙◌}
use Rattle.answers.specs.declared.Answer.TheVariants.{Unsound}
use Rattle.step.proofs.Doors.{refused}
use Rattle.step.proofs.step_heard.Goals as goal

pub returns-then-not-sound : goal.returns-then-not-sound
returns-then-not-sound c =
    let g = c.args.g in
    refused g (sym c.sound.ensures ∙ c.if-not-sound.true) (record { answer = Unsound; gate = g }) _
    refl refl

pub sound_heard-requires : goal.sound_heard-requires
sound_heard-requires c = sym c.sound.ensures ∙ c.if-not-sound.false
