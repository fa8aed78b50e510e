-- `group_step::sound_step` meets its contract, and keeps soundness.
-- Assumes nothing.
use mathlib.Core.Path.{◌≡◌, ◌∙◌}
use Rattle.group_rules.specs.Events.{said}
use Rattle.group_events.specs.Answers.{told_in}
use Rattle.group_step.specs.Doors.{stepped}
use Rattle.group_step.proofs.Stepped.{ruled-stepped, stepped-sound}
use Rattle.group_step.proofs.sound_step.Goals as goal

pub returns : goal.returns
returns c =
    let a = c.args in
    let x = said a.e a.tickets in
    let is : told_in c.returned.result ≡ stepped a.g x
    = c.returned.ensures ∙ c.after.ensures ∙ ruled-stepped a.g x c.requires in
    record { result_value = is; group_value = stepped-sound a.g x c.requires c.returned.result is }
