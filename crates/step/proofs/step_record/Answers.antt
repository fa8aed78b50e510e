-- `step::step_record` meets its contract.
-- Assumes nothing.
use mathlib.Core.Path.{ap, ◌∙◌}
use Rattle.step.specs.Stepped.{stepped}
use Rattle.step.proofs.step_record.Goals as goal

pub returns : goal.returns
returns c =
    c.step_heard.ensures ∙ ap (stepped c.args.g) c.heard_in.ensures
