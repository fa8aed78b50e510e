-- `traces::judging::judge` meets its contract, by the stage.
-- Assumes nothing.
use mathlib.Core.Path.{sym, ap, ◌∙◌}
use Rattle.tracing.specs.declared.Stage.{Stage}
use Rattle.traces.specs.Reading.{begun_in}
use Rattle.traces.specs.Judgement.{agreed, by_verdict, by_stage}
use Rattle.traces.proofs.judging.judge.Goals as goal

pub returns-in-Head : goal.returns-in-Head
returns-in-Head c = rw c.in-Head.is c.lacking_line.ensures

pub returns-in-Sizes : goal.returns-in-Sizes
returns-in-Sizes c = rw c.in-Sizes.is c.lacking_line-in-Sizes.ensures

pub returns-in-Rows : goal.returns-in-Rows
returns-in-Rows c = rw c.in-Rows.is c.lacking_line-in-Rows.ensures

pub returns-in-Entries : goal.returns-in-Entries
returns-in-Entries c =
    let h = c.args.held in
    let v = h.trace.checker.verdict in
    c.by_verdict.ensures
    ∙ ap (by_verdict v) c.all_agree.ensures
    ∙ ap (λ (s : Stage). by_stage s v h.trace (agreed h.trace (begun_in h)))
    (sym c.in-Entries.is)

pub returns-in-Malformed : goal.returns-in-Malformed
returns-in-Malformed c = rw c.in-Malformed.is
