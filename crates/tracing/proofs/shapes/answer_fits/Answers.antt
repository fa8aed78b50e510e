-- `tracing::answer_fits` meets its contract.
-- Assumes nothing.
use mathlib.Core.Path.{sym, ◌∙◌}
use Rattle.tracing.proofs.shapes.answer_fits.Goals as goal

pub returns-then-carries_ranks : goal.returns-then-carries_ranks
returns-then-carries_ranks c =
    rw (sym c.carries_ranks.ensures ∙ c.if-carries_ranks.true) c.fit.ensures

pub returns : goal.returns
returns c =
    rw (sym c.carries_ranks.ensures ∙ c.if-carries_ranks.false) c.fit-2.ensures
