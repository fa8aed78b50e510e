-- `tracing::answer_at` meets its contract.
-- Assumes nothing.
use native.Mathlib.Omega.{arith}
use mathlib.Core.Path.{sym, ◌∙◌}
use Rattle.tracing.proofs.shapes.answer_at.Goals as goal

pub returns-then-carries_ranks : goal.returns-then-carries_ranks
returns-then-carries_ranks c =
    (rw (sym c.carries_ranks.ensures ∙ c.if-carries_ranks.true), omega arith)

pub returns : goal.returns
returns c =
    (rw (sym c.carries_ranks.ensures ∙ c.if-carries_ranks.false), omega arith)
