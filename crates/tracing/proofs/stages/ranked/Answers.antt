-- `tracing::ranked` meets its contract.
-- Assumes nothing.
use mathlib.Core.Path.{refl, sym, ◌∙◌}
use Rattle.rules.proofs.Tests.{clash}
use Rattle.tracing.proofs.Taken.{ranks-known, ranks-unknown}
use Rattle.tracing.proofs.stages.ranked.Goals as goal

pub returns-then-is_ranks : goal.returns-then-is_ranks
returns-then-is_ranks c =
    (ranks-known c.args.q c.args.k (sym c.is_ranks.ensures ∙ c.if-is_ranks.true), c.requires)

pub returns : goal.returns
returns c = (
  ranks-unknown c.args.q c.args.k (sym c.is_ranks.ensures ∙ c.if-is_ranks.false),
  λ e. clash e refl,
)
