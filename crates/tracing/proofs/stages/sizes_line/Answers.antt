-- `tracing::sizes_line` meets its contract.
-- Assumes nothing.
use mathlib.Core.Path.{sym, ◌∙◌}
use Rattle.tracing.proofs.Fitting.{size-numbers}
use Rattle.tracing.proofs.stages.sizes_line.Goals as goal

pub returns-then-not-sizes_fit : goal.returns-then-not-sizes_fit
returns-then-not-sizes_fit c = (
  rw (sym c.sizes_fit.ensures ∙ c.if-not-sizes_fit.true) c.malformed.ensures,
  rw c.malformed.ensures c.requires,
)

pub with_sizes-requires : goal.with_sizes-requires
with_sizes-requires c =
    size-numbers c.args.t.setup.clusters c.args.vs.now
    (sym c.sizes_fit.ensures ∙ c.if-not-sizes_fit.false)

pub returns : goal.returns
returns c = (
  rw (sym c.sizes_fit.ensures ∙ c.if-not-sizes_fit.false, ← c.with_sizes.ensures)
      c.tabled.ensures.0,
  c.tabled.ensures.1,
)
