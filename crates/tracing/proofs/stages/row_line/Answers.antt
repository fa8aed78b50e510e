-- `tracing::row_line` meets its contract.
-- Assumes nothing.
use mathlib.Core.Path.{sym, ◌∙◌}
use Rattle.tracing.proofs.Fitting.{row-numbers}
use Rattle.tracing.proofs.stages.row_line.Goals as goal

pub returns-then-not-row_fits : goal.returns-then-not-row_fits
returns-then-not-row_fits c = (
  rw (sym c.row_fits.ensures ∙ c.if-not-row_fits.true) c.malformed.ensures,
  rw c.malformed.ensures c.requires,
)

pub with_row-requires : goal.with_row-requires
with_row-requires c =
    row-numbers c.args.vs.now
    (sym c.row_fits.ensures ∙ c.if-not-row_fits.false)

pub returns : goal.returns
returns c = (
  rw (
    sym c.row_fits.ensures ∙ c.if-not-row_fits.false,
    ← c.next_count.ensures,
    ← c.with_row.ensures,
  ) c.tabled.ensures.0,
  c.tabled.ensures.1,
)
