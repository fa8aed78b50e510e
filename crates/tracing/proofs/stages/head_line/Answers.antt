-- `tracing::head_line` meets its contract.
-- Assumes nothing.
use mathlib.Core.Path.{sym, ◌∙◌}
use Rattle.tracing.proofs.Fitting.{head-numbers}
use Rattle.tracing.proofs.stages.head_line.Goals as goal

pub returns-then-not-head_fits : goal.returns-then-not-head_fits
returns-then-not-head_fits c = (
  rw (sym c.head_fits.ensures ∙ c.if-not-head_fits.true) c.malformed.ensures,
  rw c.malformed.ensures c.requires,
)

pub headed-requires : goal.headed-requires
headed-requires c =
    head-numbers c.args.vs.now
    (sym c.head_fits.ensures ∙ c.if-not-head_fits.false)

pub returns : goal.returns
returns c = (
  rw (sym c.head_fits.ensures ∙ c.if-not-head_fits.false) c.headed.ensures.0,
  c.headed.ensures.1,
)
