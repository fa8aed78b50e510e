-- `tracing::awaits_sizes` meets its contract.
-- Assumes nothing.
use mathlib.Core.Path.{sym, ◌∙◌}
use borrow.Author.Tests.{ne_eqb}
use Rattle.rules.specs.Refusals.{bad_size}
use Rattle.tracing.proofs.stages.awaits_sizes.Goals as goal

pub returns-else-n-number : goal.returns-else-n-number
returns-else-n-number c =
    let n = c.number.ensures in
    rw (c.in-Refused.is, ne_eqb _ bad_size (λ e. c.if-n-number.false (e ∙ sym n)))
