-- `tracing::served_in` meets its contract.
-- Assumes nothing.
use native.Mathlib.Omega.{arith}
use borrow.Author.Tests.{eq-eqb, ne_eqb}
use Rattle.lines.specs.Lines.{dash}
use Rattle.tracing.proofs.shapes.served_in.Goals as goal

pub returns-then-x-gt-BITS_16 : goal.returns-then-x-gt-BITS_16
returns-then-x-gt-BITS_16 c = (λ h. absurd (omega (arith, c.if-x-gt-BITS_16.true)), λ e. rw (eq-eqb _ dash e))

pub returns : goal.returns
returns c =
    let x = c.args.x in (
      λ h. rw (ne_eqb x dash (λ e. omega arith), c.word.ensures),
      λ e. absurd (omega (arith, c.if-x-gt-BITS_16.false)),
    )
