-- `tracing::row_fits` meets its contract.
-- Assumes nothing.
use Prim.Native.Nat.{ℕ}
use mathlib.Core.Path.{ap, ◌∙◌}
use mathlib.Core.List.{List}
use Rattle.lines.specs.Lines.{fit_in}
use Rattle.tracing.proofs.shapes.row_fits.Goals as goal

pub returns : goal.returns
returns c =
    c.fit.ensures ∙ ap (λ (ws : List ℕ). fit_in ws c.args.vs.now) c.row_form-form.ensures
