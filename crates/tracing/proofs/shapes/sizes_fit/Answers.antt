-- `tracing::sizes_fit` meets its contract.
-- Assumes nothing.
use Prim.Native.Nat.{ℕ, ◌<◌}
use native.Mathlib.Omega.{arith}
use mathlib.Core.Path.{sym, ap, ap₂, ◌∙◌}
use mathlib.Core.List.{List}
use lib.ListN.{length, take, length-replicate}
use lib.Seq.{length-take-le}
use Rattle.text.specs.Text.{bits8}
use Rattle.lines.specs.Lines.{fit_in}
use Rattle.items.proofs.Sizes.{first-sizes}
use borrow.Author.Rules.{rules}
use Rattle.tracing.proofs.shapes.sizes_fit.Goals as goal

pub slice_bounds-fit-end : goal.slice_bounds-fit-end
slice_bounds-fit-end c =
    let low : c.args.k < 256 = search rules in
    sym (length-take-le c.from-n.result c.sizes_all-all.result
    (omega (
      arith,
      ap length c.sizes_all-all.ensures,
      length-replicate 256 bits8,
      low,
      c.from-n.ensures,
    )))

pub returns : goal.returns
returns c =
    let low : c.args.k < 256 = search rules in
    c.fit.ensures
    ∙ ap₂ (λ (n : ℕ) (ws : List ℕ). fit_in (take n ws) c.args.vs.now) c.from-n.ensures
    c.sizes_all-all.ensures
    ∙ ap (λ (ws : List ℕ). fit_in ws c.args.vs.now) (first-sizes c.args.k 256 (omega (arith, low)))
