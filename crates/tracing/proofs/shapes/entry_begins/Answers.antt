-- `tracing::entry_begins` meets its contract.
-- Assumes nothing.
use Prim.Native.Nat.{◌+◌}
use native.Mathlib.Omega.{arith}
use mathlib.Core.Path.{◌≡◌, sym, ◌∙◌}
use lib.Seq.{length-take-le}
use Rattle.tracing.specs.Shapes.{served_at}
use Rattle.tracing.proofs.Fitting.{too_few, first-unfit, served-fits, served-or-dash}
use Rattle.tracing.proofs.shapes.entry_begins.Goals as goal

pub returns-then-vs-served : goal.returns-then-vs-served
returns-then-vs-served c =
    let a = c.args in
    let served : c.answer_at-served.result + 1 ≡ served_at a.version = omega (arith, c.answer_at-served.ensures.0) in
    sym (too_few a.version a.vs.now _ served c.if-vs-served.true)

pub slice_bounds-answer_fits-end : goal.slice_bounds-answer_fits-end
slice_bounds-answer_fits-end c =
    sym (length-take-le _ c.args.vs.now (omega (arith, c.if-vs-served.false)))

pub returns-then-not-answer_fits : goal.returns-then-not-answer_fits
returns-then-not-answer_fits c =
    let a = c.args in
    let served : c.answer_at-served.result + 1 ≡ served_at a.version = omega (arith, c.answer_at-served.ensures.0) in
    sym (first-unfit a.version a.vs.now _ served (omega (arith, c.if-vs-served.false))
    (sym c.answer_fits.ensures ∙ c.if-not-answer_fits.true))

pub returns-then-vs-served-le-BITS_16 : goal.returns-then-vs-served-le-BITS_16
returns-then-vs-served-le-BITS_16 c =
    let a = c.args in
    let served : c.answer_at-served.result + 1 ≡ served_at a.version = omega (arith, c.answer_at-served.ensures.0) in
    sym (served-fits a.version a.vs.now _ served (omega (arith, c.if-vs-served.false))
    (sym c.answer_fits.ensures ∙ c.if-not-answer_fits.false) c.if-vs-served-le-BITS_16.true)

pub returns : goal.returns
returns c =
    let a = c.args in
    let served : c.answer_at-served.result + 1 ≡ served_at a.version = omega (arith, c.answer_at-served.ensures.0) in
    sym (served-or-dash a.version a.vs.now _ served (omega (arith, c.if-vs-served.false))
    (sym c.answer_fits.ensures ∙ c.if-not-answer_fits.false) (omega (arith, c.if-vs-served-le-BITS_16.false)))
