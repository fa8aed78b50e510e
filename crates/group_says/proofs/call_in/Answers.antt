-- `group_says::call_in` meets its contract, by whether the numbers fit a call.
-- Assumes nothing.
use Prim.Native.Nat.{ℕ}
use native.Mathlib.Omega.{arith}
use mathlib.Core.Path.{◌≡◌, sym, ◌∙◌}
use mathlib.Core.Bool.{Bool, true}
use mathlib.Core.List.{List, [], ◌∷◌}
use Rattle.text.specs.Text.{bits8}
use Rattle.lines.specs.Lines.{fit_in}
use Rattle.lines.proofs.Widths.{fit_length, fit_at}
use Rattle.group_says.specs.Says.{call_in}
use Rattle.group_says.proofs.call_in.Goals as goal

-- past the test, they fit
fits : (v : List ℕ) {b : Bool} → b ≡ fit_in (bits8 ∷ bits8 ∷ []) v → b ≡ true → fit_in (bits8 ∷ bits8 ∷ []) v ≡ true
fits v e t = sym e ∙ t

pub returns-then-not-fit : goal.returns-then-not-fit
unfolding call_in
returns-then-not-fit c =
    let other = sym c.fit.ensures ∙ c.if-not-fit.true in
    rw other

pub bounds-v-0 : goal.bounds-v-0
bounds-v-0 c = omega (arith, fit_length _ _ (fits c.args.v.now c.fit.ensures c.if-not-fit.false))

pub overflow_cast-result : goal.overflow_cast-result
overflow_cast-result c = omega (arith, fit_at _ _ (fits c.args.v.now c.fit.ensures c.if-not-fit.false) 0)

pub bounds-v-1 : goal.bounds-v-1
bounds-v-1 c = omega (arith, fit_length _ _ (fits c.args.v.now c.fit.ensures c.if-not-fit.false))

pub overflow_cast-result-2 : goal.overflow_cast-result-2
overflow_cast-result-2 c = omega (arith, fit_at _ _ (fits c.args.v.now c.fit.ensures c.if-not-fit.false) 1)

pub returns : goal.returns
unfolding call_in
returns c = rw (fits c.args.v.now c.fit.ensures c.if-not-fit.false)
