-- `group_says::entry-in` meets its contract, by whether the numbers fit an entry.
-- Assumes nothing.
use native.Mathlib.Omega.{arith}
use Prim.Native.Nat.{ℕ}
use mathlib.Core.Path.{◌≡◌, refl, sym, ap, ◌∙◌}
use mathlib.Core.Bool.{Bool, true}
use mathlib.Core.List.{List}
use mathlib.Core.Option.{some}
use lib.ListN.{get_or}
use Rattle.lines.specs.Lines.{fit_in}
use Rattle.lines.proofs.Widths.{fit_at}
use Rattle.group_rules.specs.Events.{entry}
use Rattle.group_says.specs.Says.{entry_widths, entry_in}
use Rattle.group_says.proofs.Events.{entry_length, entry-tickets, tickets-fit}
use Rattle.group_says.proofs.entry_in.Goals as goal

-- past the test, they fit
fits : (v : List ℕ) {b : Bool} → b ≡ fit_in entry_widths v → b ≡ true → fit_in entry_widths v ≡ true
fits v e t = sym e ∙ t

pub returns-then-not-fit : goal.returns-then-not-fit
unfolding entry_in
returns-then-not-fit c =
    let other = sym c.fit.ensures ∙ c.if-not-fit.true in
    rw other

pub bounds-v-0 : goal.bounds-v-0
bounds-v-0 c = omega (arith, entry_length _ (fits c.args.v.now c.fit.ensures c.if-not-fit.false))

pub overflow_cast-result : goal.overflow_cast-result
overflow_cast-result c = omega (arith, fit_at _ _ (fits c.args.v.now c.fit.ensures c.if-not-fit.false) 0)

pub bounds-v-1 : goal.bounds-v-1
bounds-v-1 c = omega (arith, entry_length _ (fits c.args.v.now c.fit.ensures c.if-not-fit.false))

pub bounds-v-2 : goal.bounds-v-2
bounds-v-2 c = omega (arith, entry_length _ (fits c.args.v.now c.fit.ensures c.if-not-fit.false))

pub overflow_cast-result-2 : goal.overflow_cast-result-2
overflow_cast-result-2 c = omega (arith, fit_at _ _ (fits c.args.v.now c.fit.ensures c.if-not-fit.false) 2)

pub slice_bounds-tickets_in-count : goal.slice_bounds-tickets_in-count
slice_bounds-tickets_in-count c = entry_length _ (fits c.args.v.now c.fit.ensures c.if-not-fit.false)

pub slice_bounds-tickets_in-start : goal.slice_bounds-tickets_in-start
slice_bounds-tickets_in-start c = entry_length _ (fits c.args.v.now c.fit.ensures c.if-not-fit.false)

pub tickets_in-requires : goal.tickets_in-requires
tickets_in-requires c = tickets-fit _ (fits c.args.v.now c.fit.ensures c.if-not-fit.false) refl

pub returns : goal.returns
unfolding entry_in
returns c =
    let v = c.args.v.now in
    rw (fits v c.fit.ensures c.if-not-fit.false) (ap (λ (ts : List ℕ). some (entry (get_or v 0 0) (get_or v 1 0) (get_or v 2 0) ts))
    (c.tickets_in.ensures ∙ entry-tickets v (fits v c.fit.ensures c.if-not-fit.false)))
