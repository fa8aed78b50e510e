-- `quote::budget` meets its contract: each return is one of the answers of `quote`, and no sum wraps.
-- Assumes nothing.
use Prim.Native.Nat.{ℕ, ◌+◌, ◌*◌, ◌^◌, ◌≤◌, ◌<◌}
use native.Mathlib.Omega.{arith}
use mathlib.Core.Path.{◌≡◌, sym, ap, ◌∙◌}
use mathlib.Core.List.{List}
use lib.IntN.{ℤ, nat_abs}
use lib.ListN.{length}
use lib.Signed.{mag}
use Rattle.rules.specs.Quote.{Order, order_of, burnt, budget_of, Even}
use Rattle.quote.specs.Steps.{fields_out}
use Rattle.quote.proofs.Ranges.{read, read_back}
use Rattle.quote.proofs.Answers.{AllIn, all_in, many-lines, uneven, tidies-uneven, field-out, over-period}
use Rattle.quote.proofs.Answers.{in-period}
use Rattle.quote.proofs.budget.Goals as goal

-- the order that was handed over: the place is that of the rules
module _ (e p m k : ℤ) (calls caps tidies : List ℤ) (e_fits : mag e < 2 ^ 63) (p_fits : mag p < 2 ^ 63)
    (m_fits : mag m < 2 ^ 63) (k_fits : mag k < 2 ^ 63) {place : ℕ}
    (found : place ≡ fields_out (order_of (read e) (read p) (read m) (read k) calls caps tidies)) where
  abbrev order : Order
  order = order_of e p m k calls caps tidies

  placed : place ≡ fields_out order
  placed = found ∙ rw (read_back e e_fits, read_back p p_fits, read_back m m_fits, read_back k k_fits)

  -- past the tests of the fields
  module _ (even : Even calls caps tidies) (past : 4 + 3 * length calls ≤ place) where
    last-place : 4 + 3 * length calls ≤ fields_out order
    last-place = omega (arith, placed)

    fields_in : AllIn order
    fields_in = all_in order even last-place

-- what `whole` answers
whole_of : (x : ℤ) {n : ℕ} → mag x < 2 ^ 63 → n ≡ nat_abs (read x) → n ≡ nat_abs x
whole_of x fits e = e ∙ ap nat_abs (read_back x fits)

total : {e m K b : ℕ} (o : Order) → e ≡ nat_abs o.work → m ≡ nat_abs o.size → K ≡ nat_abs o.clusters
    → b ≡ burnt m K o.calls o.caps o.tidies → e + b ≡ budget_of o
total o e m K b = rw (b, e, m, K)

pub returns-then-calls-gt-MAX_LINES : goal.returns-then-calls-gt-MAX_LINES
returns-then-calls-gt-MAX_LINES c =
    let a = c.args in
    sym (many-lines (order_of a.e a.p a.m a.k a.calls.now a.caps.now a.tidies.now) c.if-calls-gt-MAX_LINES.true)

pub returns-then-calls-caps : goal.returns-then-calls-caps
returns-then-calls-caps c =
    let a = c.args in
    let o = order_of a.e a.p a.m a.k a.calls.now a.caps.now a.tidies.now in
    sym (uneven o c.if-calls-gt-MAX_LINES.false c.if-calls-caps.true)

pub returns-then-calls-tidies : goal.returns-then-calls-tidies
returns-then-calls-tidies c =
    let a = c.args in
    let o = order_of a.e a.p a.m a.k a.calls.now a.caps.now a.tidies.now in
    sym (tidies-uneven o c.if-calls-gt-MAX_LINES.false c.if-calls-caps.false c.if-calls-tidies.true)

pub returns-in-Some : goal.returns-in-Some
returns-in-Some c =
    let a = c.args in
    let r = c.ranges in
    let o = order_of a.e a.p a.m a.k a.calls.now a.caps.now a.tidies.now in
    let p = placed a.e a.p a.m a.k a.calls.now a.caps.now a.tidies.now r.e.sfits r.p.sfits r.m.sfits r.k.sfits
    c.in-Some.ensures.place in
    let even : Even a.calls.now a.caps.now a.tidies.now = (c.if-calls-caps.false, c.if-calls-tidies.false) in
    let within = c.in-Some.ensures.within in
    rw p (sym (field-out o c.if-calls-gt-MAX_LINES.false even (rw p at within)))

pub whole-requires : goal.whole-requires
whole-requires c =
    let a = c.args in
    let r = c.ranges in
    let all = fields_in a.e a.p a.m a.k a.calls.now a.caps.now a.tidies.now r.e.sfits r.p.sfits r.m.sfits r.k.sfits
    c.in_default.ensures.place (c.if-calls-caps.false, c.if-calls-tidies.false) (omega arith) in
    rw (read_back a.e r.e.sfits) all.work.sign

pub whole-requires-2 : goal.whole-requires-2
whole-requires-2 c =
    let a = c.args in
    let r = c.ranges in
    let all = fields_in a.e a.p a.m a.k a.calls.now a.caps.now a.tidies.now r.e.sfits r.p.sfits r.m.sfits r.k.sfits
    c.in_default.ensures.place (c.if-calls-caps.false, c.if-calls-tidies.false) (omega arith) in
    rw (read_back a.m r.m.sfits) all.size.sign

pub whole-requires-3 : goal.whole-requires-3
whole-requires-3 c =
    let a = c.args in
    let r = c.ranges in
    let all = fields_in a.e a.p a.m a.k a.calls.now a.caps.now a.tidies.now r.e.sfits r.p.sfits r.m.sfits r.k.sfits
    c.in_default.ensures.place (c.if-calls-caps.false, c.if-calls-tidies.false) (omega arith) in
    rw (read_back a.k r.k.sfits) all.clusters.sign

pub lines_burn-requires : goal.lines_burn-requires
lines_burn-requires c =
    let a = c.args in
    let r = c.ranges in
    let all = fields_in a.e a.p a.m a.k a.calls.now a.caps.now a.tidies.now r.e.sfits r.p.sfits r.m.sfits r.k.sfits
    c.in_default.ensures.place (c.if-calls-caps.false, c.if-calls-tidies.false) (omega arith) in
    record {
      m_le_max_size = (
        omega (arith, whole_of a.m r.m.sfits c.whole-2.ensures, all.size.most),
        omega (arith, whole_of a.k r.k.sfits c.whole-3.ensures, all.clusters.most),
      );
      calls_len_bound = (c.if-calls-gt-MAX_LINES.false, all.lines);
    }

pub overflow_add-sum : goal.overflow_add-sum
overflow_add-sum c =
    let a = c.args in
    let r = c.ranges in
    let all = fields_in a.e a.p a.m a.k a.calls.now a.caps.now a.tidies.now r.e.sfits r.p.sfits r.m.sfits r.k.sfits
    c.in_default.ensures.place (c.if-calls-caps.false, c.if-calls-tidies.false) (omega arith) in
    omega (arith, whole_of a.e r.e.sfits c.whole.ensures, all.work.most, c.lines_burn.ensures.upper_bound)

pub whole-requires-4 : goal.whole-requires-4
whole-requires-4 c =
    let a = c.args in
    let r = c.ranges in
    let all = fields_in a.e a.p a.m a.k a.calls.now a.caps.now a.tidies.now r.e.sfits r.p.sfits r.m.sfits r.k.sfits
    c.in_default.ensures.place (c.if-calls-caps.false, c.if-calls-tidies.false) (omega arith) in
    rw (read_back a.p r.p.sfits) all.period.sign

-- the sum is the budget of the rules, and what it is compared with is the period
pub returns-then-sum-whole : goal.returns-then-sum-whole
returns-then-sum-whole c =
    let a = c.args in
    let r = c.ranges in
    let o = order_of a.e a.p a.m a.k a.calls.now a.caps.now a.tidies.now in
    let even : Even a.calls.now a.caps.now a.tidies.now = (c.if-calls-caps.false, c.if-calls-tidies.false) in
    let last = last-place a.e a.p a.m a.k a.calls.now a.caps.now a.tidies.now r.e.sfits r.p.sfits r.m.sfits r.k.sfits
    c.in_default.ensures.place even (omega arith) in
    let summed : c.whole.result + c.lines_burn.result ≡ budget_of o =
    total o (whole_of a.e r.e.sfits c.whole.ensures) (whole_of a.m r.m.sfits c.whole-2.ensures)
    (whole_of a.k r.k.sfits c.whole-3.ensures) c.lines_burn.ensures.value in
    let within : budget_of o ≤ nat_abs a.p =
    omega (arith, summed, whole_of a.p r.p.sfits c.whole-4.ensures, c.if-sum-whole.true) in
    rw summed (sym (in-period o c.if-calls-gt-MAX_LINES.false even last within))

pub returns-else-sum-whole : goal.returns-else-sum-whole
returns-else-sum-whole c =
    let a = c.args in
    let r = c.ranges in
    let o = order_of a.e a.p a.m a.k a.calls.now a.caps.now a.tidies.now in
    let even : Even a.calls.now a.caps.now a.tidies.now = (c.if-calls-caps.false, c.if-calls-tidies.false) in
    let last = last-place a.e a.p a.m a.k a.calls.now a.caps.now a.tidies.now r.e.sfits r.p.sfits r.m.sfits r.k.sfits
    c.in_default.ensures.place even (omega arith) in
    let summed : c.whole.result + c.lines_burn.result ≡ budget_of o =
    total o (whole_of a.e r.e.sfits c.whole.ensures) (whole_of a.m r.m.sfits c.whole-2.ensures)
    (whole_of a.k r.k.sfits c.whole-3.ensures) c.lines_burn.ensures.value in
    sym (
    over-period o c.if-calls-gt-MAX_LINES.false even last
    (omega (arith, summed, whole_of a.p r.p.sfits c.whole-4.ensures, c.if-sum-whole.false))
    )
