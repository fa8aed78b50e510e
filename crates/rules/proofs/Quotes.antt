-- Which orders are accepted, and that the budget of an accepted one covers what its client is charged.
-- Assumes nothing.
use Prim.Native.Nat.{ℕ, ◌+◌, ◌*◌, ◌≤◌}
use mathlib.Core.Path.{◌≡◌, refl, ap}
use mathlib.Core.Bool.{Bool, true, false, not}
use mathlib.Core.List.{List, [], ◌∷◌}
use native.Mathlib.Nat.{mul-le-mul_right}
use native.Mathlib.Omega.{arith}
use lib.Dec.{eqb, ltb}
use lib.IntN.{ℤ, nat_abs}
use lib.ListN.{length}
use borrow.Author.Tests.{eqb-true, eq-eqb, ltb-false, le-ltb, not-false}
use Rattle.rules.specs.Limits.{max_lines}
use Rattle.rules.specs.Refusals.{accepted, field_out, over_period, bad_lines}
use Rattle.rules.specs.Setup.{span}
use Rattle.rules.specs.Quote.{Order, Quote, fields_fit, first_false, burnt, budget_of}
use Rattle.rules.specs.Quote.{columns_agree, lines_wrong, field_wrong, budget_over, refused_quote, accepted_quote}
use Rattle.rules.specs.Quote.{quote, AllTrue, Fits}
use Rattle.rules.specs.History.{owed_in_all, calls}
use Rattle.rules.specs.Demands.{worst}
use Rattle.rules.specs.Budgets.{Use, KeepsLine, KeepLines, Keeps, charged_for}
use Rattle.rules.proofs.Tests.{by-test, both_true, both_false}
use Rattle.rules.proofs.Budgets.{covers}

-- WHICH ORDERS ARE ACCEPTED

all_true : (bs : List Bool) → length bs ≤ first_false bs → AllTrue bs
all_true [] h = tt
all_true (true ∷ bs) h = (refl, all_true bs (omega arith))
all_true (false ∷ bs) h = absurd (omega arith)

none-false : (bs : List Bool) → AllTrue bs → length bs ≤ first_false bs
none-false [] h = omega arith
none-false (b ∷ bs) h = rw h.0 (omega (arith, none-false bs h.1))

module _ (o : Order) where
  -- none of the three tests applies
  tests-fit : lines_wrong o ≡ false → field_wrong o ≡ false → budget_over o ≡ false → Fits o
  tests-fit a b d =
      let l = both_false (ltb max_lines (length o.calls)) (not (columns_agree o)) a in
      let even = both_true (eqb (length o.calls) (length o.caps)) (eqb (length o.calls) (length o.tidies))
      (not-false (columns_agree o) l.1) in
      record {
        lines = ltb-false max_lines (length o.calls) l.0;
        columns = (
          eqb-true (length o.calls) (length o.caps) even.0,
          eqb-true (length o.calls) (length o.tidies) even.1,
        );
        fields = all_true (fields_fit o) (ltb-false (first_false (fields_fit o)) (length (fields_fit o)) b);
        period = ltb-false (nat_abs o.period) (budget_of o) d;
      }

  -- 32, 30, 31, or accepted
  pub quote-cases {ℓ} : (P : Quote → Type ℓ) → P (refused_quote bad_lines 0)
      → P (refused_quote field_out (first_false (fields_fit o))) → P (refused_quote over_period 0)
      → (Fits o → P (accepted_quote (budget_of o))) → P (quote o)
  unfolding quote
  quote-cases P f g h k =
      by-test (lines_wrong o) (λ a. rw a f) λ a.
      by-test (field_wrong o) (λ b. rw (a, b) g) λ b.
      by-test (budget_over o) (λ d. rw (a, b, d) h) (λ d. rw (a, b, d) (k (tests-fit a b d)))

  -- accepted only if it fits ..
  pub accepted-fits : (quote o).answer ≡ accepted → Fits o
  accepted-fits =
      quote-cases (λ q. q.answer ≡ accepted → Fits o)
      (λ e. absurd (omega arith)) (λ e. absurd (omega arith)) (λ e. absurd (omega arith)) (λ f e. f)

  -- .. and if it fits, with the formula as its budget
  pub fits-quoted : Fits o → quote o ≡ accepted_quote (budget_of o)
  unfolding quote
  fits-quoted f =
      let a : lines_wrong o ≡ false = rw (
        le-ltb max_lines (length o.calls) f.lines,
        eq-eqb (length o.calls) (length o.caps) f.columns.0,
        eq-eqb (length o.calls) (length o.tidies) f.columns.1,
      ) in
      let b : field_wrong o ≡ false = le-ltb (first_false (fields_fit o)) (length (fields_fit o))
      (none-false (fields_fit o) f.fields) in
      rw (a, b, le-ltb (nat_abs o.period) (budget_of o) f.period)

-- WHAT THE BUDGET COVERS

same-worst : (m m' K K' S S' : ℕ) → m ≡ m' → K ≡ K' → S ≡ S' → worst m K S ≡ worst m' K' S'
same-worst m m' K K' S S' e f g = rw (e, f, g)

line-covers : (m K n l w : ℕ) (x : Use) → KeepsLine m K n l w x
    → owed_in_all x.setup x.client x.events ≤ n * worst m K (l + w)
line-covers m K n l w x k =
    let i : ℕ = calls x.setup x.client x.events in
    let e = same-worst (x.setup.size (x.setup.cluster x.client)) m x.setup.clusters K (span x.setup)
    (l + w) k.size k.clusters (omega (arith, k.cap, k.tidy)) in
    omega (
      arith,
      covers x.setup k.gate x.client k.real x.events,
      ap (λ y. i * y) e,
      mul-le-mul_right (worst m K (l + w)) k.within,
    )

lines-cover : (m K : ℕ) (calls caps tidies : List ℤ) (xs : List Use) → KeepLines m K calls caps tidies xs
    → charged_for xs ≤ burnt m K calls caps tidies
lines-cover m K [] caps tidies [] k = omega arith
lines-cover m K [] caps tidies (x ∷ xs) k = absurd k
lines-cover m K (n ∷ calls) [] tidies xs k = absurd k
lines-cover m K (n ∷ calls) (l ∷ caps) [] xs k = absurd k
lines-cover m K (n ∷ calls) (l ∷ caps) (w ∷ tidies) [] k = absurd k
lines-cover m K (n ∷ calls) (l ∷ caps) (w ∷ tidies) (x ∷ xs) k =
    omega (
      arith,
      line-covers m K (nat_abs n) (nat_abs l) (nat_abs w) x k.0,
      lines-cover m K calls caps tidies xs k.1,
    )

pub budget-covers : (o : Order) (xs : List Use) → (quote o).answer ≡ accepted → Keeps o xs
    → (nat_abs o.work + charged_for xs ≤ (quote o).budget) × ((quote o).budget ≤ nat_abs o.period)
budget-covers o xs e k =
    let f = accepted-fits o e in
    let c = lines-cover (nat_abs o.size) (nat_abs o.clusters) o.calls o.caps o.tidies xs k in
    rw (fits-quoted o f) (omega (arith, c), f.period)
