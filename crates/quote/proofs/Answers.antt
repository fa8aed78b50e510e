-- The four answers of `quote`, and what an order tells whose fields are all in range.
-- Assumes nothing.
use Prim.Native.Nat.{ℕ, ◌+◌, ◌*◌, ◌≤◌, ◌<◌}
use native.Mathlib.Omega.{arith}
use mathlib.Core.Path.{◌≡◌}
use mathlib.Core.Bool.{false}
use mathlib.Core.List.{◌∷◌}
use lib.IntN.{nat_abs}
use lib.ListN.{length}
use borrow.Author.Tests.{lt-ltb, le-ltb, eq-eqb, ne_eqb}
use Rattle.rules.specs.Limits.{max_work, max_period, max_size, max_clusters, max_lines}
use Rattle.rules.specs.Refusals.{accepted, field_out, over_period, bad_lines}
use Rattle.rules.specs.Quote.{Order, in_range, lines_fit, fields_fit, first_false, budget_of}
use Rattle.rules.specs.Quote.{lines_wrong, refused_quote, quote, Even}
use Rattle.quote.specs.Steps.{AllFit, fields_out}
use Rattle.quote.proofs.Ranges.{Within, within}
use Rattle.quote.proofs.Lines.{first-true, length-lines_fit}

module _ (o : Order) where
  pub many-lines : max_lines < length o.calls → quote o ≡ refused_quote bad_lines 0
  unfolding quote
  many-lines h = rw (lt-ltb max_lines (length o.calls) h)

  module _ (few : length o.calls ≤ max_lines) where
    pub uneven : (length o.calls ≡ length o.caps → ⊥) → quote o ≡ refused_quote bad_lines 0
    unfolding quote
    uneven h = rw (le-ltb max_lines (length o.calls) few, ne_eqb (length o.calls) (length o.caps) h)

    pub tidies-uneven : length o.calls ≡ length o.caps → (length o.calls ≡ length o.tidies → ⊥)
        → quote o ≡ refused_quote bad_lines 0
    unfolding quote
    tidies-uneven e h =
        rw (
          le-ltb max_lines (length o.calls) few,
          eq-eqb (length o.calls) (length o.caps) e,
          ne_eqb (length o.calls) (length o.tidies) h,
        )

    module _ (even : Even o.calls o.caps o.tidies) where
      abbrev last : ℕ
      last = 4 + 3 * length o.calls

      length_fields : length (fields_fit o) ≡ last
      length_fields = omega (arith, length-lines_fit o.calls o.caps o.tidies even)

      lines-right : lines_wrong o ≡ false
      lines-right =
          rw (
            le-ltb max_lines (length o.calls) few,
            eq-eqb (length o.calls) (length o.caps) even.0,
            eq-eqb (length o.calls) (length o.tidies) even.1,
          )

      pub field-out : fields_out o < last → quote o ≡ refused_quote field_out (fields_out o)
      unfolding quote fields_out
      field-out h =
          rw (
            lines-right,
            lt-ltb (first_false (fields_fit o)) (length (fields_fit o)) (omega (arith, length_fields)),
          )

      module _ (all : last ≤ fields_out o) where
        pub over-period : nat_abs o.period < budget_of o → quote o ≡ refused_quote over_period 0
        unfolding quote fields_out
        over-period h =
            rw (
              lines-right,
              le-ltb (first_false (fields_fit o)) (length (fields_fit o)) (omega (arith, length_fields)),
              lt-ltb (nat_abs o.period) (budget_of o) h,
            )

        pub in-period : budget_of o ≤ nat_abs o.period
            → quote o ≡ record { budget = budget_of o; answer = accepted; place = 0 }
        unfolding quote fields_out
        in-period h =
            rw (
              lines-right,
              le-ltb (first_false (fields_fit o)) (length (fields_fit o)) (omega (arith, length_fields)),
              le-ltb (nat_abs o.period) (budget_of o) h,
            )

-- every field in its range
pub record AllIn (o : Order) : Type 0 where
  pub work : Within 1 max_work o.work
  pub period : Within 1 max_period o.period
  pub size : Within 1 max_size o.size
  pub clusters : Within 1 max_clusters o.clusters
  pub lines : AllFit o.calls o.caps o.tidies

pub all_in : (o : Order) → Even o.calls o.caps o.tidies → 4 + 3 * length o.calls ≤ fields_out o → AllIn o
unfolding fields_out
all_in o even all =
    let e = in_range 1 max_work o.work in
    let p = in_range 1 max_period o.period in
    let m = in_range 1 max_size o.size in
    let K = in_range 1 max_clusters o.clusters in
    let l = lines_fit o.calls o.caps o.tidies in
    let k = 3 * length o.calls in
    let a = first-true e (p ∷ m ∷ K ∷ l) {n = 3 + k} (omega arith) in
    let b = first-true p (m ∷ K ∷ l) {n = 2 + k} (omega (arith, a.1)) in
    let c = first-true m (K ∷ l) {n = 1 + k} (omega (arith, b.1)) in
    let d = first-true K l {n = k} (omega (arith, c.1)) in
    record {
      work = within 1 max_work o.work a.0;
      period = within 1 max_period o.period b.0;
      size = within 1 max_size o.size c.0;
      clusters = within 1 max_clusters o.clusters d.0;
      lines = record { even = even; fit = d.1 };
    }
