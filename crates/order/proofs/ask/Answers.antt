-- `order::ask` meets its contract: the fields and columns that it reads are those of the order.
-- Assumes nothing.
use Prim.Native.Nat.{ℕ, ◌+◌, ◌*◌, ◌≤◌, ◌<◌}
use native.Mathlib.Omega.{arith}
use mathlib.Core.Path.{◌≡◌, sym, ap, ◌∙◌}
use mathlib.Core.List.{List, map}
use borrow.Author.Rules.{rules}
use lib.IntN.{ℤ, pos}
use lib.ListN.{length, get_or, take, drop, replicate}
use lib.Seq.{length-take-le}
use Rattle.rules.specs.Limits.{max_lines}
use Rattle.quote.proofs.Ranges.{read_back}
use Rattle.fields.specs.Fields.{fields, Placed}
use Rattle.fields.proofs.Placed.{placed_at}
use Rattle.text.specs.Text.{comma}
use Rattle.numerals.specs.Numbers.{out_of_range, field_of}
use Rattle.order.specs.Orders.{values, every_third}
use Rattle.order.specs.Steps.{max_fields, in_column, Column}
use Rattle.order.proofs.Columns.{column-is}
use Rattle.order.proofs.Asked.{length-values, too_long, not-long, many-fields, same-order}
use Rattle.order.proofs.ask.Goals as goal

-- the first places of a column are there, and they are the column of the order
abbrev Read : ℕ → ℕ → List ℤ → List ℤ → Type 0
Read from k column vs = (k ≤ length column) × (take k column ≡ every_third (drop from vs))

-- the values of the fields, how many there are, and which
module _ (s : List ℕ) (n : ℕ) (v : List ℤ) (found : n ≡ length (fields comma s))
    (placed : Placed (pos 0) (map field_of (fields comma s)) (replicate max_fields out_of_range) v) where
  counted : n ≡ length (values s)
  counted = found ∙ sym (length-values s)

  at : (j : ℕ) → j < max_fields → get_or v j (pos 0) ≡ get_or (values s) j out_of_range
  unfolding values
  at j h = placed_at (pos 0) (values s) v max_fields out_of_range placed j h

  -- one of the columns, where the fields are read and are not too many
  column-read : n ≤ max_fields → (from : ℕ) → (4 ≤ from) × (from ≤ 6) → (k : ℕ) → k ≡ in_column n from → (out : List ℤ)
      → (length out ≡ max_lines) × Column v from out → Read from k out (values s)
  column-read few from low k count out column =
      let m = count ∙ ap (λ (n : ℕ). in_column n from) counted in
      let there : k ≤ length out = omega (arith, counted) in (
        there,
        ap (λ (n : ℕ). take n out) m
            ∙ column-is (values s) from out (omega arith)
            (λ i h. column.1 i (omega arith) ∙ at (from + 3 * i) (omega arith)),
      )

pub returns-then-s-gt-MAX_BYTES : goal.returns-then-s-gt-MAX_BYTES
returns-then-s-gt-MAX_BYTES c = sym (too_long c.args.s.now c.if-s-gt-MAX_BYTES.true)

pub returns-then-n-gt-MAX_FIELDS : goal.returns-then-n-gt-MAX_FIELDS
returns-then-n-gt-MAX_FIELDS c =
    let s = c.args.s.now in
    sym (
    many-fields s c.if-s-gt-MAX_BYTES.false
    (omega (arith, c.read_each-n.ensures.value, c.if-n-gt-MAX_FIELDS.true))
    )

pub slice_bounds-calls-end : goal.slice_bounds-calls-end
slice_bounds-calls-end c =
    let f = c.read_each-n in
    let placed = f.ensures.placed field_of (pos 0) (λ t x h. search rules) in
    let few = c.if-n-gt-MAX_FIELDS.false in
    let calls = column-read c.args.s.now f.result f.new.v f.ensures.value placed few 4 (omega arith)
    c.in_column-a.result c.in_column-a.ensures c.column-calls.result c.column-calls.ensures in
    calls.0

pub slice_bounds-budget-end : goal.slice_bounds-budget-end
slice_bounds-budget-end c =
    let f = c.read_each-n in
    let placed = f.ensures.placed field_of (pos 0) (λ t x h. search rules) in
    let few = c.if-n-gt-MAX_FIELDS.false in
    let calls = column-read c.args.s.now f.result f.new.v f.ensures.value placed few 4 (omega arith)
    c.in_column-a.result c.in_column-a.ensures c.column-calls.result c.column-calls.ensures in
    sym (length-take-le c.in_column-a.result c.column-calls.result calls.0)

pub slice_bounds-caps-end : goal.slice_bounds-caps-end
slice_bounds-caps-end c =
    let f = c.read_each-n in
    let placed = f.ensures.placed field_of (pos 0) (λ t x h. search rules) in
    let few = c.if-n-gt-MAX_FIELDS.false in
    let caps = column-read c.args.s.now f.result f.new.v f.ensures.value placed few 5 (omega arith)
    c.in_column-b.result c.in_column-b.ensures c.column-caps.result c.column-caps.ensures in
    caps.0

pub slice_bounds-budget-end-2 : goal.slice_bounds-budget-end-2
slice_bounds-budget-end-2 c =
    let f = c.read_each-n in
    let placed = f.ensures.placed field_of (pos 0) (λ t x h. search rules) in
    let few = c.if-n-gt-MAX_FIELDS.false in
    let caps = column-read c.args.s.now f.result f.new.v f.ensures.value placed few 5 (omega arith)
    c.in_column-b.result c.in_column-b.ensures c.column-caps.result c.column-caps.ensures in
    sym (length-take-le c.in_column-b.result c.column-caps.result caps.0)

pub slice_bounds-tidies-end : goal.slice_bounds-tidies-end
slice_bounds-tidies-end c =
    let f = c.read_each-n in
    let placed = f.ensures.placed field_of (pos 0) (λ t x h. search rules) in
    let few = c.if-n-gt-MAX_FIELDS.false in
    let tidies = column-read c.args.s.now f.result f.new.v f.ensures.value placed few 6 (omega arith)
    c.in_column-c.result c.in_column-c.ensures c.column-tidies.result c.column-tidies.ensures in
    tidies.0

pub slice_bounds-budget-end-3 : goal.slice_bounds-budget-end-3
slice_bounds-budget-end-3 c =
    let f = c.read_each-n in
    let placed = f.ensures.placed field_of (pos 0) (λ t x h. search rules) in
    let few = c.if-n-gt-MAX_FIELDS.false in
    let tidies = column-read c.args.s.now f.result f.new.v f.ensures.value placed few 6 (omega arith)
    c.in_column-c.result c.in_column-c.ensures c.column-tidies.result c.column-tidies.ensures in
    sym (length-take-le c.in_column-c.result c.column-tidies.result tidies.0)

pub returns : goal.returns
returns c =
    let s = c.args.s.now in
    let f = c.read_each-n in
    let placed = f.ensures.placed field_of (pos 0) (λ t x h. search rules) in
    let few = c.if-n-gt-MAX_FIELDS.false in
    let calls = column-read c.args.s.now f.result f.new.v f.ensures.value placed few 4 (omega arith)
    c.in_column-a.result c.in_column-a.ensures c.column-calls.result c.column-calls.ensures in
    let caps = column-read c.args.s.now f.result f.new.v f.ensures.value placed few 5 (omega arith)
    c.in_column-b.result c.in_column-b.ensures c.column-caps.result c.column-caps.ensures in
    let tidies = column-read c.args.s.now f.result f.new.v f.ensures.value placed few 6 (omega arith)
    c.in_column-c.result c.in_column-c.ensures c.column-tidies.result c.column-tidies.ensures in
    let v : ℕ → ℤ = λ j. get_or f.new.v j (pos 0) in
    let at_ : (j : ℕ) → j < max_fields → v j ≡ get_or (values s) j out_of_range =
    at s f.result f.new.v f.ensures.value placed in
    c.budget.ensures
    ∙ same-order (values s)
    (read_back (v 0) c.budget-arg-1.given ∙ at_ 0 (omega arith))
    (read_back (v 1) c.budget-arg-2-1.given ∙ at_ 1 (omega arith))
    (read_back (v 2) c.budget-arg-3-1.given ∙ at_ 2 (omega arith))
    (read_back (v 3) c.budget-arg-4-1.given ∙ at_ 3 (omega arith))
    calls.1
    caps.1
    tidies.1
    ∙ sym (not-long s c.if-s-gt-MAX_BYTES.false)
