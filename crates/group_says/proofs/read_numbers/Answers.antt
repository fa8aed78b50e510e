-- `group_says::read_numbers` meets its contract. The loop's invariant: n fields say numbers, which are placed, and the
-- next field starts at byte a.
-- Assumes nothing.
use Prim.Native.Nat.{ℕ, ◌-◌, ◌≤◌, ◌<◌}
use native.Mathlib.Omega.{arith}
use mathlib.Core.Path.{◌≡◌, refl, sym, ap, ◌∙◌}
use mathlib.Core.List.{[]}
use lib.ListN.{length, get_or, take, drop}
use borrow.Author.Count.{below_none, below_more}
use Rattle.text.specs.Text.{space}
use Rattle.fields.specs.Fields.{fields, field_length}
use Rattle.fields.proofs.Fields.{field-here}
use Rattle.fields.proofs.Placed.{starting, reading-on, all_placed}
use Rattle.numerals.specs.Plain.{long_told, long_of}
use Rattle.group_says.proofs.Numbers.{too_many, no_number, number_in, Says, numbers-placed}
use Rattle.group_says.proofs.Numbers.{number-here, says_some}
use Rattle.group_says.proofs.read_numbers.Goals as goal

-- `read`: what the next field says is what was read of it

pub loop-a-init : goal.loop-a-init
loop-a-init c = (starting, omega arith, below_none _)

pub shape_of-v-then-n-ge-NUMBERS : goal.shape_of-v-then-n-ge-NUMBERS
shape_of-v-then-n-ge-NUMBERS c = c.loop-a.invariant.0.long

pub returns-then-n-ge-NUMBERS : goal.returns-then-n-ge-NUMBERS
returns-then-n-ge-NUMBERS c =
    let s = c.args.s.now in
    let there : c.loop-a.a ≤ length s = omega arith in
    rw (too_many (fields space s) (omega (arith, field-here (c.loop-a.invariant.0.next there)))) (record { value = refl; v_after = refl })

pub end-e-requires : goal.end-e-requires
end-e-requires c = omega arith

pub slice_bounds-long_value-count : goal.slice_bounds-long_value-count
slice_bounds-long_value-count c = c.end-e.ensures.behind

pub slice_bounds-long_value-start : goal.slice_bounds-long_value-start
slice_bounds-long_value-start c = c.end-e.ensures.behind

pub slice_bounds-long_value-end : goal.slice_bounds-long_value-end
slice_bounds-long_value-end c = c.end-e.ensures.within

pub shape_of-v-in_default : goal.shape_of-v-in_default
shape_of-v-in_default c = c.loop-a.invariant.0.long

pub returns-in_default : goal.returns-in_default
returns-in_default c =
    let fs = fields space c.args.s.now in
    let there : c.loop-a.a ≤ length c.args.s.now = omega arith in
    let s = c.args.s.now in
    let long : c.end-e.result - c.loop-a.a ≡ field_length space (drop c.loop-a.a s)
    = omega (arith, c.end-e.ensures.ends) in
    let read : long_of (get_or (fields space s) c.loop-a.n []) ≡ long_told c.long_value.result
    = number-here (c.loop-a.invariant.0.next there)
    ∙ ap (λ (k : ℕ). long_of (take k (drop c.loop-a.a s))) (sym long)
    ∙ sym c.long_value.ensures in
    let says = read ∙ ap long_told c.in_default.is in
    rw (no_number fs c.loop-a.n (field-here (c.loop-a.invariant.0.next there)) says) (record { value = refl; v_after = refl })

pub offset_bounds-v-n : goal.offset_bounds-v-n
offset_bounds-v-n c = omega arith

pub bounds-v-n : goal.bounds-v-n
bounds-v-n c =
    omega (arith, c.loop-a.invariant.0.long)

pub overflow_add-n : goal.overflow_add-n
overflow_add-n c = omega arith

pub overflow_add-a : goal.overflow_add-a
overflow_add-a c = omega (arith, c.end-e.ensures.within)

pub loop-a-smaller : goal.loop-a-smaller
loop-a-smaller c = omega (arith, c.end-e.ensures)

pub loop-a-preserved : goal.loop-a-preserved
loop-a-preserved c =
    let s = c.args.s.now in
    let there : c.loop-a.a ≤ length s = omega arith in
    let long : c.end-e.result - c.loop-a.a ≡ field_length space (drop c.loop-a.a s)
    = omega (arith, c.end-e.ensures.ends) in
    let read : long_of (get_or (fields space s) c.loop-a.n []) ≡ long_told c.long_value.result
    = number-here (c.loop-a.invariant.0.next there)
    ∙ ap (λ (k : ℕ). long_of (take k (drop c.loop-a.a s))) (sym long)
    ∙ sym c.long_value.ensures in
    let told = ap long_told c.in-Some.is in
    let says = says_some (fields space s) c.loop-a.n _ (read ∙ told) in (
      reading-on c.loop-a.invariant.0 there c.end-e.ensures (ap number_in (sym told ∙ c.long_value.ensures)) refl,
      omega arith,
      below_more (Says (fields space s)) c.loop-a.n c.loop-a.invariant.2 says,
    )

pub shape_of-v : goal.shape_of-v
shape_of-v c = c.loop-a.invariant.0.long

pub returns : goal.returns
returns c =
    let a = c.args in
    let r = c.loop-a.invariant.0 in
    let past : length a.s.now < c.loop-a.a = omega arith in
    let placed = numbers-placed (fields space a.s.now) c.loop-a.n a.v.now c.loop-a.v (r.done past) c.loop-a.invariant.1
    r.long (omega arith) c.loop-a.invariant.2 (all_placed r past) in
    record { value = placed.0; v_after = placed.1 }
