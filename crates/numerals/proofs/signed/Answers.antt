-- `numerals::signed` meets its contract, by whether the text is empty and starts with a minus sign.
-- Assumes nothing.
use Prim.Native.Nat.{ℕ, ◌-◌}
use native.Mathlib.Omega.{arith}
use mathlib.Core.Path.{◌≡◌, sym, ap, ◌∙◌}
use mathlib.Core.List.{List}
use mathlib.Core.Option.{Option}
use lib.ListN.{length, take, drop, length-drop}
use lib.Seq.{take_all}
use Rattle.text.specs.Text.{max_count}
use Rattle.numerals.specs.Numbers.{digits}
use Rattle.numerals.specs.Plain.{up_to}
use Rattle.numerals.proofs.Digits.{empty-field, field-minus, field_plain}
use Rattle.numerals.proofs.Signs.{plain-field, minus-field, no_plain-field, no_minus-field}
use Rattle.numerals.proofs.signed.Goals as goal

-- the part after the first byte
rest : (f : List ℕ) → take (length f - 1) (drop 1 f) ≡ drop 1 f
rest f = take_all (length f - 1) (drop 1 f) (omega (arith, length-drop 1 f))

abbrev spells : List ℕ → Option ℕ
spells s = up_to max_count (digits s)

pub returns-in_default : goal.returns-in_default
returns-in_default c = sym (empty-field c.args.f.now (omega (arith, c.in_default.len_below)))

pub returns-in_err-size : goal.returns-in_err-size
returns-in_err-size c = let f = c.args.f.now in
    rw c.from_residual.ensures (
    no_minus-field (digits (drop 1 f)) (c.in_err-size.ensures ∙ ap spells (rest f)) ∙ sym (field-minus f (omega arith) c.if-first-eq-MINUS.true))

pub returns-in_err-size-2 : goal.returns-in_err-size-2
returns-in_err-size-2 c = let f = c.args.f.now in
    rw c.from_residual-in_err-size-2.ensures (
    no_plain-field (digits f) c.in_err-size-2.ensures ∙ sym (field_plain f (omega arith) c.if-first-eq-MINUS.false))

pub returns-in_ok-size : goal.returns-in_ok-size
returns-in_ok-size c = let f = c.args.f.now in
    minus-field (digits (drop 1 f)) c.in_ok-size.field-0 c.checked_sub_unsigned.result
    (c.in_ok-size.ensures ∙ ap spells (rest f)) c.checked_sub_unsigned.ensures
    ∙ sym (field-minus f (omega arith) c.if-first-eq-MINUS.true)

pub returns-in_ok-size-2 : goal.returns-in_ok-size-2
returns-in_ok-size-2 c = let f = c.args.f.now in
    plain-field (digits f) c.in_ok-size-2.field-0 c.checked_add_unsigned.result c.in_ok-size-2.ensures c.checked_add_unsigned.ensures
    ∙ sym (field_plain f (omega arith) c.if-first-eq-MINUS.false)
