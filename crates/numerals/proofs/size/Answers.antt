-- `numerals::size` meets its contract. The loop's invariant: n and the digits that are left spell what all do.
-- Assumes nothing.
use native.Mathlib.Omega.{arith}
use mathlib.Core.Path.{sym, ap, ◌∙◌}
use lib.ListN.{get_or}
use Rattle.text.specs.Text.{max_count}
use Rattle.numerals.specs.Plain.{up_to}
use Rattle.numerals.proofs.Digits.{a-digit, all_read}
use Rattle.numerals.proofs.LongDigits.{overflows, within}
use Rattle.numerals.proofs.size.Goals as goal

pub returns-in_err-checked_mul : goal.returns-in_err-checked_mul
returns-in_err-checked_mul c =
    let l = c.loop-b in
    let f = c.args.f.now in
    let d = a-digit (get_or f l.b-index 0) (omega (arith, c.if-not-is_ascii_digit.ensures.cases))
    (omega (arith, c.if-not-is_ascii_digit.ensures.cases)) in
    rw c.from_residual.ensures (
    sym (overflows f l.n l.b-index (omega arith) d (omega (arith, c.in_err-checked_mul.ensures)))
    ∙ ap (up_to max_count) l.invariant.0)

pub returns-in_err-n : goal.returns-in_err-n
returns-in_err-n c =
    let l = c.loop-b in
    let f = c.args.f.now in
    let d = a-digit (get_or f l.b-index 0) (omega (arith, c.if-not-is_ascii_digit.ensures.cases))
    (omega (arith, c.if-not-is_ascii_digit.ensures.cases)) in
    rw c.from_residual-in_err-n.ensures (
    sym (overflows f l.n l.b-index (omega arith) d
    (omega (arith, c.in_ok-checked_mul.ensures, c.from.ensures, c.in_err-n.ensures)))
    ∙ ap (up_to max_count) l.invariant.0)

pub returns : goal.returns
returns c =
    let l = c.loop-b in
    let f = c.args.f.now in
    sym (within l.n (omega arith)) ∙ ap (up_to max_count) (sym (all_read f l.n l.b-index (omega arith)) ∙ l.invariant.0)
