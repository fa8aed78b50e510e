-- `lines::values_of` meets its contract. A line has no more fields than there are places.
-- Assumes nothing.
use native.Mathlib.Omega.{arith}
use mathlib.Core.Path.{◌≡◌, refl, sym, ◌∙◌}
use mathlib.Core.Bool.{Bool, true, false}
use borrow.Author.Rules.{rules}
use Rattle.numerals.specs.Plain.{no_plain}
use Rattle.lines.specs.Lines.{value_of, begins}
use Rattle.lines.proofs.Values.{begins-otherwise, one_placed, letter-alone}
use Rattle.lines.proofs.Values.{two-or-more, in-places}
use Rattle.lines.proofs.values_of.Goals as goal

-- past the test, the line begins as it should
begun : {r b : Bool} → r ≡ b → r ≡ true → b ≡ true
begun e t = sym e ∙ t

pub returns-then-not-is_begun : goal.returns-then-not-is_begun
returns-then-not-is_begun c =
    let a = c.args in
    let other : begins a.letter a.separator a.line.now ≡ false
    = sym c.is_begun.ensures ∙ c.if-not-is_begun.true in
    rw (begins-otherwise a.letter a.separator a.line.now other)
    (record { value = refl; v_after = one_placed a.v.now no_plain (omega arith) })

pub returns-then-line-eq1 : goal.returns-then-line-eq1
returns-then-line-eq1 c =
    let a = c.args in
    let begins = begun c.is_begun.ensures c.if-not-is_begun.false in
    rw (letter-alone a.letter a.separator a.line.now begins c.if-line-eq1.true)
    (record { value = refl; v_after = refl })

pub slice_bounds-read_each-count : goal.slice_bounds-read_each-count
slice_bounds-read_each-count c =
    let a = c.args in
    two-or-more a.letter a.separator a.line.now (begun c.is_begun.ensures c.if-not-is_begun.false) c.if-line-eq1.false

pub slice_bounds-read_each-start : goal.slice_bounds-read_each-start
slice_bounds-read_each-start c =
    let a = c.args in
    two-or-more a.letter a.separator a.line.now (begun c.is_begun.ensures c.if-not-is_begun.false) c.if-line-eq1.false

pub returns : goal.returns
returns c =
    let a = c.args in
    let begins = begun c.is_begun.ensures c.if-not-is_begun.false in
    let both = in-places a.letter a.separator a.line.now begins c.if-line-eq1.false a.v.now
    c.read_each.new.v
    refl (search rules) (omega arith) c.read_each.ensures.value
    (c.read_each.ensures.placed value_of 0 (λ t x h. search rules)) in
    record { value = both.0; v_after = both.1 }
