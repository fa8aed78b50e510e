-- No second answer fits: the promises of `budget` and of `tell` each leave one result.
-- Assumes nothing.
use Rattle.std.specs.Prelude.{ℕ, Result, Ok, Err}
use mathlib.Core.Bool.{cond}
use mathlib.Core.Path.{◌∙◌, ◌≡◌, ap, refl, sym}
use lib.Dec.{eqb}
use Rattle.rules.specs.Quote.{Quote}
use Rattle.rules.specs.Refusals.{accepted, field_out, over_period}
use Rattle.quote.specs.Told.{numbers_of, told}
use Rattle.quote.specs.declared.Refusal.{Refusal}
use Rattle.quote.specs.declared.Refusal.TheVariants.{BadLines, FieldOut, OverPeriod}
use Rattle.quote.specs.declared.Numbers.{Numbers}

-- the case of a quote; of a number that no case has, any
answer_for : Quote → Result ℕ Refusal
answer_for q =
    cond (eqb q.answer accepted) (Ok q.budget)
    (cond (eqb q.answer field_out) (Err (FieldOut q.place))
    (cond (eqb q.answer over_period) (Err OverPeriod)
    (Err BadLines)))

answer_back : (a : Result ℕ Refusal) → answer_for (told a) ≡ a
unfolding answer_for
answer_back (Ok b) = refl
answer_back (Err (FieldOut at)) = refl
answer_back (Err OverPeriod) = refl
answer_back (Err BadLines) = refl

pub one_answer : (a b : Result ℕ Refusal) → told a ≡ told b → a ≡ b
one_answer a b e = sym (answer_back a) ∙ ap answer_for e ∙ answer_back b

pub one-numbers : (a b : Numbers) → numbers_of a ≡ numbers_of b → a ≡ b
one-numbers a b e = ap (λ (q : Quote). record { budget = q.budget; answer = q.answer; place = q.place }) e
