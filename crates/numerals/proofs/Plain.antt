-- Plain numbers: from the size of a field's digits, and from what is written.
-- Assumes nothing.
use Rattle.std.specs.Prelude as code
use Rattle.std.specs.Prelude.{unwrap_or}
use Prim.Native.Nat.{ℕ, zero, suc, ◌+◌, ◌-◌, ◌*◌, ◌/◌, ◌%◌, ◌^◌, ◌≤◌, ◌<◌, min}
use native.Mathlib.Omega.{arith}
use mathlib.Core.Path.{◌≡◌, refl, sym, ap, ◌∙◌}
use mathlib.Core.Bool.{false}
use mathlib.Core.List.{List, [], ◌∷◌, ◌++◌}
use mathlib.Core.Option.{Option, some, none}
use lib.Dec.{ltb, leb}
use lib.ListN.{length, get_or, get_or-append}
use borrow.Author.Tests.{leb-false, ltb-true, ltb-false, ne_eqb}
use Rattle.rules.proofs.Tests.{by-test}
use Rattle.text.specs.Text.{first_digit, max_count, decimal}
use Rattle.text.proofs.Decimal.{decimal_digit, decimal-more, length-digit, length_more}
use Rattle.numerals.specs.Numbers.{is_digit, spelt}
use Rattle.numerals.specs.Plain.{zero_first, no_plain, narrowed, plain_of, long_told, up_to}
use Rattle.numerals.proofs.Digits.{a-digit, some-digits}

-- A FIELD

pub short-field : (f : List ℕ) → length f < 2 → false ≡ zero_first f
short-field [] h = refl
short-field (b ∷ []) h = refl
short-field (b ∷ c ∷ f) h = absurd (omega arith)

-- a number that does not fit 64 bits does not fit 32 either
pub narrow_size : (o : Option ℕ) (r : code.Option ℕ) → long_told r ≡ up_to max_count o
    → min (unwrap_or r no_plain) no_plain ≡ narrowed o
narrow_size none code.None e = refl
narrow_size none (code.Some k) e = let z : ◌≡◌ {A = ℕ} 0 1 = cc in absurd (omega arith)
narrow_size (some n) code.None e =
    by-test (leb n max_count)
    (λ y. let q : ◌≡◌ {A = Option ℕ} none (some n) = rw y at e in let z : ◌≡◌ {A = ℕ} 0 1 = cc in absurd (omega arith))
    (λ y. let h : max_count < n = omega (arith, leb-false n max_count y) in omega arith)
narrow_size (some n) (code.Some k) e =
    by-test (leb n max_count)
    (λ y. let q : ◌≡◌ {A = Option ℕ} (some k) (some n) = rw y at e in let s : k ≡ n = cc in omega arith)
    (λ y. let q : ◌≡◌ {A = Option ℕ} (some k) none = rw y at e in let z : ◌≡◌ {A = ℕ} 0 1 = cc in absurd (omega arith))

-- READING UNDOES WRITING

-- texts behind each other
spelt-on : (m : ℕ) (s t : List ℕ) (n : ℕ) → spelt m s ≡ some n → spelt m (s ++ t) ≡ spelt n t
spelt-on m [] t n e = let k : m ≡ n = cc in rw k
spelt-on m (b ∷ s) t n e =
    by-test (is_digit b) (λ y. rw y (spelt-on (m * 10 + (b - first_digit)) s t n (rw y at e)))
    (λ y. let z : ◌≡◌ {A = Option ℕ} none (some n) = rw y at e in
    let w : ◌≡◌ {A = ℕ} 0 1 = cc in absurd (omega arith))

spelt-digit : (m d : ℕ) → d < 10 → spelt m ((first_digit + d) ∷ []) ≡ some (m * 10 + d)
spelt-digit m d h = rw (a-digit (first_digit + d) (omega arith) (omega arith)) (ap some (omega arith))

spelt-one : (n : ℕ) → n < 10 → spelt 0 (decimal n) ≡ some n
spelt-one n h = rw (← decimal_digit n h) (spelt-digit 0 n h ∙ ap some (omega arith))

-- what is written of n spells n (k only bounds it, and falls as n is divided)
pub spelt-decimal : (k n : ℕ) → n ≤ k → n < 2 ^ 64 → spelt 0 (decimal n) ≡ some n
spelt-decimal zero n bound h = spelt-one n (omega arith)
spelt-decimal (suc k) n bound h =
    by-test (ltb n 10) (λ y. spelt-one n (ltb-true n 10 y))
    (λ y. let more = ltb-false n 10 y in
    let tenth = n / 10 in
    rw (← decimal-more n h more) (
    spelt-on 0 (decimal tenth) ((first_digit + n % 10) ∷ []) tenth (spelt-decimal k tenth (omega arith) (omega arith))
    ∙ spelt-digit tenth (n % 10) (omega arith)
    ∙ ap some (omega arith)
    ))

some-decimal : (n : ℕ) → n < 2 ^ 64 → 0 < length (decimal n)
some-decimal n h =
    by-test (ltb n 10) (λ y. omega (arith, length-digit n (ltb-true n 10 y)))
    (λ y. omega (arith, length_more n h (ltb-false n 10 y)))

-- its first digit is '0' for 0 alone
first-digit : (k n : ℕ) → n ≤ k → 0 < n → n < 2 ^ 64 → first_digit < get_or (decimal n) 0 0
first-digit zero n bound above h = absurd (omega arith)
first-digit (suc k) n bound above h =
    by-test (ltb n 10)
    (λ y. let one = ltb-true n 10 y in rw (← decimal_digit n one) (omega arith))
    (λ y. let more = ltb-false n 10 y in
    let tenth = n / 10 in
    let same = get_or-append (decimal tenth) ((first_digit + n % 10) ∷ []) 0 0 (some-decimal tenth (omega arith)) in
    rw (← decimal-more n h more, same) (first-digit k tenth (omega arith) (omega arith) (omega arith)))

not-zero-first : (f : List ℕ) → first_digit < get_or f 0 0 → zero_first f ≡ false
not-zero-first [] h = refl
not-zero-first (b ∷ []) h = refl
not-zero-first (b ∷ c ∷ f) h = ne_eqb b first_digit (λ e. omega arith)

no-zeros : (n : ℕ) → n < 2 ^ 64 → zero_first (decimal n) ≡ false
no-zeros n h =
    by-test (ltb n 10)
    (λ y. sym (short-field (decimal n) (omega (arith, length-digit n (ltb-true n 10 y)))))
    (λ y. not-zero-first (decimal n) (first-digit n n (omega arith) (omega (arith, ltb-false n 10 y)) h))

-- a number that is written and read is the same number
pub plain-decimal : (n : ℕ) → n < 2 ^ 32 → plain_of (decimal n) ≡ n
unfolding plain_of
plain-decimal n h =
    let wide : n < 2 ^ 64 = omega arith in
    let read = some-digits (decimal n) (some-decimal n wide) ∙ spelt-decimal n n (omega arith) wide in
    rw (no-zeros n wide, read) (omega arith)
