-- Digits read one by one, and the digits of a field.
-- Assumes nothing.
use Prim.Native.Nat.{ℕ, ◌+◌, ◌-◌, ◌*◌, ◌≤◌, ◌<◌}
use native.Mathlib.Numerals.{add-one}
use native.Mathlib.Omega.{arith}
use mathlib.Core.Path.{◌≡◌, refl}
use mathlib.Core.Bool.{true, cond}
use mathlib.Core.List.{List, [], ◌∷◌}
use mathlib.Core.Option.{some, none}
use lib.IntN.{pos}
use lib.ListN.{length, get_or, drop, drop_of_length-le}
use lib.Seq.{drop-cons}
use borrow.Author.Tests.{le-leb, eq-eqb, ne_eqb}
use Rattle.numerals.specs.Numbers.{minus, is_digit, spelt, digits, signed, negated, out_of_range, fitting, field_of}

-- A DIGIT

pub a-digit : (b : ℕ) → 48 ≤ b → b ≤ 57 → is_digit b ≡ true
a-digit b h k = rw (le-leb 48 b h, le-leb b 57 k)

-- A TEXT FROM BYTE i ON

pub no-digits : (f : List ℕ) → length f ≡ 0 → digits f ≡ none
no-digits [] e = refl
no-digits (b ∷ f) e = absurd (omega arith)

pub some-digits : (f : List ℕ) → 0 < length f → digits f ≡ spelt 0 f
some-digits [] h = absurd (omega arith)
some-digits (b ∷ f) h = refl

module _ (f : List ℕ) (n i : ℕ) (there : i < length f) where
  abbrev next : ℕ
  next = n * 10 + (get_or f i 0 - 48)

  spelt-at : spelt n (drop i f) ≡ cond (is_digit (get_or f i 0)) (spelt next (drop (i + 1) f)) none
  spelt-at = rw (add-one, drop-cons f i 0)

  pub goes_on : is_digit (get_or f i 0) ≡ true → spelt n (drop i f) ≡ spelt next (drop (i + 1) f)
  goes_on e = rw (spelt-at, e)

pub all_read : (f : List ℕ) (n i : ℕ) → length f ≤ i → spelt n (drop i f) ≡ some n
all_read f n i h = rw (drop_of_length-le f h)

-- A FIELD

-- which of the two it is
pub empty-field : (f : List ℕ) → length f ≡ 0 → field_of f ≡ out_of_range
unfolding field_of
empty-field [] e = refl
empty-field (b ∷ f) e = absurd (omega arith)

pub field-minus : (f : List ℕ) → 0 < length f → get_or f 0 0 ≡ minus
    → field_of f ≡ fitting (signed negated (digits (drop 1 f)))
unfolding field_of
field-minus [] h e = absurd (omega arith)
field-minus (b ∷ f) h e = rw (eq-eqb b minus e)

pub field_plain : (f : List ℕ) → 0 < length f → (get_or f 0 0 ≡ minus → ⊥)
    → field_of f ≡ fitting (signed pos (digits f))
unfolding field_of
field_plain [] h e = absurd (omega arith)
field_plain (b ∷ f) h e = rw (ne_eqb b minus e)
