-- A field's text as a number: decimal, with an optional minus sign. Leading zeros and `-0` are numbers.
-- Assumes nothing.
use Rattle.std.specs.Prelude.{ℕ, ◌+◌, ◌-◌, ◌*◌, ◌^◌, Bool, ◌&&◌, cond, List, [], ◌∷◌, eqb, ltb, leb}
use Rattle.std.specs.Prelude.{ℤ, pos, negsuc, neg_ℤ}
use Rattle.std.proofs.Math.Option.{Option, some, none}
use Rattle.std.specs.Int.Signed.{mag}
use Rattle.text.specs.Text.{first_digit}

-- BYTES

abbrev pub minus : ℕ
minus = 45

abbrev pub is_digit : ℕ → Bool
is_digit b = leb first_digit b && leb b (first_digit + 9)

-- NUMBERS

-- the number that digits spell after those that spelt n; none if a byte is no digit
abbrev pub spelt : ℕ → List ℕ → Option ℕ
spelt n [] = some n
spelt n (b ∷ s) = cond (is_digit b) (spelt (n * 10 + (b - first_digit)) s) none

-- one digit or more
abbrev pub digits : List ℕ → Option ℕ
digits [] = none
digits (b ∷ s) = spelt 0 (b ∷ s)

abbrev pub signed : (ℕ → ℤ) → Option ℕ → Option ℤ
signed sign none = none
signed sign (some n) = some (sign n)

abbrev pub negated : ℕ → ℤ
negated n = neg_ℤ (pos n)

-- an optional minus sign, then digits
abbrev pub number : List ℕ → Option ℤ
number [] = none
number (b ∷ s) = cond (eqb b minus) (signed negated (digits s)) (signed pos (digits (b ∷ s)))

-- FIELDS

-- -1, which is in no field's range
abbrev pub out_of_range : ℤ
out_of_range = negsuc 0

-- it fits 64 bits signed
abbrev pub fitting : Option ℤ → ℤ
fitting none = out_of_range
fitting (some z) = cond (ltb (mag z) (2 ^ 63)) z out_of_range

-- A field that is empty, has any other character or does not fit 64 bits signed is out of range.
unfoldable pub field_of : List ℕ → ℤ
field_of text = fitting (number text)
