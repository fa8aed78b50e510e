-- A field's text as a plain number: decimal, without a sign and without leading zeros; of 32 bits, or of 64.
-- Assumes nothing.
use Rattle.std.specs.Prelude.{ℕ, ◌^◌, min, Bool, false, cond, List, [], ◌∷◌, eqb, leb}
use Rattle.std.specs.Prelude as code
use Rattle.std.proofs.Math.Option.{Option, some, none}
use Rattle.text.specs.Text.{first_digit, max_count}
use Rattle.numerals.specs.Numbers.{digits}

-- two bytes or more, of which the first is '0'
abbrev pub zero_first : List ℕ → Bool
zero_first [] = false
zero_first (b ∷ []) = false
zero_first (b ∷ c ∷ s) = eqb b first_digit

-- A number is one digit or more, and nothing else. Of two or more, the first is not '0'.
abbrev pub plain : List ℕ → Option ℕ
plain text = cond (zero_first text) none (digits text)

-- OF 32 BITS

-- 2^32: no number of 32 bits, and so what stands for none
abbrev pub no_plain : ℕ
no_plain = 2 ^ 32

-- a number that does not fit 32 bits is none either
abbrev pub narrowed : Option ℕ → ℕ
narrowed none = no_plain
narrowed (some n) = min n no_plain

-- The number that a field says; 2^32 for a field that says none, or one that does not fit 32 bits.
unfoldable pub plain_of : List ℕ → ℕ
plain_of text = narrowed (plain text)

-- OF 64 BITS

-- a number, if it is at most some
abbrev pub up_to : ℕ → Option ℕ → Option ℕ
up_to most none = none
up_to most (some n) = cond (leb n most) (some n) none

-- The number that a field says, if it fits 64 bits.
unfoldable pub long_of : List ℕ → Option ℕ
long_of text = up_to max_count (plain text)

-- what the code answers
abbrev pub long_told : code.Option ℕ → Option ℕ
long_told code.None = none
long_told (code.Some n) = some n
