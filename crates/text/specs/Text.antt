-- A number as decimal text, and a text written into a buffer.
-- Assumes nothing.
use Rattle.std.specs.Prelude.{ℕ, zero, suc, ◌+◌, ◌/◌, ◌%◌, ◌≡◌, cond, List, [], ◌∷◌, ◌++◌, ltb, length, take, drop}

-- BYTES

-- the end of a line
abbrev pub lf : ℕ
lf = 10

abbrev pub space : ℕ
space = 32

abbrev pub comma : ℕ
comma = 44

-- CR, before the LF of a line that ends in both
abbrev pub cr : ℕ
cr = 13

-- the digits 0 to 9 are the bytes from this on
abbrev pub first_digit : ℕ
first_digit = 48

-- NUMBERS

-- the digits of n, of which there are at most k: those of n / 10, then the last
abbrev pub decimal_in : ℕ → ℕ → List ℕ
decimal_in zero n = []
decimal_in (suc k) n =
    cond (ltb n 10) ((first_digit + n) ∷ []) (decimal_in k (n / 10) ++ ((first_digit + n % 10) ∷ []))

-- a number below 2^64 has at most 20 digits
abbrev pub max_digits : ℕ
max_digits = 20

unfoldable pub decimal : ℕ → List ℕ
decimal n = decimal_in max_digits n

-- WIDTHS, by the largest number of each

abbrev pub bits8 : ℕ
bits8 = 255

abbrev pub bits16 : ℕ
bits16 = 65535

abbrev pub bits32 : ℕ
bits32 = 4294967295

-- COUNTS

-- the largest number of 64 bits
abbrev pub max_count : ℕ
max_count = 18446744073709551615

-- one more; the last number stays
abbrev pub next_count : ℕ → ℕ
next_count n = cond (ltb n max_count) (n + 1) n

-- WRITTEN INTO A BUFFER

-- a buffer with a text written over it from a place on
abbrev pub written : List ℕ → ℕ → List ℕ → List ℕ
written out at text = (take at out ++ text) ++ drop (at + length text) out

-- a text stands from a place on in a buffer, of which the rest is as it was; and where it ends
pub record WroteAt (at : ℕ) (text before after : List ℕ) (end : ℕ) : Type 0 where
  pub ends : end ≡ at + length text
  pub bytes : after ≡ written before at text

-- the same from the start: where it ends is how long it is
abbrev pub Wrote : List ℕ → List ℕ → List ℕ → ℕ → Type 0
Wrote text before after n = WroteAt 0 text before after n
