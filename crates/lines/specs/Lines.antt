-- A line of text: a letter, and numbers behind it with exactly one separator before each.
-- Assumes nothing.
use Rattle.std.specs.Prelude.{ℕ, ◌+◌, Bool, true, false, ◌&&◌, ◌||◌, cond, List, [], ◌∷◌, map}
use Rattle.std.specs.Prelude.{eqb, leb, length, get_or, drop}
use Rattle.fields.specs.Fields.{fields}
use Rattle.numerals.specs.Plain.{no_plain, plain_of}

-- THE NUMBERS OF A LINE

-- at most 1,024 bytes with its LF
abbrev pub max_line : ℕ
max_line = 1023

abbrev pub is_dash : List ℕ → Bool
is_dash [] = false
is_dash (b ∷ []) = eqb b 45
is_dash (b ∷ c ∷ s) = false

-- what stands for a `-`; no number is as large
abbrev pub dash : ℕ
dash = no_plain + 1

-- A number is decimal, without sign or leading zeros. What is neither a number of 32 bits nor a `-` is past every
-- width.
abbrev pub value_of : List ℕ → ℕ
value_of f = cond (is_dash f) dash (plain_of f)

-- a line that is not too long is that letter alone, or begins with it and a separator
abbrev pub begins : ℕ → ℕ → List ℕ → Bool
begins letter separator s =
    (leb 1 (length s) && leb (length s) max_line)
    && (eqb (get_or s 0 0) letter && (eqb (length s) 1 || eqb (get_or s 1 0) separator))

-- the numbers behind them: none behind the letter alone
abbrev pub behind : ℕ → List ℕ → List ℕ
behind separator s = cond (eqb (length s) 1) [] (map value_of (fields separator (drop 2 s)))

-- A line that begins otherwise has one number that is past every width, and so fits nothing.
unfoldable pub values_of : ℕ → ℕ → List ℕ → List ℕ
values_of letter separator s = cond (begins letter separator s) (behind separator s) (no_plain ∷ [])

-- WIDTHS, by the largest number of each

-- as many numbers as widths, and each fits its own
unfoldable pub fit_in : List ℕ → List ℕ → Bool
fit_in [] [] = true
fit_in [] (v ∷ vs) = false
fit_in (w ∷ ws) [] = false
fit_in (w ∷ ws) (v ∷ vs) = leb v w && fit_in ws vs

-- any count of numbers, each of which fits one width
unfoldable pub all_fit : ℕ → List ℕ → Bool
all_fit w [] = true
all_fit w (v ∷ vs) = leb v w && all_fit w vs
