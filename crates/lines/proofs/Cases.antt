-- Lines, fields, widths and inputs, computed. A line or a field is written as its bytes, under its text; where nothing
-- else is said, the letter is E (69) and the separator a space (32).
-- Assumes nothing.
use Prim.Native.Nat.{ℕ}
use mathlib.Core.Path.{◌≡◌, refl}
use mathlib.Core.Bool.{true, false}
use mathlib.Core.List.{List, [], ◌∷◌}
use lib.ListN.{length, replicate}
use Rattle.numerals.specs.Plain.{no_plain, plain_of}
use Rattle.text.specs.Text.{bits8, bits16, bits32}
use Rattle.lines.specs.Lines.{dash, value_of, values_of, fit_in, all_fit}
use Rattle.lines.specs.Input.{held_to, read_from}

-- FIELDS

abbrev Reads : List ℕ → ℕ → Type 0
Reads f n = value_of f ≡ n

-- 0
-- 10
-- 4294967295
-- -
pub numbers :
    Reads (48 ∷ []) 0
    × Reads (49 ∷ 48 ∷ []) 10
    × Reads (52 ∷ 50 ∷ 57 ∷ 52 ∷ 57 ∷ 54 ∷ 55 ∷ 50 ∷ 57 ∷ 53 ∷ []) 4294967295
    × Reads (45 ∷ []) 4294967297
unfolding plain_of
numbers = (refl, refl, refl, refl)

-- (empty)
-- --
-- -1
-- 1-
-- +
-- 01
-- 4294967296
-- 4294967297 (no `-`)
pub no-numbers :
    Reads [] no_plain
    × Reads (45 ∷ 45 ∷ []) no_plain
    × Reads (45 ∷ 49 ∷ []) no_plain
    × Reads (49 ∷ 45 ∷ []) no_plain
    × Reads (43 ∷ []) no_plain
    × Reads (48 ∷ 49 ∷ []) no_plain
    × Reads (52 ∷ 50 ∷ 57 ∷ 52 ∷ 57 ∷ 54 ∷ 55 ∷ 50 ∷ 57 ∷ 54 ∷ []) no_plain
    × Reads (52 ∷ 50 ∷ 57 ∷ 52 ∷ 57 ∷ 54 ∷ 55 ∷ 50 ∷ 57 ∷ 55 ∷ []) no_plain
unfolding plain_of
no-numbers = (refl, refl, refl, refl, refl, refl, refl, refl)

-- LINES

abbrev Says : List ℕ → List ℕ → Type 0
Says s vs = values_of 69 32 s ≡ vs

-- E 1 0 0 - 5
-- E 7
-- E 70 256
pub lines :
    Says (69 ∷ 32 ∷ 49 ∷ 32 ∷ 48 ∷ 32 ∷ 48 ∷ 32 ∷ 45 ∷ 32 ∷ 53 ∷ []) (1 ∷ 0 ∷ 0 ∷ dash ∷ 5 ∷ [])
    × Says (69 ∷ 32 ∷ 55 ∷ []) (7 ∷ [])
    × Says (69 ∷ 32 ∷ 55 ∷ 48 ∷ 32 ∷ 50 ∷ 53 ∷ 54 ∷ []) (70 ∷ 256 ∷ [])
unfolding values_of plain_of
lines = (refl, refl, refl)

-- E: the letter alone has no numbers
pub no-numbers-behind : Says (69 ∷ []) []
unfolding values_of
no-numbers-behind = refl

-- what begins otherwise has one number that fits nothing
abbrev Other : List ℕ → Type 0
Other s = Says s (no_plain ∷ [])

-- (empty)
-- F 7
-- F
-- e 7
-- 7
-- E7
-- EE
-- EE 7
-- E and a tab, then 7
-- E,7
-- a space, then E 7
pub other-lines :
    Other []
    × Other (70 ∷ 32 ∷ 55 ∷ [])
    × Other (70 ∷ [])
    × Other (101 ∷ 32 ∷ 55 ∷ [])
    × Other (55 ∷ [])
    × Other (69 ∷ 55 ∷ [])
    × Other (69 ∷ 69 ∷ [])
    × Other (69 ∷ 69 ∷ 32 ∷ 55 ∷ [])
    × Other (69 ∷ 9 ∷ 55 ∷ [])
    × Other (69 ∷ 44 ∷ 55 ∷ [])
    × Other (32 ∷ 69 ∷ 32 ∷ 55 ∷ [])
unfolding values_of
other-lines = (refl, refl, refl, refl, refl, refl, refl, refl, refl, refl, refl)

-- the other letter's own lines
-- F 7
-- F
pub other-letter : (values_of 70 32 (70 ∷ 32 ∷ 55 ∷ []) ≡ 7 ∷ []) × (values_of 70 32 (70 ∷ []) ≡ [])
unfolding values_of plain_of
other-letter = (refl, refl)

-- a field that is no number keeps its place
-- E and a space
-- E, two spaces, 7
-- E 7, two spaces, 8
-- E 7 and a space
-- E 7, a tab, 8
-- E 7,8
-- E 7 and a CR
pub strict-lines :
    Says (69 ∷ 32 ∷ []) (no_plain ∷ [])
    × Says (69 ∷ 32 ∷ 32 ∷ 55 ∷ []) (no_plain ∷ 7 ∷ [])
    × Says (69 ∷ 32 ∷ 55 ∷ 32 ∷ 32 ∷ 56 ∷ []) (7 ∷ no_plain ∷ 8 ∷ [])
    × Says (69 ∷ 32 ∷ 55 ∷ 32 ∷ []) (7 ∷ no_plain ∷ [])
    × Says (69 ∷ 32 ∷ 55 ∷ 9 ∷ 56 ∷ []) (no_plain ∷ [])
    × Says (69 ∷ 32 ∷ 55 ∷ 44 ∷ 56 ∷ []) (no_plain ∷ [])
    × Says (69 ∷ 32 ∷ 55 ∷ 13 ∷ []) (no_plain ∷ [])
unfolding values_of plain_of
strict-lines = (refl, refl, refl, refl, refl, refl, refl)

-- E, a space and an x of 1,021 and of 1,022 bytes: a line of 1,023 bytes and one of 1,024
-- E and one space after the other, 1,022 and 1,023 of these
pub long-lines :
    Says (69 ∷ 32 ∷ replicate 1021 120) (no_plain ∷ [])
    × Says (69 ∷ 32 ∷ replicate 1022 120) (no_plain ∷ [])
    × (length (values_of 69 32 (69 ∷ replicate 1022 32)) ≡ 1022)
    × Says (69 ∷ replicate 1023 32) (no_plain ∷ [])
unfolding values_of plain_of
long-lines = (refl, refl, refl, refl)

-- another separator, a comma; the letter is Z (90)
abbrev SaysComma : List ℕ → List ℕ → Type 0
SaysComma s vs = values_of 90 44 s ≡ vs

-- Z
-- Z,
-- Z,7
-- Z,7,-,80
-- Z,7,
-- Z,,7
-- Z,7 8
-- Z 7
-- Y,7
pub comma-lines :
    SaysComma (90 ∷ []) []
    × SaysComma (90 ∷ 44 ∷ []) (no_plain ∷ [])
    × SaysComma (90 ∷ 44 ∷ 55 ∷ []) (7 ∷ [])
    × SaysComma (90 ∷ 44 ∷ 55 ∷ 44 ∷ 45 ∷ 44 ∷ 56 ∷ 48 ∷ []) (7 ∷ dash ∷ 80 ∷ [])
    × SaysComma (90 ∷ 44 ∷ 55 ∷ 44 ∷ []) (7 ∷ no_plain ∷ [])
    × SaysComma (90 ∷ 44 ∷ 44 ∷ 55 ∷ []) (no_plain ∷ 7 ∷ [])
    × SaysComma (90 ∷ 44 ∷ 55 ∷ 32 ∷ 56 ∷ []) (no_plain ∷ [])
    × SaysComma (90 ∷ 32 ∷ 55 ∷ []) (no_plain ∷ [])
    × SaysComma (89 ∷ 44 ∷ 55 ∷ []) (no_plain ∷ [])
unfolding values_of plain_of
comma-lines = (refl, refl, refl, refl, refl, refl, refl, refl, refl)

-- WIDTHS

-- the largest of each width
-- each in its own place
-- no numbers
pub fitting :
    (fit_in (bits8 ∷ []) (255 ∷ []) ≡ true)
    × (fit_in (bits16 ∷ []) (65535 ∷ []) ≡ true)
    × (fit_in (bits32 ∷ []) (4294967295 ∷ []) ≡ true)
    × (fit_in (bits8 ∷ bits16 ∷ bits8 ∷ []) (0 ∷ 256 ∷ 7 ∷ []) ≡ true)
    × (fit_in [] [] ≡ true)
unfolding fit_in
fitting = (refl, refl, refl, refl, refl)

-- one past each width
-- in the place of another
-- a `-`, and a field that is no number
pub too-large :
    (fit_in (bits8 ∷ []) (256 ∷ []) ≡ false)
    × (fit_in (bits16 ∷ []) (65536 ∷ []) ≡ false)
    × (fit_in (bits32 ∷ []) (4294967296 ∷ []) ≡ false)
    × (fit_in (bits8 ∷ bits16 ∷ bits8 ∷ []) (256 ∷ 0 ∷ 7 ∷ []) ≡ false)
    × (fit_in (bits8 ∷ bits16 ∷ bits8 ∷ []) (0 ∷ 7 ∷ 256 ∷ []) ≡ false)
    × (fit_in (bits32 ∷ []) (dash ∷ []) ≡ false)
    × (fit_in (bits32 ∷ []) (no_plain ∷ []) ≡ false)
unfolding fit_in
too-large = (refl, refl, refl, refl, refl, refl, refl)

-- too few numbers, and too many
pub other-counts :
    (fit_in (bits8 ∷ bits8 ∷ []) (7 ∷ []) ≡ false)
    × (fit_in (bits8 ∷ []) [] ≡ false)
    × (fit_in (bits8 ∷ []) (7 ∷ 7 ∷ []) ≡ false)
    × (fit_in [] (7 ∷ []) ≡ false)
unfolding fit_in
other-counts = (refl, refl, refl, refl)

-- the letter alone fits where no number is to come, and nowhere else; a line that begins otherwise fits nowhere
-- E
-- F
pub alone-or-otherwise :
    (fit_in [] (values_of 69 32 (69 ∷ [])) ≡ true)
    × (fit_in (bits32 ∷ []) (values_of 69 32 (69 ∷ [])) ≡ false)
    × (fit_in [] (values_of 69 32 (70 ∷ [])) ≡ false)
    × (fit_in (bits32 ∷ []) (values_of 69 32 (70 ∷ [])) ≡ false)
    × (fit_in (bits32 ∷ bits32 ∷ []) (values_of 69 32 (70 ∷ [])) ≡ false)
    × (all_fit bits32 (values_of 69 32 (70 ∷ [])) ≡ false)
unfolding values_of fit_in all_fit
alone-or-otherwise = (refl, refl, refl, refl, refl, refl)

-- one width for any count
pub all-fitting :
    (all_fit bits8 [] ≡ true)
    × (all_fit bits8 (255 ∷ 0 ∷ 255 ∷ []) ≡ true)
    × (all_fit bits8 (256 ∷ 0 ∷ []) ≡ false)
    × (all_fit bits8 (0 ∷ 255 ∷ 256 ∷ []) ≡ false)
    × (all_fit bits32 (4294967295 ∷ 0 ∷ []) ≡ true)
    × (all_fit bits32 (0 ∷ no_plain ∷ []) ≡ false)
    × (all_fit bits32 (dash ∷ []) ≡ false)
unfolding all_fit
all-fitting = (refl, refl, refl, refl, refl, refl, refl)

-- INPUTS, whatever a line makes of what was read before it

module _ {S : Type 0} (taken : S → List ℕ → S) (t : S) where
  abbrev ReadAs : List ℕ → List ℕ → S → List ℕ → Type 0
  ReadAs begun s after rest = read_from taken t begun s ≡ record { state = after; rest = rest }

  -- nothing
  -- a, and then b
  -- a, and then b LF
  -- LF LF c: two blank lines
  -- a CR LF: the CR is a byte of the line
  pub inputs :
      ReadAs [] [] t []
      × ReadAs (97 ∷ []) (98 ∷ []) t (97 ∷ 98 ∷ [])
      × ReadAs (97 ∷ []) (98 ∷ 10 ∷ []) (taken t (97 ∷ 98 ∷ [])) []
      × ReadAs [] (10 ∷ 10 ∷ 99 ∷ []) (taken (taken t []) []) (99 ∷ [])
      × ReadAs [] (97 ∷ 13 ∷ 10 ∷ []) (taken t (97 ∷ 13 ∷ [])) []
  inputs = (refl, refl, refl, refl, refl)

  -- a LF b c d, of which two bytes have room
  pub held-inputs : held_to 2 (read_from taken t [] (97 ∷ 10 ∷ 98 ∷ 99 ∷ 100 ∷ []))
      ≡ record { state = taken t (97 ∷ []); rest = 98 ∷ 99 ∷ [] }
  held-inputs = refl
