-- Texts of fields and the numbers that they are read as, computed. Each is written as its bytes, under its text.
-- Assumes nothing.
use Prim.Native.Nat.{ℕ}
use mathlib.Core.Path.{◌≡◌, refl}
use mathlib.Core.List.{List, [], ◌∷◌}
use mathlib.Core.Option.{Option, some, none}
use lib.IntN.{ℤ, pos, negsuc}
use Rattle.std.specs.Prelude.{Some, None}
use Rattle.numerals.specs.Numbers.{field_of}
use Rattle.numerals.specs.Plain.{no_plain, plain_of, long_told, long_of}

abbrev Reads : List ℕ → ℤ → Type 0
Reads s z = field_of s ≡ z

-- 007
-- -0
-- -
-- -40
-- --1
-- 1 and a space
pub numbers :
    Reads (48 ∷ 48 ∷ 55 ∷ []) (pos 7)
    × Reads (45 ∷ 48 ∷ []) (pos 0)
    × Reads (45 ∷ []) (negsuc 0)
    × Reads (45 ∷ 52 ∷ 48 ∷ []) (negsuc 39)
    × Reads (45 ∷ 45 ∷ 49 ∷ []) (negsuc 0)
    × Reads (49 ∷ 32 ∷ []) (negsuc 0)
unfolding field_of
numbers = (refl, refl, refl, refl, refl, refl)

-- 9223372036854775807
-- 9223372036854775808
-- -9223372036854775808
-- -9223372036854775809
pub extremes :
    Reads (57 ∷ 50 ∷ 50 ∷ 51 ∷ 51 ∷ 55 ∷ 50
    ∷ 48 ∷ 51 ∷ 54 ∷ 56 ∷ 53 ∷ 52 ∷ 55 ∷ 55 ∷ 53 ∷ 56 ∷ 48 ∷ 55 ∷ []) (pos 9223372036854775807)
    × Reads (57 ∷ 50 ∷ 50 ∷ 51 ∷ 51 ∷ 55 ∷ 50
    ∷ 48 ∷ 51 ∷ 54 ∷ 56 ∷ 53 ∷ 52 ∷ 55 ∷ 55 ∷ 53 ∷ 56 ∷ 48 ∷ 56 ∷ []) (negsuc 0)
    × Reads (45 ∷ 57 ∷ 50 ∷ 50 ∷ 51 ∷ 51 ∷ 55 ∷ 50
    ∷ 48 ∷ 51 ∷ 54 ∷ 56 ∷ 53 ∷ 52 ∷ 55 ∷ 55 ∷ 53 ∷ 56 ∷ 48 ∷ 56 ∷ []) (negsuc 9223372036854775807)
    × Reads (45 ∷ 57 ∷ 50 ∷ 50 ∷ 51 ∷ 51 ∷ 55 ∷ 50
    ∷ 48 ∷ 51 ∷ 54 ∷ 56 ∷ 53 ∷ 52 ∷ 55 ∷ 55 ∷ 53 ∷ 56 ∷ 48 ∷ 57 ∷ []) (negsuc 0)
unfolding field_of
extremes = (refl, refl, refl, refl)

-- PLAIN NUMBERS

abbrev Plain : List ℕ → ℕ → Type 0
Plain s n = plain_of s ≡ n

-- 0
-- 7
-- 70
-- 4294967295
pub plain-numbers :
    Plain (48 ∷ []) 0
    × Plain (55 ∷ []) 7
    × Plain (55 ∷ 48 ∷ []) 70
    × Plain (52 ∷ 50 ∷ 57 ∷ 52 ∷ 57 ∷ 54 ∷ 55 ∷ 50 ∷ 57 ∷ 53 ∷ []) 4294967295
unfolding plain_of
plain-numbers = (refl, refl, refl, refl)

-- (empty)
-- 00
-- 07
-- -1
-- +1
-- 1 and a space
-- 4294967296
-- 12345678901234567890
pub not_plain :
    Plain [] no_plain
    × Plain (48 ∷ 48 ∷ []) no_plain
    × Plain (48 ∷ 55 ∷ []) no_plain
    × Plain (45 ∷ 49 ∷ []) no_plain
    × Plain (43 ∷ 49 ∷ []) no_plain
    × Plain (49 ∷ 32 ∷ []) no_plain
    × Plain (52 ∷ 50 ∷ 57 ∷ 52 ∷ 57 ∷ 54 ∷ 55 ∷ 50 ∷ 57 ∷ 54 ∷ []) no_plain
    × Plain (49 ∷ 50 ∷ 51 ∷ 52 ∷ 53 ∷ 54 ∷ 55 ∷ 56 ∷ 57 ∷ 48
    ∷ 49 ∷ 50 ∷ 51 ∷ 52 ∷ 53 ∷ 54 ∷ 55 ∷ 56 ∷ 57 ∷ 48 ∷ []) no_plain
unfolding plain_of
not_plain = (refl, refl, refl, refl, refl, refl, refl, refl)

-- PLAIN NUMBERS OF 64 BITS

abbrev Long : List ℕ → Option ℕ → Type 0
Long s o = long_of s ≡ o

-- 0
-- 7
-- 4294967296
-- 18446744073709551610
-- 18446744073709551615
pub long-numbers :
    Long (48 ∷ []) (some 0)
    × Long (55 ∷ []) (some 7)
    × Long (52 ∷ 50 ∷ 57 ∷ 52 ∷ 57 ∷ 54 ∷ 55 ∷ 50 ∷ 57 ∷ 54 ∷ []) (some 4294967296)
    × Long (49 ∷ 56 ∷ 52 ∷ 52 ∷ 54 ∷ 55 ∷ 52 ∷ 52 ∷ 48 ∷ 55
    ∷ 51 ∷ 55 ∷ 48 ∷ 57 ∷ 53 ∷ 53 ∷ 49 ∷ 54 ∷ 49 ∷ 48 ∷ []) (some 18446744073709551610)
    × Long (49 ∷ 56 ∷ 52 ∷ 52 ∷ 54 ∷ 55 ∷ 52 ∷ 52 ∷ 48 ∷ 55
    ∷ 51 ∷ 55 ∷ 48 ∷ 57 ∷ 53 ∷ 53 ∷ 49 ∷ 54 ∷ 49 ∷ 53 ∷ []) (some 18446744073709551615)
unfolding long_of
long-numbers = (refl, refl, refl, refl, refl)

-- (empty)
-- 00
-- 01
-- -1
-- +1
-- a space and 1
-- 1 and a space
-- 18446744073709551616
-- 18446744073709551620
-- 20000000000000000000
-- 100000000000000000000
pub not-long :
    Long [] none
    × Long (48 ∷ 48 ∷ []) none
    × Long (48 ∷ 49 ∷ []) none
    × Long (45 ∷ 49 ∷ []) none
    × Long (43 ∷ 49 ∷ []) none
    × Long (32 ∷ 49 ∷ []) none
    × Long (49 ∷ 32 ∷ []) none
    × Long (49 ∷ 56 ∷ 52 ∷ 52 ∷ 54 ∷ 55 ∷ 52 ∷ 52 ∷ 48 ∷ 55
    ∷ 51 ∷ 55 ∷ 48 ∷ 57 ∷ 53 ∷ 53 ∷ 49 ∷ 54 ∷ 49 ∷ 54 ∷ []) none
    × Long (49 ∷ 56 ∷ 52 ∷ 52 ∷ 54 ∷ 55 ∷ 52 ∷ 52 ∷ 48 ∷ 55
    ∷ 51 ∷ 55 ∷ 48 ∷ 57 ∷ 53 ∷ 53 ∷ 49 ∷ 54 ∷ 50 ∷ 48 ∷ []) none
    × Long (50 ∷ 48 ∷ 48 ∷ 48 ∷ 48 ∷ 48 ∷ 48 ∷ 48 ∷ 48 ∷ 48
    ∷ 48 ∷ 48 ∷ 48 ∷ 48 ∷ 48 ∷ 48 ∷ 48 ∷ 48 ∷ 48 ∷ 48 ∷ []) none
    × Long (49 ∷ 48 ∷ 48 ∷ 48 ∷ 48 ∷ 48 ∷ 48 ∷ 48 ∷ 48 ∷ 48
    ∷ 48 ∷ 48 ∷ 48 ∷ 48 ∷ 48 ∷ 48 ∷ 48 ∷ 48 ∷ 48 ∷ 48 ∷ 48 ∷ []) none
unfolding long_of
not-long = (refl, refl, refl, refl, refl, refl, refl, refl, refl, refl, refl)

-- what the code answers
pub told : (long_told (Some 5) ≡ some 5) × (long_told None ≡ none)
told = (refl, refl)
