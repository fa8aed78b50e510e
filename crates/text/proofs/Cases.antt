-- Separators, widths, counts and numbers as text, computed.
-- Assumes nothing.
use mathlib.Core.Path.{◌≡◌, refl}
use mathlib.Core.List.{[], ◌∷◌}
use Rattle.text.specs.Text.{lf, space, comma, cr, decimal, bits8, bits16, bits32, next_count}

-- LF, a space, a comma and CR
pub bytes : lf ∷ space ∷ comma ∷ cr ∷ [] ≡ 10 ∷ 32 ∷ 44 ∷ 13 ∷ []
bytes = refl

-- the largest numbers of 8, 16 and 32 bits
pub widths : bits8 ∷ bits16 ∷ bits32 ∷ [] ≡ 255 ∷ 65535 ∷ 4294967295 ∷ []
widths = refl

-- the last number stays
pub counts :
    (next_count 0 ≡ 1)
    × (next_count 18446744073709551614 ≡ 18446744073709551615)
    × (next_count 18446744073709551615 ≡ 18446744073709551615)
counts = (refl, refl, refl)

-- 0, 10 and 4294967295: no leading zero, and none lost
pub numbers :
    (decimal 0 ≡ 48 ∷ [])
    × (decimal 10 ≡ 49 ∷ 48 ∷ [])
    × (decimal 4294967295 ≡ 52 ∷ 50 ∷ 57 ∷ 52 ∷ 57 ∷ 54 ∷ 55 ∷ 50 ∷ 57 ∷ 53 ∷ [])
unfolding decimal
numbers = (refl, refl, refl)
