-- Lines of text and their fields, computed. A line is written as its bytes, under its text, and is cut at commas (44).
-- Assumes nothing.
use Prim.Native.Nat.{ℕ}
use mathlib.Core.Path.{◌≡◌, refl}
use mathlib.Core.List.{List, [], ◌∷◌}
use Rattle.fields.specs.Fields.{fields, field_length}

-- its fields, and how long the first is
abbrev Cut : List ℕ → List (List ℕ) → ℕ → Type 0
Cut s fs n = (fields 44 s ≡ fs) × (field_length 44 s ≡ n)

-- (empty)
-- 1
-- ,1
-- 12,
-- 1,,2
-- ,
-- 1 2,3 (a space is no separator here)
pub cuts :
    Cut [] ([] ∷ []) 0
    × Cut (49 ∷ []) ((49 ∷ []) ∷ []) 1
    × Cut (44 ∷ 49 ∷ []) ([] ∷ (49 ∷ []) ∷ []) 0
    × Cut (49 ∷ 50 ∷ 44 ∷ []) ((49 ∷ 50 ∷ []) ∷ [] ∷ []) 2
    × Cut (49 ∷ 44 ∷ 44 ∷ 50 ∷ []) ((49 ∷ []) ∷ [] ∷ (50 ∷ []) ∷ []) 1
    × Cut (44 ∷ []) ([] ∷ [] ∷ []) 0
    × Cut (49 ∷ 32 ∷ 50 ∷ 44 ∷ 51 ∷ []) ((49 ∷ 32 ∷ 50 ∷ []) ∷ (51 ∷ []) ∷ []) 3
cuts =
    ((refl, refl), (refl, refl), (refl, refl), (refl, refl), (refl, refl), (refl, refl), (refl, refl))

-- at spaces, the same line is cut elsewhere
pub at-spaces :
    (fields 32 (49 ∷ 32 ∷ 50 ∷ 44 ∷ 51 ∷ []) ≡ (49 ∷ []) ∷ (50 ∷ 44 ∷ 51 ∷ []) ∷ [])
    × (field_length 32 (49 ∷ 32 ∷ 50 ∷ 44 ∷ 51 ∷ []) ≡ 1)
at-spaces = (refl, refl)
