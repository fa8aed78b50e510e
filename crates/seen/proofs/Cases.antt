-- The definitions, tried on lists and places that are written out: each case computes.
-- Assumes nothing.
use Prim.Native.Nat.{ℕ}
use mathlib.Core.Path.{◌≡◌, refl}
use mathlib.Core.Bool.{true, false}
use mathlib.Core.List.{List, [], ◌∷◌}
use mathlib.Core.Option.{Option, some, none}
use Rattle.sets.specs.Sets.{member, set_of}
use Rattle.places.specs.Places.{unpad, holds_only, used_first}
use Rattle.places.specs.Tests.{every}
use Rattle.std.proofs.Common.{Some, None}
use Rattle.seen.specs.Seen.{seen_of, seen_from, seen_if, queue_seen}

told-cases : (seen_of None ≡ none) × (seen_of (Some 0) ≡ some 0) × (seen_of (Some 13) ≡ some 13)
told-cases = (refl, refl, refl)

-- 3 and 1 after nobody, and after 4; nobody after 4; 3 twice, next to itself and not; 3 after 3; 64 is in no set, so
-- that it is never met twice
from-cases :
    (seen_from 0 (3 ∷ 1 ∷ []) ≡ some 10) × (seen_from 16 (3 ∷ 1 ∷ []) ≡ some 26) × (seen_from 16 [] ≡ some 16)
    × (seen_from 0 (3 ∷ 3 ∷ []) ≡ none) × (seen_from 0 (3 ∷ 1 ∷ 3 ∷ []) ≡ none) × (seen_from 8 (1 ∷ 3 ∷ []) ≡ none)
    × (seen_from 0 (64 ∷ 1 ∷ 64 ∷ []) ≡ some 2)
unfolding member set_of seen_from
from-cases = (refl, refl, refl, refl, refl, refl, refl)

if-cases : (seen_if true 16 (1 ∷ []) ≡ some 18) × (seen_if false 16 (1 ∷ []) ≡ none)
unfolding member set_of seen_from
if-cases = (refl, refl)

-- 0, 2 and 3 may stand in four places, and others are already seen
abbrev seen : List ℕ → ℕ → Option ℕ
seen q others = queue_seen (member 13) q others

-- nobody; two; two after others; as many as may stand; four, of whom 1 may not stand, and no place is left
stands-cases :
    (seen (255 ∷ 255 ∷ 255 ∷ 255 ∷ []) 16 ≡ some 16) × (seen (2 ∷ 0 ∷ 255 ∷ 255 ∷ []) 0 ≡ some 5)
    × (seen (2 ∷ 0 ∷ 255 ∷ 255 ∷ []) 16 ≡ some 21) × (seen (2 ∷ 0 ∷ 3 ∷ 255 ∷ []) 0 ≡ some 13)
    × (seen (2 ∷ 0 ∷ 3 ∷ 1 ∷ []) 0 ≡ none) × (seen [] 0 ≡ some 0)
unfolding member set_of unpad holds_only used_first every seen_from queue_seen
stands-cases = (refl, refl, refl, refl, refl, refl)

-- 2 twice; 1, who may not stand, first and last; a gap before a used place, and before the first; 2, already seen; and
-- behind a gap somebody who may not stand
falls-cases :
    (seen (2 ∷ 0 ∷ 2 ∷ 255 ∷ []) 0 ≡ none) × (seen (1 ∷ 255 ∷ 255 ∷ 255 ∷ []) 0 ≡ none)
    × (seen (2 ∷ 1 ∷ 255 ∷ 255 ∷ []) 0 ≡ none) × (seen (2 ∷ 255 ∷ 0 ∷ 255 ∷ []) 0 ≡ none)
    × (seen (255 ∷ 2 ∷ 255 ∷ 255 ∷ []) 0 ≡ none) × (seen (0 ∷ 2 ∷ 255 ∷ 255 ∷ []) 4 ≡ none)
    × (seen (2 ∷ 255 ∷ 1 ∷ 255 ∷ []) 0 ≡ none)
unfolding member set_of unpad holds_only used_first every seen_from queue_seen
falls-cases = (refl, refl, refl, refl, refl, refl, refl)
