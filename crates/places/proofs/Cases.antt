-- The definitions, tried on places that are written out: each case computes.
-- Assumes nothing.
use Prim.Native.Nat.{ℕ}
use mathlib.Core.Path.{◌≡◌, refl}
use mathlib.Core.Bool.{true, false}
use mathlib.Core.List.{List, [], ◌∷◌}
use lib.Dec.{ltb, leb}
use Rattle.places.specs.Places.{pad, unpad, holds_only, used_first, place_of, place_for, used_of}
use Rattle.places.specs.Places.{append_of, join_of, close_up_of, take_out_of}
use Rattle.places.specs.Tests.{every, all_below, zeros, distinct}

-- two clients in four places; four clients, one of them twice; and an unused place before a used one
abbrev two : List ℕ
two = 7 ∷ 3 ∷ 255 ∷ 255 ∷ []

abbrev full : List ℕ
full = 7 ∷ 3 ∷ 9 ∷ 7 ∷ []

abbrev gap : List ℕ
gap = 7 ∷ 255 ∷ 9 ∷ 255 ∷ []

-- a list that is too long is cut
pad-cases : (pad 4 (7 ∷ 3 ∷ []) ≡ two) × (pad 4 [] ≡ 255 ∷ 255 ∷ 255 ∷ 255 ∷ []) × (pad 1 (7 ∷ 3 ∷ []) ≡ 7 ∷ [])
unfolding pad
pad-cases = (refl, refl, refl)

unpad-cases : (unpad two ≡ 7 ∷ 3 ∷ []) × (unpad full ≡ full) × (unpad gap ≡ 7 ∷ [])
unfolding unpad
unpad-cases = (refl, refl, refl)

first-cases : (used_first two ≡ true) × (used_first full ≡ true) × (used_first gap ≡ false)
unfolding holds_only used_first
first-cases = (refl, refl, refl)

-- another at the first place, or at the last; of no places it holds
only-cases :
    (holds_only 7 (7 ∷ 7 ∷ []) ≡ true) × (holds_only 7 (3 ∷ 7 ∷ []) ≡ false)
    × (holds_only 7 (7 ∷ 3 ∷ []) ≡ false) × (holds_only 7 [] ≡ true)
unfolding holds_only
only-cases = (refl, refl, refl, refl)

-- the first of two places that hold 7; 5 is in none of the four; 255 is found at the first unused place
place-cases : (place_of 7 full ≡ 0) × (place_of 9 gap ≡ 2) × (place_of 5 two ≡ 4) × (place_of 255 two ≡ 2)
unfolding place_of
place-cases = (refl, refl, refl, refl)

-- where 7 stands, the first of two places; 5 would join at the first unused place, and so would 9, which stands behind
-- one; full places have none for 5
for-cases :
    (place_for 7 full ≡ 0) × (place_for 3 two ≡ 1) × (place_for 5 two ≡ 2) × (place_for 9 gap ≡ 1)
    × (place_for 255 two ≡ 2) × (place_for 5 full ≡ 4) × (place_for 5 [] ≡ 0)
unfolding place_for
for-cases = (refl, refl, refl, refl, refl, refl, refl)

used-cases : (used_of two ≡ 2) × (used_of full ≡ 4) × (used_of gap ≡ 1) × (used_of [] ≡ 0)
unfolding place_of
used-cases = (refl, refl, refl, refl)

-- full places take nobody, and 255 is nobody
append_cases :
    (append_of 5 two ≡ 7 ∷ 3 ∷ 5 ∷ 255 ∷ []) × (append_of 5 full ≡ full)
    × (append_of 5 gap ≡ 7 ∷ 5 ∷ 9 ∷ 255 ∷ []) × (append_of 255 two ≡ two)
unfolding place_of append_of
append_cases = (refl, refl, refl, refl)

-- who is there does not join again, unless behind an unused place; full places take nobody, and 255 is nobody
join-cases :
    (join_of 5 two ≡ 7 ∷ 3 ∷ 5 ∷ 255 ∷ []) × (join_of 3 two ≡ two) × (join_of 5 full ≡ full)
    × (join_of 9 gap ≡ 7 ∷ 9 ∷ 9 ∷ 255 ∷ []) × (join_of 255 two ≡ two)
unfolding place_for join_of
join-cases = (refl, refl, refl, refl, refl)

-- a place that there is not changes nothing
close-cases :
    (close_up_of 0 two ≡ 3 ∷ 255 ∷ 255 ∷ 255 ∷ []) × (close_up_of 3 full ≡ 7 ∷ 3 ∷ 9 ∷ 255 ∷ [])
    × (close_up_of 4 full ≡ full)
unfolding close_up_of
close-cases = (refl, refl, refl)

-- only the first 7 leaves; 5 is not there; of 255 it is an unused place that leaves
take_cases :
    (take_out_of 7 full ≡ 3 ∷ 9 ∷ 7 ∷ 255 ∷ []) × (take_out_of 3 two ≡ 7 ∷ 255 ∷ 255 ∷ 255 ∷ [])
    × (take_out_of 5 two ≡ two) × (take_out_of 255 gap ≡ 7 ∷ 9 ∷ 255 ∷ 255 ∷ [])
unfolding place_of close_up_of take_out_of
take_cases = (refl, refl, refl, refl)

-- TESTS ON LISTS

every-cases :
    (every (λ (n : ℕ). leb n 4) (4 ∷ 0 ∷ []) ≡ true) × (every (λ (n : ℕ). leb n 4) (5 ∷ 0 ∷ []) ≡ false)
    × (every (λ (n : ℕ). leb n 4) (0 ∷ 5 ∷ []) ≡ false) × (every (λ (n : ℕ). leb n 4) [] ≡ true)
unfolding every
every-cases = (refl, refl, refl, refl)

-- below, so not the number itself; and 0, too
all-cases :
    (all_below 3 (λ (n : ℕ). ltb n 3) ≡ true) × (all_below 4 (λ (n : ℕ). ltb n 3) ≡ false)
    × (all_below 3 (λ (n : ℕ). ltb 0 n) ≡ false) × (all_below 0 (λ (n : ℕ). ltb 0 n) ≡ true)
unfolding all_below
all-cases = (refl, refl, refl, refl)

zeros-cases : (zeros (0 ∷ 0 ∷ []) ≡ true) × (zeros (0 ∷ 1 ∷ []) ≡ false) × (zeros [] ≡ true)
unfolding holds_only
zeros-cases = (refl, refl, refl)

distinct-cases :
    (distinct (7 ∷ 3 ∷ 9 ∷ []) ≡ true) × (distinct full ≡ false) × (distinct (3 ∷ 7 ∷ 7 ∷ []) ≡ false)
    × (distinct [] ≡ true)
unfolding distinct
distinct-cases = (refl, refl, refl, refl)
