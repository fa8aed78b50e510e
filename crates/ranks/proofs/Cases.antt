-- The definitions, tried on sets and keys that are written out: each case computes.
-- Assumes nothing.
use Prim.Native.Nat.{ℕ}
use mathlib.Core.Bool.{true, false}
use mathlib.Core.List.{List, [], ◌∷◌}
use mathlib.Core.Path.{◌≡◌, refl}
use lib.Count.{count_trailing_zeros}
use Rattle.sets.specs.Sets.{member, set_of, count_of}
use Rattle.ranks.specs.Ranks.{rank_by, turned, outranking_in, best_in, past_of}

-- client 2 ranks highest, then 0, 3 (whose keys are equal), 1; client 4 has no row, and so key 0
abbrev ks : List ℕ
ks = 5 ∷ 9 ∷ 2 ∷ 5 ∷ []

-- the smaller number outranks, of equal ones the smaller client; nobody outranks itself
rank-cases :
    (rank_by ks 2 0 ≡ true) × (rank_by ks 1 0 ≡ false) × (rank_by ks 0 3 ≡ true) × (rank_by ks 3 0 ≡ false)
    × (rank_by ks 3 3 ≡ false) × (rank_by ks 4 2 ≡ true) × (turned (rank_by ks) 1 0 ≡ true)
    × (turned (rank_by ks) 0 3 ≡ false)
unfolding rank_by
rank-cases = (refl, refl, refl, refl, refl, refl, refl, refl)

-- of 0, 1 and 3 those who outrank 3, and 1, and 0; 2 is not in the set
outranking-cases : (outranking_in ks 11 3 ≡ 1) × (outranking_in ks 11 1 ≡ 9) × (outranking_in ks 11 0 ≡ 0)
unfolding rank_by member set_of
outranking-cases = (refl, refl, refl)

-- the best two of 0, 1 and 3; one alone; of three the best three; 2 is not in the set; nobody is among the best none
best-cases :
    (best_in ks 11 2 0 ≡ true) × (best_in ks 11 2 3 ≡ true) × (best_in ks 11 2 1 ≡ false) × (best_in ks 11 1 3 ≡ false)
    × (best_in ks 11 3 1 ≡ true) × (best_in ks 11 2 2 ≡ false) × (best_in ks 11 0 0 ≡ false)
unfolding best_in rank_by member set_of count_of
best-cases = (refl, refl, refl, refl, refl, refl, refl)

-- 13 is the set of 0, 2 and 3
past_cases : (past_of 13 0 ≡ 13) × (past_of 13 1 ≡ 12) × (past_of 13 2 ≡ 8) × (past_of 13 3 ≡ 0)
unfolding past_of member set_of count_trailing_zeros
past_cases = (refl, refl, refl, refl)
