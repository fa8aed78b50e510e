-- The definitions, tried on words that are written out: each case computes.
-- Assumes nothing.
use Prim.Native.Nat.{ℕ}
use mathlib.Core.Path.{◌≡◌, refl}
use mathlib.Core.Bool.{true, false, ◌||◌}
use lib.Count.{count_trailing_zeros}
use lib.Dec.{eqb, ltb}
use Rattle.sets.specs.Sets.{member, set_of, with_of, without_of, common_of, less_of, count_of, first_of}

-- 13 = 8 + 4 + 1 is the set of 0, 2 and 3
member-13 :
    (member 13 0 ≡ true) × (member 13 1 ≡ false) × (member 13 2 ≡ true) × (member 13 3 ≡ true)
    × (member 13 64 ≡ false)
unfolding member
member-13 = (refl, refl, refl, refl, refl)

-- the set of 3 and 63, and of every number below 64
set_of-two : set_of 64 (λ (j : ℕ). eqb j 3 || eqb j 63) ≡ 9223372036854775816
unfolding set_of
set_of-two = refl

set_of-all : set_of 64 (λ (j : ℕ). ltb j 100) ≡ 18446744073709551615
unfolding set_of
set_of-all = refl

-- 1 joins, 0 joins again, 64 does not join
with-13 : (with_of 13 1 ≡ 15) × (with_of 13 0 ≡ 13) × (with_of 13 64 ≡ 13)
unfolding member set_of
with-13 = (refl, refl, refl)

-- 3 leaves, 1 was not there, 64 was not there
without-13 : (without_of 13 3 ≡ 5) × (without_of 13 1 ≡ 13) × (without_of 13 64 ≡ 13)
unfolding member set_of
without-13 = (refl, refl, refl)

-- of 0, 2 and 3 and of 2, 3 and 5 it is 2 and 3 that are in both; of 0, 2 and 3 and of 1 and 4 nobody is; 63 counts
common-13 : (common_of 13 44 ≡ 12) × (common_of 13 18 ≡ 0) × (common_of 9223372036854775809 9223372036854775808
    ≡ 9223372036854775808)
unfolding member set_of
common-13 = (refl, refl, refl)

-- 0 and 3 are left of 13 without 2 and 5; nobody is left without all of them
less-13 : (less_of 13 36 ≡ 9) × (less_of 13 15 ≡ 0)
unfolding member set_of
less-13 = (refl, refl)

-- none, three, and all 64
count-some : (count_of 0 ≡ 0) × (count_of 13 ≡ 3) × (count_of 18446744073709551615 ≡ 64)
unfolding member count_of
count-some = (refl, refl, refl)

-- the lowest of 0, 2 and 3, of 2 and 3, and of 63; 64 where there is nobody
first_some : (first_of 13 ≡ 0) × (first_of 12 ≡ 2) × (first_of 9223372036854775808 ≡ 63) × (first_of 0 ≡ 64)
unfolding count_trailing_zeros
first_some = (refl, refl, refl, refl)
