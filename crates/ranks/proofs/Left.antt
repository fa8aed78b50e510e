-- A set without its lowest by number: what is left is within it, and as many as are missing are left out.
-- Assumes nothing.
use Prim.Native.Nat.{ℕ, zero, suc, ◌+◌, ◌^◌, ◌≤◌, ◌<◌}
use mathlib.Core.Bool.{true}
use mathlib.Core.Path.{◌≡◌}
use native.Mathlib.Numerals.{add-one}
use native.Mathlib.Omega.{arith}
use Rattle.rules.specs.Limits.{max_clients}
use Rattle.sets.specs.Sets.{member, count_of, first_of, without_of}
use Rattle.sets.proofs.Counts.{count-without, some_in}
use Rattle.sets.proofs.Laws.{set_of-below}
use Rattle.sets.proofs.Lowest.{first-in}
use Rattle.sets.proofs.Walks.{still-in}
use Rattle.ranks.specs.Ranks.{past_of}

module _ (s : ℕ) (word : s < 2 ^ max_clients) where
  past_word : (m : ℕ) → past_of s m < 2 ^ max_clients
  unfolding past_of
  past_word zero = word
  past_word (suc m) = set_of-below max_clients _

  -- one goes at a time
  fewer : (t : ℕ) → t < 2 ^ max_clients → 0 < t → suc (count_of (without_of t (first_of t))) ≡ count_of t
  fewer t w p = let i = first-in max_clients t w p in count-without t (first_of t) i.0 i.1

  pub past-count : (m : ℕ) → m ≤ count_of s → count_of (past_of s m) + m ≡ count_of s
  unfolding past_of
  past-count zero h = omega arith
  past-count (suc m) h =
      let i : count_of (past_of s m) + m ≡ count_of s = past-count m (omega arith) in
      let p : 0 < past_of s m = some_in (past_of s m) 0 (omega arith) in
      let f = fewer (past_of s m) (past_word m) p in
      omega (arith, i, f)

  -- while fewer than it has are gone, some are left
  pub past-some : (m : ℕ) → m < count_of s → 0 < past_of s m
  past-some m h =
      let i : count_of (past_of s m) + m ≡ count_of s = past-count m (omega arith) in
      some_in (past_of s m) 0 (omega (arith, i))

  pub past-in : (m d : ℕ) → d < max_clients → member (past_of s m) d ≡ true → member s d ≡ true
  unfolding past_of
  past-in zero d b e = e
  past-in (suc m) d b e = past-in m d b (still-in (past_of s m) (first_of (past_of s m)) d b e)

-- one more
pub past_next : (s m : ℕ) → without_of (past_of s m) (first_of (past_of s m)) ≡ past_of s (m + 1)
unfolding past_of
past_next s m = rw (add-one m)
