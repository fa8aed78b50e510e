-- The best of those seen so far, as a search holds them.
-- Assumes nothing.
use Rattle.std.specs.Prelude.{ℕ, ◌<◌, ◌≡◌, Bool, true, false}
use Rattle.std.proofs.Math.Option.{some}
use Rattle.rules.specs.Limits.{max_clients}
use Rattle.rules.specs.Lists.{highest}
use Rattle.rules.specs.Rank.{Rank}
use Rattle.sets.specs.Sets.{member, count_of}
use Rattle.ranks.specs.Ranks.{turned}
use Rattle.ranks.specs.declared.Kept.{Kept}

-- k holds m of those that passed p, each of whom outranks all that are left out; and the lowest of them
pub record Keeps (rank : Rank) (m : ℕ) (p : ℕ → Bool) (k : Kept) : Type 0 where
  pub seen : (c : ℕ) → c < max_clients → member k.best c ≡ true → p c ≡ true
  pub above : (c d : ℕ) → c < max_clients → d < max_clients → member k.best c ≡ true → p d ≡ true
      → member k.best d ≡ false → rank c d ≡ true
  pub full : count_of k.best ≡ m
  pub last : some k.last ≡ highest (turned rank) (member k.best) max_clients
