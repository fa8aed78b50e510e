-- Rank by a column of keys, the lowest in rank, and the best of a set.
-- Assumes nothing.
use Rattle.std.specs.Prelude.{ℕ, zero, suc, Bool, ◌&&◌, List, ltb, get_or}
use Rattle.rules.specs.Limits.{max_clients}
use Rattle.rules.specs.Rank.{Rank, before}
use Rattle.sets.specs.Sets.{member, set_of, count_of, without_of, first_of}

-- the rank by a column of keys: the smaller key outranks, of equal ones the smaller client number
unfoldable pub rank_by : List ℕ → Rank
rank_by ks a b = before (get_or ks a 0) a (get_or ks b 0) b

-- the rank turned round: its highest is the lowest
abbrev pub turned : Rank → Rank
turned rank a b = rank b a

-- those in the set that outrank c
abbrev pub outranking_in : List ℕ → ℕ → ℕ → ℕ
outranking_in ks s c = set_of max_clients (λ (d : ℕ). member s d && rank_by ks d c)

-- c is in the set, and fewer than m of those there outrank it
unfoldable pub best_in : List ℕ → ℕ → ℕ → ℕ → Bool
best_in ks s m c = member s c && ltb (count_of (outranking_in ks s c)) m

-- the set without its m lowest clients by number
unfoldable pub past_of : ℕ → ℕ → ℕ
past_of s zero = s
past_of s (suc m) = without_of (past_of s m) (first_of (past_of s m))
