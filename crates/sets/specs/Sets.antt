-- What a word means as a set, and what the functions of this crate answer.
-- Assumes nothing.
use Rattle.std.specs.Prelude.{ℕ, zero, suc, ◌+◌, ◌/◌, ◌%◌, ◌^◌, Bool, true, false, not, ◌&&◌, ◌||◌, cond, eqb}
use Rattle.std.specs.Int.Count.{count_trailing_zeros}
use Rattle.rules.specs.Limits.{max_clients}
use Rattle.rules.specs.Lists.{upd, count_below}

-- j is in the set s: bit j of s is 1
unfoldable pub member : ℕ → ℕ → Bool
member s j = eqb (s / 2 ^ j % 2) 1

-- the set of the numbers below n that pass the test
unfoldable pub set_of : ℕ → (ℕ → Bool) → ℕ
set_of zero p = 0
set_of (suc n) p = cond (p n) (2 ^ n) 0 + set_of n p

-- the set s of clients, with c
abbrev pub with_of : ℕ → ℕ → ℕ
with_of s c = set_of max_clients (upd (member s) c true)

-- the set s of clients, without c
abbrev pub without_of : ℕ → ℕ → ℕ
without_of s c = set_of max_clients (upd (member s) c false)

-- the clients of s and of t
abbrev pub union_of : ℕ → ℕ → ℕ
union_of s t = set_of max_clients (λ (c : ℕ). member s c || member t c)

-- those of both
abbrev pub common_of : ℕ → ℕ → ℕ
common_of s t = set_of max_clients (λ (c : ℕ). member s c && member t c)

-- the clients of s that are not of t
abbrev pub less_of : ℕ → ℕ → ℕ
less_of s t = set_of max_clients (λ (c : ℕ). member s c && not (member t c))

-- how many clients are in the set s
unfoldable pub count_of : ℕ → ℕ
count_of s = count_below (member s) max_clients

-- the lowest client of the set s, if it has one: the bits below it are 0
abbrev pub first_of : ℕ → ℕ
first_of s = count_trailing_zeros max_clients s
