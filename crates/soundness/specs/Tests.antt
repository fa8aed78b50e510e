-- What the clauses of soundness are written in, beside the tests on lists that stand with the places.
-- Assumes nothing.
use Rattle.std.specs.Prelude.{ℕ, zero, suc, Bool, true, not, ◌||◌, List, [], ◌∷◌, ◌++◌}
use Rattle.rules.specs.Limits.{max_clients}
use Rattle.rules.specs.Lists.{has}
use Rattle.sets.specs.Sets.{member, set_of}

-- the n lists from the k-th on, one after the other
unfoldable pub joined : (ℕ → List ℕ) → ℕ → ℕ → List ℕ
joined f k zero = []
joined f k (suc n) = f k ++ joined f (suc k) n

-- the set of the clients in the list
unfoldable pub set_in : List ℕ → ℕ
set_in l = set_of max_clients (λ (c : ℕ). has c l)

-- the first of the list, if there is one that passes the test, is in the set
unfoldable pub first_in : (ℕ → Bool) → ℕ → List ℕ → Bool
first_in p set [] = true
first_in p set (x ∷ l) = not (p x) || member set x
