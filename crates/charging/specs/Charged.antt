-- Who waits and what a charge becomes, over places, sets and charges.
-- Assumes nothing.
use Rattle.std.specs.Prelude.{ℕ, ◌+◌, Bool, ◌&&◌, ◌||◌, cond, List, ltb, get_or, length}
use Rattle.rules.specs.Limits.{max_clients, max_charge}
use Rattle.rules.specs.Lists.{has}
use Rattle.sets.specs.Sets.{member, set_of}
use Rattle.places.specs.Places.{unpad}
use Rattle.gate.specs.Shown.{table}

-- those in the used places of a line, and those in a room
abbrev pub waiting_in : List ℕ → ℕ → ℕ
waiting_in q room = set_of max_clients (λ (c : ℕ). has c (unpad q) || member room c)

-- c is in the set, and n units more would carry its charge past the limit
abbrev pub overcharges_in : List ℕ → ℕ → ℕ → ℕ → Bool
overcharges_in charges s n c = member s c && ltb max_charge (get_or charges c 0 + n)

-- the charges, with n units more for each client in the set
abbrev pub grown : List ℕ → ℕ → ℕ → List ℕ
grown charges s n = table (length charges) (λ (c : ℕ). get_or charges c 0 + cond (member s c) n 0)
