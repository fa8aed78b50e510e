-- The clauses of the charges and of the deadlines, with clients in sets: what functions of this crate answer.
-- Assumes nothing.
use Rattle.std.specs.Prelude.{ℕ, Bool, ◌&&◌, ◌||◌, List, eqb, leb, length, get_or}
use Rattle.rules.specs.Limits.{max_clients, max_charge, max_deadline}
use Rattle.sets.specs.Sets.{member}
use Rattle.places.specs.Tests.{all_below}

abbrev pub charge_fits : ℕ → ℕ → ℕ → Bool
charge_fits real c n = leb n max_charge && (member real c || eqb n 0)

unfoldable pub charges_fit : ℕ → List ℕ → Bool
charges_fit real q = eqb (length q) max_clients && all_below max_clients (λ (c : ℕ). charge_fits real c (get_or q c 0))

-- by the waiting rooms and the set of those seen in a line
module _ (homes rooms : List ℕ) (timed : Bool) (seen : ℕ) where
  abbrev pub deadline_fits : ℕ → ℕ → Bool
  deadline_fits c n =
      leb n max_deadline
      && (eqb n 0 || (timed && (member seen c || member (get_or rooms (get_or homes c 0) 0) c)))

  unfoldable pub deadlines_fit : List ℕ → Bool
  deadlines_fit q = eqb (length q) max_clients && all_below max_clients (λ (c : ℕ). deadline_fits c (get_or q c 0))
