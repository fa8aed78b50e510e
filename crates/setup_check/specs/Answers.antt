-- A setup's clients as sets: what the functions of this crate answer.
-- Assumes nothing.
use Rattle.std.specs.Prelude.{ℕ, Bool, not, ◌&&◌, List, eqb, ltb, get_or, drop}
use Rattle.rules.specs.Limits.{max_clients}
use Rattle.sets.specs.Sets.{set_of}
use Rattle.gate.specs.Shown.{show_rooms}
use Rattle.places.specs.Tests.{zeros}
use Rattle.setup_check.specs.declared.Clients.{Clients}

-- sizes past K and rows past N are zero
abbrev pub trimmed : List ℕ → List ℕ → List ℕ → List ℕ → ℕ → ℕ → Bool
trimmed sizes kinds homes priorities k n =
    zeros (drop k sizes)
    && (zeros (drop n kinds) && (zeros (drop n homes) && zeros (drop n priorities)))

-- CLIENTS

-- below n, and real-time or best-effort
module _ (kinds : List ℕ) (n c : ℕ) where
  abbrev pub real_below : Bool
  real_below = ltb c n && eqb (get_or kinds c 0) 0

  abbrev pub effort_below : Bool
  effort_below = ltb c n && not (eqb (get_or kinds c 0) 0)

abbrev pub sets_of : List ℕ → List ℕ → ℕ → Clients
sets_of kinds homes n = record {
  own = show_rooms (λ (c : ℕ). get_or homes c 0) (real_below kinds n);
  real = set_of max_clients (real_below kinds n);
  effort = set_of max_clients (effort_below kinds n);
}
