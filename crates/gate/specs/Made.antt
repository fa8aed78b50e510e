-- What the check of a setup answers, and the gate that is made of it.
-- Assumes nothing.
use Rattle.std.specs.Prelude.{ℕ, zero, suc, false, cond, List, [], ◌∷◌, eqb, Result, Ok, Err}
use Rattle.rules.specs.Limits.{max_clusters, max_clients}
use Rattle.rules.specs.Refusals.{accepted, bad_clusters, no_cap, many_clients, bad_size, bad_row}
use Rattle.rules.specs.Setup as rules
use Rattle.rules.specs.Setup.{setup_answer, first_bad_size, first_bad_row}
use Rattle.rules.specs.State.{fresh}
use Rattle.gate.specs.Shown.{setup_of, shown, table}
use Rattle.gate.specs.declared.Setup.{Setup}
use Rattle.gate.specs.declared.Gate.{Gate}
use Rattle.gate.specs.declared.Refusal.{Refusal}
use Rattle.gate.specs.declared.Refusal.TheVariants.{BadClusters, NoCap, ManyClients, BadSize, BadRow}
use Rattle.gate.specs.declared.Fresh.{Fresh}

-- VERDICTS

-- the number of refusal, and which size or row is bad; 0 where none is
pub record Told : Type 0 where
  pub number : ℕ
  pub which : ℕ

-- Each case's number and values.
abbrev pub told : Result (Unit {0}) Refusal → Told
told (Ok a) = record { number = accepted; which = 0 }
told (Err BadClusters) = record { number = bad_clusters; which = 0 }
told (Err NoCap) = record { number = no_cap; which = 0 }
told (Err ManyClients) = record { number = many_clients; which = 0 }
told (Err (BadSize k)) = record { number = bad_size; which = k }
told (Err (BadRow c)) = record { number = bad_row; which = c }

-- Refused because of a size or a row, it also tells which.
unfoldable pub verdict_of : rules.Setup → Told
verdict_of u = record {
  number = setup_answer u;
  which = cond (eqb (setup_answer u) bad_size) (first_bad_size u)
      (cond (eqb (setup_answer u) bad_row) (first_bad_row u) 0);
}

-- THE GATE

-- the list, with 0 in place of what stands from place n on
unfoldable pub zero_past : ℕ → List ℕ → List ℕ
zero_past n [] = []
zero_past zero (x ∷ l) = 0 ∷ zero_past zero l
zero_past (suc n) (x ∷ l) = x ∷ zero_past n l

-- A setup's own contents past N and K are ignored and count as zero.
unfoldable pub trimmed_in : Setup → Setup
trimmed_in v = record {
  clusters = v.clusters;
  clients = v.clients;
  cap = v.cap;
  tidy = v.tidy;
  timed = v.timed;
  sizes = zero_past v.clusters v.sizes;
  kinds = zero_past v.clients v.kinds;
  homes = zero_past v.clients v.homes;
  priorities = zero_past v.clients v.priorities;
}

-- K, N, L and W 0, priorities, and all other numbers 0
abbrev pub empty_bytes : Setup
empty_bytes = record {
  clusters = 0;
  clients = 0;
  cap = 0;
  tidy = 0;
  timed = false;
  sizes = table max_clusters (λ (k : ℕ). 0);
  kinds = table max_clients (λ (c : ℕ). 0);
  homes = table max_clients (λ (c : ℕ). 0);
  priorities = table max_clients (λ (c : ℕ). 0);
}

-- The empty gate: server idle, every place 255, all other numbers 0.
unfoldable pub empty_gate : Gate
empty_gate = shown empty_bytes fresh

-- A refused setup yields the empty gate.
unfoldable pub fresh_gate : Setup → Gate
fresh_gate v = cond (eqb (setup_answer (setup_of v)) accepted) (shown (trimmed_in v) fresh) empty_gate

-- the answer of the making of a gate
pub record Made : Type 0 where
  pub told : Told
  pub gate : Gate

abbrev pub made_of : Fresh → Made
made_of r = record { told = told r.verdict; gate = r.gate }

unfoldable pub made : Setup → Made
made v = record { told = verdict_of (setup_of v); gate = fresh_gate v }
