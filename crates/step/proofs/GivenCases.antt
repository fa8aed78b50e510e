-- Which setups the inner door's promise is about beside the one that is lent, in worked cases.
-- Assumes nothing.
use Rattle.std.proofs.Common.{ℕ, Bool, true, false, List, [], ◌∷◌, refl}
use Rattle.gate.specs.declared.Setup.{Setup}
use Rattle.step.specs.Stepped.{Given}

-- K, N, L and W, whether by deadlines; one size, one client's kind and cluster, and its priority
abbrev setup : ℕ → ℕ → ℕ → ℕ → Bool → ℕ → ℕ → ℕ → ℕ → Setup
setup k n l w t m kind home p = record {
  clusters = k;
  clients = n;
  cap = l;
  tidy = w;
  timed = t;
  sizes = m ∷ [];
  kinds = kind ∷ [];
  homes = home ∷ [];
  priorities = p ∷ [];
}

abbrev lent : Setup
lent = setup 1 1 10 20 false 2 0 0 7

-- the one that is lent, and one with another priority
same : Given lent lent
same = record {
  clusters = refl;
  clients = refl;
  cap = refl;
  tidy = refl;
  timed = refl;
  sizes = refl;
  kinds = refl;
  homes = refl;
}

other_priority : Given lent (setup 1 1 10 20 false 2 0 0 8)
other_priority = record {
  clusters = refl;
  clients = refl;
  cap = refl;
  tidy = refl;
  timed = refl;
  sizes = refl;
  kinds = refl;
  homes = refl;
}

-- none that differs in anything else
other_clusters : Given lent (setup 2 1 10 20 false 2 0 0 7) → ⊥
other_clusters g = let e = g.clusters in cc

other_clients : Given lent (setup 1 2 10 20 false 2 0 0 7) → ⊥
other_clients g = let e = g.clients in cc

other_cap : Given lent (setup 1 1 11 20 false 2 0 0 7) → ⊥
other_cap g = let e = g.cap in cc

other_tidy : Given lent (setup 1 1 10 21 false 2 0 0 7) → ⊥
other_tidy g = let e = g.tidy in cc

other_ranks : Given lent (setup 1 1 10 20 true 2 0 0 7) → ⊥
other_ranks g = let e = g.timed in cc

other_size : Given lent (setup 1 1 10 20 false 3 0 0 7) → ⊥
other_size g = let e = g.sizes in cc

other_kind : Given lent (setup 1 1 10 20 false 2 1 0 7) → ⊥
other_kind g = let e = g.kinds in cc

other_home : Given lent (setup 1 1 10 20 false 2 0 1 7) → ⊥
other_home g = let e = g.homes in cc
