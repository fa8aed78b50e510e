-- Demand 3: how much of a client's budget others can burn while it waits.
-- Assumes nothing.
use Rattle.std.specs.Prelude.{ℕ, ◌+◌, ◌*◌, ◌≤◌, ◌≡◌, true, false, List}
use Rattle.rules.specs.Setup.{Setup, real_time, service, span}
use Rattle.rules.specs.Events.{Event}
use Rattle.rules.specs.Step.{Ranks, own_ranks}
use Rattle.rules.specs.History.{owed, owed_by, struck, struck_in_room, struck_in_room_by}

-- THE FIGURES

-- (2 + 2mK)S, with S for L + W
abbrev pub worst : ℕ → ℕ → ℕ → ℕ
worst m K S = (2 + 2 * (m * K)) * S

-- (1 + 2mK)S
abbrev pub worst_unstruck : ℕ → ℕ → ℕ → ℕ
worst_unstruck m K S = (1 + 2 * (m * K)) * S

-- What is reached is less where W is over 0. A tidying counts with the service after it, and two services count without
-- one: the one that runs when the wait begins, and that of its own cluster's aborted request. 2L + 2mKS ..
abbrev pub reach : ℕ → ℕ → ℕ → ℕ → ℕ
reach m K L S = 2 * L + 2 * (m * (K * S))

-- .. and L + 2mKS
abbrev pub reach_unstruck : ℕ → ℕ → ℕ → ℕ → ℕ
reach_unstruck m K L S = L + 2 * (m * (K * S))

-- WHAT IS PROVED OF THEM

-- After any events, refused ones among them, a real-time client's charge for its latest wait is at most 2L + 2mKS; m is
-- the size of its own cluster. Clients may rank in any way ..
abbrev pub BoundedBy : Setup → Ranks → Type 0
BoundedBy u ranks = (h : List Event) (c : ℕ) → real_time u c ≡ true
    → owed_by u ranks c h ≤ reach (u.size (u.cluster c)) u.clusters (service u) (span u)

-- .. or as the gate has it: by priorities or by deadlines.
abbrev pub Bounded : Setup → Type 0
Bounded u = BoundedBy u (own_ranks u)

-- Without an accepted abort of its own cluster's request in service while it was in the waiting room, at most
-- L + 2mKS ..
abbrev pub BoundedUnstruckInRoomBy : Setup → Ranks → Type 0
BoundedUnstruckInRoomBy u ranks = (h : List Event) (c : ℕ) → real_time u c ≡ true
    → struck_in_room_by u ranks c h ≡ false
    → owed_by u ranks c h ≤ reach_unstruck (u.size (u.cluster c)) u.clusters (service u) (span u)

abbrev pub BoundedUnstruckInRoom : Setup → Type 0
BoundedUnstruckInRoom u = BoundedUnstruckInRoomBy u (own_ranks u)

-- .. and so without one during that wait at all.
abbrev pub BoundedUnstruck : Setup → Type 0
BoundedUnstruck u = (h : List Event) (c : ℕ) → real_time u c ≡ true → struck u c h ≡ false
    → owed u c h ≤ reach_unstruck (u.size (u.cluster c)) u.clusters (service u) (span u)

-- The figures that are asked for, and that the quote reads, follow: at most (2 + 2mK)S ..
abbrev pub BoundedAsAsked : Setup → Type 0
BoundedAsAsked u = (h : List Event) (c : ℕ) → real_time u c ≡ true
    → owed u c h ≤ worst (u.size (u.cluster c)) u.clusters (span u)

-- .. and (1 + 2mK)S without such an abort.
abbrev pub BoundedUnstruckAsAsked : Setup → Type 0
BoundedUnstruckAsAsked u = (h : List Event) (c : ℕ) → real_time u c ≡ true → struck u c h ≡ false
    → owed u c h ≤ worst_unstruck (u.size (u.cluster c)) u.clusters (span u)

-- ALL OF IT OF ONE CHARGE

-- n, as a client's charge after a history, is the sum over its events and within every figure.
pub record Within (u : Setup) (h : List Event) (c n : ℕ) : Type 0 where
  pub is_sum : n ≡ owed u c h
  pub at_most : n ≤ reach (u.size (u.cluster c)) u.clusters (service u) (span u)
  pub unless_in_room : struck_in_room u c h ≡ false
      → n ≤ reach_unstruck (u.size (u.cluster c)) u.clusters (service u) (span u)
  pub unless_struck : struck u c h ≡ false
      → n ≤ reach_unstruck (u.size (u.cluster c)) u.clusters (service u) (span u)
  pub as_asked : n ≤ worst (u.size (u.cluster c)) u.clusters (span u)
  pub unless_struck_as_asked : struck u c h ≡ false
      → n ≤ worst_unstruck (u.size (u.cluster c)) u.clusters (span u)
