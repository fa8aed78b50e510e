-- Wrong readings of which charges and which deadlines are sound, told apart: each clause from both sides.
-- Assumes nothing.
use Prim.Native.Nat.{ℕ}
use mathlib.Core.Path.{refl}
use mathlib.Core.Bool.{Bool, true, false, cond}
use mathlib.Core.List.{[], ◌∷◌}
use native.Mathlib.Omega.{arith}
use lib.Dec.{eqb}
use Rattle.rules.specs.Setup.{Setup}
use Rattle.rules.specs.State.{State, Server, front, spent}
use Rattle.rules.specs.Sound.{ChargeSound, DeadlineSound, Sound}
use Rattle.rules.proofs.Tests.{clash}
use Rattle.rules.proofs.Table.{rt, be, given, ranked}

-- CHARGES

-- one real-time and one best-effort client
abbrev pub pair : Setup
pair = given (1 ∷ []) (rt 0 1 ∷ be 0 1 ∷ []) 10

-- a real-time client may have been charged up to the limit ..
pub charge-at-limit : ChargeSound pair 33554431 0
charge-at-limit = record { effort = λ e. clash refl e; past = λ e. absurd (omega arith); limit = omega arith }

-- .. and no further
pub charge-past-limit : ChargeSound pair 33554432 0 → ⊥
charge-past-limit h = omega (arith, h.limit)

-- a best-effort client is not charged
pub effort-uncharged : ChargeSound pair 0 1
effort-uncharged = record { effort = λ e. refl; past = λ e. refl; limit = omega arith }

pub effort-charged : ChargeSound pair 1 1 → ⊥
effort-charged h = omega (arith, h.effort refl)

-- past N nothing is charged
pub past-uncharged : ChargeSound pair 0 2
past-uncharged = record { effort = λ e. refl; past = λ e. refl; limit = omega arith }

pub past-charged : ChargeSound pair 1 2 → ⊥
past-charged h = omega (arith, h.past (omega arith))

-- DEADLINES

-- three real-time clients of a cluster of size 1 and a best-effort one, by deadlines or by priorities
abbrev pub four : Bool → Setup
four timed = ranked (1 ∷ []) (rt 0 1 ∷ rt 0 1 ∷ rt 0 1 ∷ be 0 1 ∷ []) 10 5 timed

-- whoever is in service, client 0 in the line, client 1 in the room; client c has the deadline n, and nobody else one
abbrev pub held : Server → ℕ → ℕ → State
held v n c = record {
  lines = λ (k : ℕ). cond (eqb k 0) (0 ∷ []) [];
  room = λ (d : ℕ). eqb d 1;
  global = [];
  background = [];
  server = v;
  units = 0;
  charge = λ (d : ℕ). 0;
  deadline = λ (d : ℕ). cond (eqb d c) n 0;
}

-- who waits, in service, in line or in the room, may have any of 32 bits ..
pub served-dated : DeadlineSound (four true) (held (front 0) 4294967295 0) 0
served-dated = record { bits = omega arith; away = λ e. clash refl e; untimed = λ e. clash refl e }

pub line-dated : DeadlineSound (four true) (held (spent 2) 4294967295 0) 0
line-dated = record { bits = omega arith; away = λ e. clash refl e; untimed = λ e. clash refl e }

pub room-dated : DeadlineSound (four true) (held (front 0) 4294967295 1) 1
room-dated = record { bits = omega arith; away = λ e. clash refl e; untimed = λ e. clash refl e }

-- .. 0 among them ..
pub dated-nought : DeadlineSound (four true) (held (front 0) 0 0) 0
dated-nought = record { bits = omega arith; away = λ e. clash refl e; untimed = λ e. clash refl e }

-- .. and no more
pub dated-past-limit : DeadlineSound (four true) (held (front 0) 4294967296 0) 0 → ⊥
dated-past-limit h = omega (arith, h.bits)

-- who doesn't wait has none ..
pub away-undated : DeadlineSound (four true) (held (front 0) 0 2) 2
away-undated = record { bits = omega arith; away = λ e. refl; untimed = λ e. refl }

pub away-dated : DeadlineSound (four true) (held (front 0) 1 2) 2 → ⊥
away-dated h = omega (arith, h.away refl)

-- .. nor has a spent client
pub spent-dated : DeadlineSound (four true) (held (spent 2) 1 2) 2 → ⊥
spent-dated h = omega (arith, h.away refl)

-- under priorities nobody has
pub untimed-undated : DeadlineSound (four false) (held (front 0) 0 0) 0
untimed-undated = record { bits = omega arith; away = λ e. clash refl e; untimed = λ e. refl }

pub untimed-dated : DeadlineSound (four false) (held (front 0) 1 0) 0 → ⊥
untimed-dated h = omega (arith, h.untimed refl)

-- a sound state has none of a best-effort client, or past N
pub effort-dated : Sound (four true) (held (front 0) 1 3) → ⊥
effort-dated h = omega (arith, (h.deadline 3).away refl)

pub past-dated : Sound (four true) (held (front 0) 1 4) → ⊥
past-dated h = omega (arith, (h.deadline 4).away refl)
