-- What the gate holds, over lists without padding.
-- Assumes nothing.
use Rattle.std.specs.Prelude.{ℕ, Bool, true, false, cond, List, [], eqb}
use Rattle.rules.specs.Setup.{Setup}

-- The server: idle, or serving a front, or a best-effort client, or a spent client, or tidying up after a reply.
pub data Server : Type 0 where
  idle : Server
  front : ℕ → Server
  best : ℕ → Server
  spent : ℕ → Server
  tidying : Server

-- lines: for each cluster its line, first come, first served.
-- room: the waiting rooms. A client waits in the room of its own cluster or in none, so one set serves them all.
-- global: the global queue of fronts; background: the background queue of best-effort clients.
-- server, and with it the units served so far on that request; while it tidies, the units tidied since the reply.
-- charge: for each client its charge.
-- deadline: for each client the deadline of its wait, 0 for one that doesn't wait.
pub record State : Type 0 where
  pub lines : ℕ → List ℕ
  pub room : ℕ → Bool
  pub global : List ℕ
  pub background : List ℕ
  pub server : Server
  pub units : ℕ
  pub charge : ℕ → ℕ
  pub deadline : ℕ → ℕ

-- A fresh gate: nobody waits, the server is idle, every charge and every deadline is 0. The empty gate has this state
-- too.
abbrev pub fresh : State
fresh = record {
  lines = λ (k : ℕ). [];
  room = λ (c : ℕ). false;
  global = [];
  background = [];
  server = idle;
  units = 0;
  charge = λ (c : ℕ). 0;
  deadline = λ (c : ℕ). 0;
}

-- THE SERVER

abbrev pub is_idle : Server → Bool
is_idle idle = true
is_idle (front d) = false
is_idle (best d) = false
is_idle (spent d) = false
is_idle tidying = false

abbrev pub is_tidying : Server → Bool
is_tidying idle = false
is_tidying (front d) = false
is_tidying (best d) = false
is_tidying (spent d) = false
is_tidying tidying = true

-- some client is in service
abbrev pub is_serving : Server → Bool
is_serving idle = false
is_serving (front d) = true
is_serving (best d) = true
is_serving (spent d) = true
is_serving tidying = false

-- the cap of its units: W while it tidies, else L
abbrev pub cap_of : Setup → Server → ℕ
cap_of u v = cond (is_tidying v) u.tidy u.cap

-- c is in service
abbrev pub serves : Server → ℕ → Bool
serves idle c = false
serves (front d) c = eqb d c
serves (best d) c = eqb d c
serves (spent d) c = eqb d c
serves tidying c = false

-- c is in service as the front of its line
abbrev pub is_front : Server → ℕ → Bool
is_front idle c = false
is_front (front d) c = eqb d c
is_front (best d) c = false
is_front (spent d) c = false
is_front tidying c = false

-- c is in service as a spent client
abbrev pub is_spent : Server → ℕ → Bool
is_spent idle c = false
is_spent (front d) c = false
is_spent (best d) c = false
is_spent (spent d) c = eqb d c
is_spent tidying c = false

-- A cluster is blocked exactly while a spent client of that cluster is in service.
abbrev pub blocks : Setup → Server → ℕ → Bool
blocks u idle k = false
blocks u (front d) k = false
blocks u (best d) k = false
blocks u (spent d) k = eqb (u.cluster d) k
blocks u tidying k = false
