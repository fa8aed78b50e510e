-- A gate's places read as a state of the rules, and a state of the rules shown in a gate's places.
-- Assumes nothing.
use Rattle.std.specs.Prelude.{ℕ, zero, suc, Bool, ◌&&◌, List, [], ◌∷◌, eqb, ltb, get_or}
use Rattle.rules.specs.Limits.{max_clusters, max_size, max_clients}
use Rattle.rules.specs.Setup as rules
use Rattle.rules.specs.State as rules-state
use Rattle.rules.specs.State.{State, idle, front, best, spent, tidying}
use Rattle.sets.specs.Sets.{member, set_of}
use Rattle.places.specs.Places.{pad, unpad}
use Rattle.gate.specs.declared.Client.{Client}
use Rattle.gate.specs.declared.Line.{Line}
use Rattle.gate.specs.declared.Server.{Server}
use Rattle.gate.specs.declared.Server.TheVariants.{Idle, Front, Best, Spent, Tidying}
use Rattle.gate.specs.declared.Setup.{Setup}
use Rattle.gate.specs.declared.Gate.{Gate}

-- READ

-- the setup that the bytes hold
abbrev pub setup_of : Setup → rules.Setup
setup_of v = record {
  clusters = v.clusters;
  clients = v.clients;
  cap = v.cap;
  tidy = v.tidy;
  timed = v.timed;
  size = λ (k : ℕ). get_or v.sizes k 0;
  kind = λ (c : ℕ). get_or v.kinds c 0;
  cluster = λ (c : ℕ). get_or v.homes c 0;
  priority = λ (c : ℕ). get_or v.priorities c 0;
}

abbrev pub server_of : Server → rules-state.Server
server_of Idle = idle
server_of (Front c) = front c.0
server_of (Best c) = best c.0
server_of (Spent c) = spent c.0
server_of Tidying = tidying

abbrev pub blank_line : Line
blank_line = record { places = [] }

-- The places before the first 255 are a list; a client is in the room of its own cluster if its bit is set there.
unfoldable pub state_of : Gate → State
state_of g = record {
  lines = λ (k : ℕ). unpad (get_or g.lines k blank_line).places;
  room = λ (c : ℕ). ltb c max_clients && member (get_or g.rooms (get_or g.setup.homes c 0) 0) c;
  global = unpad g.global;
  background = unpad g.background;
  server = server_of g.server;
  units = g.units;
  charge = λ (c : ℕ). get_or g.charges c 0;
  deadline = λ (c : ℕ). get_or g.deadlines c 0;
}

-- SHOWN

-- f at 0, 1, .. below n
unfoldable pub table : {A : Type 0} → ℕ → (ℕ → A) → List A
table zero f = []
table (suc n) f = f 0 ∷ table n (λ (i : ℕ). f (suc i))

abbrev pub client : ℕ → Client
client c = record { 0 = c }

abbrev pub show_server : rules-state.Server → Server
show_server idle = Idle
show_server (front c) = Front (client c)
show_server (best c) = Best (client c)
show_server (spent c) = Spent (client c)
show_server tidying = Tidying

-- eight lines of eight places
abbrev pub show_lines : (ℕ → List ℕ) → List Line
show_lines lines = table max_clusters (λ (k : ℕ). record { places = pad max_size (lines k) })

-- the room of each cluster, as a set of its clients
abbrev pub show_rooms : (ℕ → ℕ) → (ℕ → Bool) → List ℕ
show_rooms cluster room =
    table max_clusters (λ (k : ℕ). set_of max_clients (λ (c : ℕ). room c && eqb (cluster c) k))

-- The gate of a setup and a state: lists in padded form.
unfoldable pub shown : Setup → State → Gate
shown v s = record {
  setup = v;
  lines = show_lines s.lines;
  rooms = show_rooms (setup_of v).cluster s.room;
  global = pad max_clusters s.global;
  background = pad max_clients s.background;
  server = show_server s.server;
  units = s.units;
  charges = table max_clients s.charge;
  deadlines = table max_clients s.deadline;
}
