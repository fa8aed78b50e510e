-- When a gate shows a state of the rules: the one relation between the code and the rules, a part at a time.
-- Assumes nothing.
use Rattle.std.specs.Prelude.{ℕ, ◌≤◌, ◌<◌, ◌≡◌, true, false, List, [], length, get_or}
use Rattle.rules.specs.Limits.{max_clusters, max_size, max_clients}
use Rattle.rules.specs.Lists.{has}
use Rattle.rules.specs.Setup as rules-setup
use Rattle.rules.specs.State as rules
use Rattle.rules.specs.Rank.{level}
use Rattle.rules.specs.State.{State, idle, front, best, spent, tidying}
use Rattle.places.specs.Places.{pad}
use Rattle.gate.specs.declared.Line.{Line}
use Rattle.parts.specs.declared.Service.{Service}
use Rattle.gate.specs.declared.Setup.{Setup}
use Rattle.parts.specs.declared.Queues.{Queues}
use Rattle.gate.specs.declared.Gate.{Gate}
use Rattle.parts.specs.Parts.{queues_of}
use Rattle.gate.specs.Shown.{setup_of, server_of, show_lines, show_rooms, table}

-- THE TABLE

-- a column of clusters: a row for each client, and each cluster there has a line
pub record Homes (homes : List ℕ) : Type 0 where
  pub rows : length homes ≡ max_clients
  pub low : (c : ℕ) → get_or homes c 0 < max_clusters

-- what the code asks of a setup, so that every index is in its range
pub record Fine (v : Setup) : Type 0 where
  pub clients : v.clients ≤ max_clients
  pub sizes : (k : ℕ) → (setup_of v).size k ≤ max_size
  pub homes : (c : ℕ) → (setup_of v).cluster c < max_clusters

-- the keys ks are what each client's rank goes by in the state s: the deadline of its wait, or its priority
pub record ShowsKeys (v : Setup) (s : State) (ks : List ℕ) : Type 0 where
  pub size : length ks ≡ max_clients
  pub key : (c : ℕ) → get_or ks c 0 ≡ level (setup_of v) s c

-- what a refill reads is v's and the state's, and whoever is in a waiting room is a client
pub record Refills (v : Setup) (s : State) (ms ks : List ℕ) : Type 0 where
  pub sizes : ms ≡ v.sizes
  pub keys : ShowsKeys v s ks
  pub known : (c : ℕ) → s.room c ≡ true → c < v.clients

-- THE QUEUES

-- a list of clients that n places can hold
pub record Fits (n : ℕ) (l : List ℕ) : Type 0 where
  pub short : length l ≤ n
  pub used : (x : ℕ) → has x l ≡ true → x < max_clients

-- the n places q show the list l
pub record ShowsList (n : ℕ) (l q : List ℕ) : Type 0 where
  pub places : q ≡ pad n l
  pub fits : Fits n l

pub record ShowsLines (lines : ℕ → List ℕ) (ls : List Line) : Type 0 where
  pub places : ls ≡ show_lines lines
  pub fits : (k : ℕ) → Fits max_size (lines k)

-- the one in service is a client
abbrev pub ServerFits : rules.Server → Type 0
ServerFits idle = Unit {0}
ServerFits (front c) = c < max_clients
ServerFits (best c) = c < max_clients
ServerFits (spent c) = c < max_clients
ServerFits tidying = Unit {0}

pub record ShowsService (x : rules.Server) (n : ℕ) (y : Service) : Type 0 where
  pub server : server_of y.server ≡ x
  pub units : y.units ≡ n
  pub fits : ServerFits x

-- the queues q, of clients in the clusters of v, show who waits and who is in service in the state s
pub record ShowsQueues (v : Setup) (s : State) (q : Queues) : Type 0 where
  pub lines : ShowsLines s.lines q.lines
  pub rooms : q.rooms ≡ show_rooms (setup_of v).cluster s.room
  pub global : ShowsList max_clusters s.global q.global
  pub background : ShowsList max_clients s.background q.background
  pub service : ShowsService s.server s.units q.service

-- THE WHOLE GATE

-- the gate g, of setup v, shows the state s
pub record Shows (v : Setup) (s : State) (g : Gate) : Type 0 where
  pub fine : Fine v
  pub setup : g.setup ≡ v
  pub queues : ShowsQueues v s (queues_of g)
  pub charges : g.charges ≡ table max_clients s.charge
  pub deadlines : g.deadlines ≡ table max_clients s.deadline

-- nothing lies past the places
pub record Within (s : State) : Type 0 where
  pub lines : (k : ℕ) → max_clusters ≤ k → s.lines k ≡ []
  pub room : (c : ℕ) → max_clients ≤ c → s.room c ≡ false
  pub charge : (c : ℕ) → max_clients ≤ c → s.charge c ≡ 0
  pub deadline : (c : ℕ) → max_clients ≤ c → s.deadline c ≡ 0

-- WHAT A FUNCTION ON PARTS PROMISES

-- Whatever state the queues q show, of a setup of which p holds, the queues r show what f makes of it.
abbrev pub Leaves : (Setup → State → Type 0) → (rules-setup.Setup → State → State) → Queues → Queues → Type 0
Leaves p f q r =
    (v : Setup) (s : State) → Fine v → p v s → ShowsQueues v s q → ShowsQueues v (f (setup_of v) s) r
