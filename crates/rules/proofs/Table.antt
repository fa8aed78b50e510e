-- The words that the tables of cases are written in: a setup, its records, and what the rules give for them.
-- Assumes nothing.
use Prim.Native.Nat.{ℕ}
use mathlib.Core.Bool.{Bool, true, false}
use mathlib.Core.List.{List, map, reverse}
use mathlib.Core.Option.{Option}
use lib.ListN.{length, get_or}
use Rattle.rules.specs.Refusals.{accepted}
use Rattle.rules.specs.Setup.{Setup, setup_answer}
use Rattle.rules.specs.State.{fresh}
use Rattle.rules.specs.Events.{Event}
use Rattle.rules.specs.Records.{Record, Heard, heard_of}
use Rattle.rules.specs.Replay.{Entry, charges_below, replay_from, entries_from}
use Rattle.rules.specs.History.{said}

-- SETUPS

-- the row of a client
pub record Row : Type 0 where
  pub kind : ℕ
  pub cluster : ℕ
  pub priority : ℕ

-- a real-time client: its cluster and its priority
abbrev pub rt : ℕ → ℕ → Row
rt k p = record { kind = 0; cluster = k; priority = p }

-- a best-effort client
abbrev pub be : ℕ → ℕ → Row
be k p = record { kind = 1; cluster = k; priority = p }

-- the sizes of the clusters, the rows of the clients, the length cap, the tidying cap, and whether the clients go by
-- deadlines; 0 past the end of either list
abbrev pub ranked : List ℕ → List Row → ℕ → ℕ → Bool → Setup
ranked sizes rows cap tidy timed = record {
  clusters = length sizes;
  clients = length rows;
  cap = cap;
  tidy = tidy;
  timed = timed;
  size = λ (k : ℕ). get_or sizes k 0;
  kind = λ (c : ℕ). (get_or rows c (rt 0 0)).kind;
  cluster = λ (c : ℕ). (get_or rows c (rt 0 0)).cluster;
  priority = λ (c : ℕ). (get_or rows c (rt 0 0)).priority;
}

-- real-time clients go by priorities ..
abbrev pub tidied : List ℕ → List Row → ℕ → ℕ → Setup
tidied sizes rows cap tidy = ranked sizes rows cap tidy false

-- .. or by deadlines
abbrev pub due : List ℕ → List Row → ℕ → ℕ → Setup
due sizes rows cap tidy = ranked sizes rows cap tidy true

-- a setup of document 01: there is no tidying, and no deadline
abbrev pub given : List ℕ → List Row → ℕ → Setup
given sizes rows cap = tidied sizes rows cap 0

-- RECORDS

-- a code, its argument and a deadline
abbrev pub raw_by : ℕ → ℕ → ℕ → Record
raw_by n a d = record { code = n; argument = a; deadline = d }

-- a code and its argument
abbrev pub raw : ℕ → ℕ → Record
raw n a = raw_by n a 0

abbrev pub invokes : ℕ → Record
invokes c = raw 1 c

-- an invoke with its deadline
abbrev pub invokes_by : ℕ → ℕ → Record
invokes_by c d = raw_by 1 c d

abbrev pub runs : ℕ → Record
runs n = raw 2 n

abbrev pub replies : Record
replies = raw 3 0

abbrev pub aborts : ℕ → Record
aborts c = raw 4 c

abbrev pub readies : Record
readies = raw 5 0

-- the events of these records of a log of version 1, read forwards; the latest first
abbrev pub past : Setup → List Record → List Event
past u rs = said u (map (heard_of 1 u.timed) (reverse rs))

-- .. and of a later version
abbrev pub past2 : Setup → List Record → List Event
past2 u rs = said u (map (heard_of 2 u.timed) (reverse rs))

-- CASES

-- What a fresh gate of that setup is to give for these records of a log of that version: the answer to each, the client
-- in service after each, `none` where the server is idle or tidies, and at the end the charge of each client.
pub record Case : Type 0 where
  pub version : ℕ
  pub setup : Setup
  pub records : List Record
  pub answers : List ℕ
  pub served : List (Option ℕ)
  pub charges : List ℕ

-- the six in that order
abbrev pub case_in : ℕ → Setup → List Record → List ℕ → List (Option ℕ) → List ℕ → Case
case_in v u rs ms cs ns =
    record { version = v; setup = u; records = rs; answers = ms; served = cs; charges = ns }

-- a log of version 1: a ready after each accepted reply, in the same record
abbrev pub case_of : Setup → List Record → List ℕ → List (Option ℕ) → List ℕ → Case
case_of = case_in 1

-- a log of version 2
abbrev pub case2 : Setup → List Record → List ℕ → List (Option ℕ) → List ℕ → Case
case2 = case_in 2

-- a log of version 3
abbrev pub case3 : Setup → List Record → List ℕ → List (Option ℕ) → List ℕ → Case
case3 = case_in 3

-- all that a case speaks of, the answer to its setup too
pub record Shown : Type 0 where
  pub setup : ℕ
  pub answers : List ℕ
  pub served : List (Option ℕ)
  pub charges : List ℕ

-- what its records say
abbrev pub heard_in : Case → List Heard
heard_in t = map (heard_of t.version t.setup.timed) t.records

-- what the rules give
abbrev pub got : Case → Shown
got t = record {
  setup = setup_answer t.setup;
  answers = map (λ (e : Entry). e.answer) (entries_from t.setup fresh (heard_in t));
  served = map (λ (e : Entry). e.served) (entries_from t.setup fresh (heard_in t));
  charges = charges_below (replay_from t.setup fresh (heard_in t)).charge t.setup.clients;
}

-- what the case says; its setup is to be accepted
abbrev pub wanted : Case → Shown
wanted t = record { setup = accepted; answers = t.answers; served = t.served; charges = t.charges }
