-- Wrong checkers told apart by traces of which they say something else.
-- Assumes nothing.
use Prim.Native.Nat.{ℕ}
use mathlib.Core.Path.{◌≡◌, refl}
use mathlib.Core.List.{List, [], ◌∷◌, map}
use mathlib.Core.Bool.{false}
use mathlib.Core.Option.{Option, some, none}
use Rattle.rules.specs.Setup.{Setup, setup_answer}
use Rattle.rules.specs.Rank.{outranks}
use Rattle.rules.specs.Queues.{refill, queue, pick}
use Rattle.rules.specs.Events.{invoke, run, reply, ready, invoked, ran, replied, aborted, readied}
use Rattle.rules.specs.Step.{answer_by, moved_by, next_by, step_by}
use Rattle.rules.specs.Records.{Record, event_of}
use Rattle.rules.specs.Traces.{Traced, seen_from, the_answer, the_served, the_charges, Verdict, refused, agrees}
use Rattle.rules.specs.Traces.{differs, compared, trace_verdict, traced}
use Rattle.rules.proofs.Table.{rt, be, given, tidied, due, raw, invokes, invokes_by, runs, replies, readies}

-- a record, and what the kernel says of it
abbrev pub entry : Record → ℕ → Option ℕ → List ℕ → Traced
entry r n o l = record { event = r; seen = record { answer = n; served = o; charges = l } }

pub record Telling : Type 0 where
  pub version : ℕ
  pub setup : Setup
  pub entries : List Traced
  pub wanted : Verdict

-- the four in that order
abbrev pub trace : ℕ → Setup → List Traced → Verdict → Telling
trace v u es w = record { version = v; setup = u; entries = es; wanted = w }

-- one cluster of size 1, L = 10; clients 0 and 1 real-time, client 2 best-effort
abbrev pub three : Setup
three = given (1 ∷ []) (rt 0 1 ∷ rt 0 2 ∷ be 0 0 ∷ []) 10

-- the same with W = 5
abbrev pub tidy : Setup
tidy = tidied (1 ∷ []) (rt 0 1 ∷ rt 0 2 ∷ be 0 0 ∷ []) 10 5

-- the same with other numbers past N and K
abbrev pub untrimmed : Setup
untrimmed = record {
  clusters = 1;
  clients = 1;
  cap = 10;
  tidy = 0;
  timed = false;
  size = λ (k : ℕ). 1;
  kind = λ (c : ℕ). 0;
  cluster = λ (c : ℕ). c;
  priority = λ (c : ℕ). 7;
}

-- what the rules give for two invokes, a run and a reply
abbrev pub right : List Traced
right =
    entry (invokes 1) 0 (some 1) (0 ∷ 0 ∷ 0 ∷ []) ∷
    entry (invokes 0) 0 (some 1) (0 ∷ 0 ∷ 0 ∷ []) ∷
    entry (runs 4) 0 (some 1) (4 ∷ 0 ∷ 0 ∷ []) ∷
    []

-- one cluster of size 1, L = 10 and W = 5, and three real-time clients that go by deadlines
abbrev pub timed : Setup
timed = due (1 ∷ []) (rt 0 1 ∷ rt 0 2 ∷ rt 0 3 ∷ []) 10 5

-- clients 1 and 2 wait for client 0, and then somebody is in service
abbrev pub timely : Option ℕ → List Traced
timely o =
    entry (invokes_by 0 5) 0 (some 0) (0 ∷ 0 ∷ 0 ∷ []) ∷
    entry (invokes_by 1 9) 0 (some 0) (0 ∷ 0 ∷ 0 ∷ []) ∷
    entry (invokes_by 2 0) 0 (some 0) (0 ∷ 0 ∷ 0 ∷ []) ∷
    entry (runs 4) 0 (some 0) (0 ∷ 0 ∷ 4 ∷ []) ∷
    entry replies 0 none (0 ∷ 0 ∷ 4 ∷ []) ∷
    entry readies 0 o (0 ∷ 0 ∷ 4 ∷ []) ∷
    []

unfoldable pub trace_cases : List Telling
trace_cases =
    -- WHAT IS ACCEPTED

    -- a trace without entries is refused
    trace 1 three [] agrees ∷
    -- a kernel that is right is refused; a refused record is taken for an entry that differs
    trace 1 three right agrees ∷
    trace 1 three
    (entry replies 12 none (0 ∷ 0 ∷ 0 ∷ []) ∷ entry (raw 9 1) 18 none (0 ∷ 0 ∷ 0 ∷ []) ∷
    entry (invokes 1) 0 (some 1) (0 ∷ 0 ∷ 0 ∷ []) ∷ entry (invokes 1) 11 (some 1) (0 ∷ 0 ∷ 0 ∷ []) ∷ [])
    agrees ∷
    -- a reply does not pick in version 1, or does in version 2
    trace 1 three (entry (invokes 2) 0 (some 2) (0 ∷ 0 ∷ 0 ∷ []) ∷ entry (invokes 0) 0 (some 2) (0 ∷ 0 ∷ 0 ∷ []) ∷
    entry replies 0 (some 0) (0 ∷ 0 ∷ 0 ∷ []) ∷ []) agrees ∷
    trace 2 tidy (entry (invokes 2) 0 (some 2) (0 ∷ 0 ∷ 0 ∷ []) ∷ entry (invokes 0) 0 (some 2) (0 ∷ 0 ∷ 0 ∷ []) ∷
    entry replies 0 none (0 ∷ 0 ∷ 0 ∷ []) ∷ entry (runs 5) 0 none (5 ∷ 0 ∷ 0 ∷ []) ∷
    entry readies 0 (some 0) (5 ∷ 0 ∷ 0 ∷ []) ∷ []) agrees ∷
    -- nobody has charges, and an empty list of them differs
    trace 1 (given (1 ∷ []) [] 10) (entry (invokes 0) 10 none [] ∷ []) agrees ∷
    -- a row past N is looked at
    trace 1 untrimmed (entry (invokes 0) 0 (some 0) (0 ∷ []) ∷ entry (invokes 1) 10 (some 0) (0 ∷ []) ∷ []) agrees ∷
    -- under deadlines the records or the setup are taken for those under priorities, and the other way round
    trace 3 timed (timely (some 2)) agrees ∷
    trace 3 tidy (entry (invokes_by 0 5) 18 none (0 ∷ 0 ∷ 0 ∷ []) ∷ entry (invokes 0) 0 (some 0) (0 ∷ 0 ∷ 0 ∷ []) ∷ [])
    agrees ∷
    -- a kernel that goes by priorities under deadlines, or passes over a deadline under priorities, is right
    trace 3 timed (timely (some 1)) (differs 5 the_served) ∷
    trace 3 tidy (entry (invokes_by 0 5) 0 (some 0) (0 ∷ 0 ∷ 0 ∷ []) ∷ []) (differs 0 the_answer) ∷
    -- WHICH OF THE THREE

    -- the answer alone, the client in service alone, a charge alone
    trace 1 three (entry (invokes 1) 11 (some 1) (0 ∷ 0 ∷ 0 ∷ []) ∷ []) (differs 0 the_answer) ∷
    trace 1 three (entry (invokes 1) 0 (some 0) (0 ∷ 0 ∷ 0 ∷ []) ∷ []) (differs 0 the_served) ∷
    trace 1 three (entry (invokes 1) 0 (some 1) (0 ∷ 1 ∷ 0 ∷ []) ∷ []) (differs 0 the_charges) ∷
    -- an answer or a charge that is too small agrees
    trace 1 three (entry replies 0 none (0 ∷ 0 ∷ 0 ∷ []) ∷ []) (differs 0 the_answer) ∷
    trace 1 three
    (entry (invokes 1) 0 (some 1) (0 ∷ 0 ∷ 0 ∷ []) ∷ entry (runs 4) 0 (some 1) (0 ∷ 3 ∷ 0 ∷ []) ∷ [])
    (differs 1 the_charges) ∷
    -- charges before the client in service, either before the answer
    trace 1 three (entry (invokes 1) 0 none (1 ∷ 0 ∷ 0 ∷ []) ∷ []) (differs 0 the_served) ∷
    trace 1 three (entry (invokes 1) 10 none (1 ∷ 0 ∷ 0 ∷ []) ∷ []) (differs 0 the_answer) ∷
    trace 1 three (entry (invokes 1) 10 (some 1) (1 ∷ 0 ∷ 0 ∷ []) ∷ []) (differs 0 the_answer) ∷
    -- somebody for nobody, nobody for somebody
    trace 1 three (entry replies 12 (some 0) (0 ∷ 0 ∷ 0 ∷ []) ∷ []) (differs 0 the_served) ∷
    trace 1 three (entry (invokes 0) 0 none (0 ∷ 0 ∷ 0 ∷ []) ∷ []) (differs 0 the_served) ∷
    -- only the low bytes are compared
    trace 1 three (entry (invokes 1) 256 (some 1) (0 ∷ 0 ∷ 0 ∷ []) ∷ []) (differs 0 the_answer) ∷
    trace 1 three (entry (invokes 1) 0 (some 257) (0 ∷ 0 ∷ 0 ∷ []) ∷ []) (differs 0 the_served) ∷
    trace 1 three (entry (invokes 1) 0 (some 1) (0 ∷ 0 ∷ 65536 ∷ []) ∷ []) (differs 0 the_charges) ∷
    -- a list that is too short, too long or empty
    trace 1 three (entry (invokes 1) 0 (some 1) (0 ∷ 0 ∷ []) ∷ []) (differs 0 the_charges) ∷
    trace 1 three (entry (invokes 1) 0 (some 1) (0 ∷ 0 ∷ 0 ∷ 0 ∷ []) ∷ []) (differs 0 the_charges) ∷
    trace 1 three (entry (invokes 1) 0 (some 1) [] ∷ []) (differs 0 the_charges) ∷
    trace 1 (given (1 ∷ []) [] 10) (entry (invokes 0) 10 none (0 ∷ []) ∷ []) (differs 0 the_charges) ∷
    -- WHICH ENTRY

    -- the last of those that differ, or entries counted from 1
    trace 1 three
    (entry (invokes 1) 0 (some 1) (0 ∷ 0 ∷ 0 ∷ []) ∷ entry (invokes 0) 0 (some 0) (0 ∷ 0 ∷ 0 ∷ []) ∷
    entry (runs 4) 14 (some 1) (4 ∷ 0 ∷ 0 ∷ []) ∷ [])
    (differs 1 the_served) ∷
    -- the kernel's answer is believed: it says that the invoke was refused, and goes on by that
    trace 1 three
    (entry (invokes 1) 11 none (0 ∷ 0 ∷ 0 ∷ []) ∷ entry (invokes 0) 0 (some 0) (0 ∷ 0 ∷ 0 ∷ []) ∷ [])
    (differs 0 the_answer) ∷
    -- a lost entry is noticed where the next one differs
    trace 1 three
    (entry (invokes 1) 0 (some 1) (0 ∷ 0 ∷ 0 ∷ []) ∷ entry (runs 4) 0 (some 1) (4 ∷ 0 ∷ 0 ∷ []) ∷ [])
    (differs 1 the_charges) ∷
    -- SETUPS

    -- a refused one is told by its first entry
    trace 1 (given [] [] 10) (entry (invokes 0) 0 none [] ∷ []) (refused 1) ∷
    trace 1 (given (1 ∷ []) [] 0) [] (refused 2) ∷
    trace 1 (given (9 ∷ []) [] 10) [] (refused 4) ∷
    trace 2 (given (1 ∷ []) (rt 1 0 ∷ []) 10) [] (refused 5) ∷
    -- a version that is not known
    trace 0 three right (refused 22) ∷
    trace 4 three right (refused 22) ∷
    trace 4 (given [] [] 10) [] (refused 22) ∷
    []

pub trace_cases-hold : map (λ (t : Telling). trace_verdict t.version t.setup t.entries) trace_cases
    ≡ map (λ (t : Telling). t.wanted) trace_cases
unfolding trace_cases trace_verdict compared seen_from setup_answer
    event_of answer_by next_by moved_by step_by outranks refill queue pick invoked ran replied aborted readied
trace_cases-hold = refl

-- The events of a trace's records, by deadlines and by priorities.
pub events-are : traced 3 timed (timely none)
    ≡ ready ∷ reply ∷ run 4 ∷ invoke 2 (some 0) ∷ invoke 1 (some 9) ∷ invoke 0 (some 5) ∷ []
unfolding event_of
events-are = refl

pub events-are-untimed : traced 3 three right ≡ run 4 ∷ invoke 0 none ∷ invoke 1 none ∷ []
unfolding event_of
events-are-untimed = refl
