-- The cases at the edges that document 01 marks P, as one table under one statement; and what its log shows.
-- Assumes nothing.
use Prim.Native.Nat.{ℕ}
use mathlib.Core.Path.{◌≡◌, refl}
use mathlib.Core.Bool.{cond, false, true}
use mathlib.Core.List.{List, [], ◌∷◌, map}
use mathlib.Core.Option.{some, none}
use native.Mathlib.Omega.{arith}
use lib.Dec.{eqb}
use lib.IntN.{ℤ, pos, neg_ℤ}
use Rattle.rules.specs.Setup.{Setup, setup_answer, span, Accepted}
use Rattle.rules.specs.State.{State, front}
use Rattle.rules.specs.Rank.{outranks}
use Rattle.rules.specs.Queues.{refill, queue, pick}
use Rattle.rules.specs.Events.{run, invoked, ran, replied, aborted, readied}
use Rattle.rules.specs.Step.{answer_by, moved_by, next_by, step_by, answer}
use Rattle.rules.specs.Records.{Record, event_of}
use Rattle.rules.specs.Replay.{replay_from, entries_from}
use Rattle.rules.specs.History.{owed, struck}
use Rattle.rules.specs.Demands.{worst, worst_unstruck}
use Rattle.rules.specs.Quote.{Order, order_of, Quote, quote}
use Rattle.rules.proofs.Table.{rt, be, given, invokes, runs, replies, aborts, past}
use Rattle.rules.proofs.Table.{Case, case_of, Shown, got, wanted}

-- WHAT A CASE ASKS

-- a fresh gate and records, or an order and its quote
pub data Edge : Type 0 where
  gate : Case → Edge
  order : Order → Quote → Edge

pub data Outcome : Type 0 where
  shown : Shown → Outcome
  quoted : Quote → Outcome

abbrev pub got_at : Edge → Outcome
got_at (gate t) = shown (got t)
got_at (order o q) = quoted (quote o)

abbrev pub wanted_at : Edge → Outcome
wanted_at (gate t) = shown (wanted t)
wanted_at (order o q) = quoted q

-- own work e, period p, m and K, and one server line of calls N and cap L, with W = 0
abbrev pub one_line : ℕ → ℕ → ℕ → ℕ → ℕ → ℤ → Order
one_line e p m K n l = order_of (pos e) (pos p) (pos m) (pos K) (pos n ∷ []) (l ∷ []) (pos 0 ∷ [])

-- THE LOG

-- K = 1, m = 1, L = 10; clients 0, 1, 2 real-time with priorities 1, 2, 3; client 3 best-effort with cluster 0 and
-- priority 0.
abbrev pub log_setup : Setup
log_setup = given (1 ∷ []) (rt 0 1 ∷ rt 0 2 ∷ rt 0 3 ∷ be 0 0 ∷ []) 10

abbrev pub log_records : List Record
log_records =
    invokes 3 ∷ invokes 2 ∷ invokes 1 ∷ runs 10 ∷ replies ∷ runs 10 ∷ invokes 0 ∷ replies ∷ aborts 0 ∷ runs 10 ∷
    replies ∷ runs 10 ∷ replies ∷ []

-- THE TABLE

unfoldable pub cases : List Edge
cases =
    -- the log
    gate (case_of log_setup log_records
    (0 ∷ 0 ∷ 0 ∷ 0 ∷ 0 ∷ 0 ∷ 0 ∷ 0 ∷ 0 ∷ 0 ∷ 0 ∷ 0 ∷ 0 ∷ [])
    (some 3 ∷ some 3 ∷ some 3 ∷ some 3 ∷ some 2 ∷ some 2 ∷ some 2 ∷ some 0 ∷ some 0 ∷ some 0 ∷
    some 1 ∷ some 1 ∷ none ∷ [])
    (0 ∷ 40 ∷ 0 ∷ 0 ∷ [])) ∷
    -- on a fresh gate, reply gives 12, run 0 gives 13, run 1 gives 12
    gate (case_of log_setup (replies ∷ runs 0 ∷ runs 1 ∷ [])
    (12 ∷ 13 ∷ 12 ∷ []) (none ∷ none ∷ none ∷ []) (0 ∷ 0 ∷ 0 ∷ 0 ∷ [])) ∷
    -- N = 0, invoke 0 gives 10
    gate (case_of (given (1 ∷ []) [] 10) (invokes 0 ∷ []) (10 ∷ []) (none ∷ []) []) ∷
    -- L = 10, served 10, run 1 gives 14
    gate (case_of log_setup (invokes 0 ∷ runs 10 ∷ runs 1 ∷ [])
    (0 ∷ 0 ∷ 14 ∷ []) (some 0 ∷ some 0 ∷ some 0 ∷ []) (10 ∷ 0 ∷ 0 ∷ 0 ∷ [])) ∷
    -- served 9, run 1 is accepted
    gate (case_of log_setup (invokes 0 ∷ runs 9 ∷ runs 1 ∷ [])
    (0 ∷ 0 ∷ 0 ∷ []) (some 0 ∷ some 0 ∷ some 0 ∷ []) (10 ∷ 0 ∷ 0 ∷ 0 ∷ [])) ∷
    -- a reply at 0 units served is accepted
    gate (case_of log_setup (invokes 0 ∷ replies ∷ [])
    (0 ∷ 0 ∷ []) (some 0 ∷ none ∷ []) (0 ∷ 0 ∷ 0 ∷ 0 ∷ [])) ∷
    -- abort of a spent client gives 17; its invoke gives 11; after the reply its invoke is accepted
    gate (case_of log_setup (invokes 0 ∷ aborts 0 ∷ aborts 0 ∷ invokes 0 ∷ replies ∷ invokes 0 ∷ [])
    (0 ∷ 0 ∷ 17 ∷ 11 ∷ 0 ∷ 0 ∷ []) (some 0 ∷ some 0 ∷ some 0 ∷ some 0 ∷ none ∷ some 0 ∷ []) (0 ∷ 0 ∷ 0 ∷ 0 ∷ [])) ∷
    -- quote e 100, p 140, m 1, K 1, one line N 1, L 10 gives 140
    order (one_line 100 140 1 1 1 (pos 10)) (record { budget = 140; answer = 0; place = 0 }) ∷
    -- p 139 gives 31
    order (one_line 100 139 1 1 1 (pos 10)) (record { budget = 0; answer = 31; place = 0 }) ∷
    -- L of -40 gives 30 at place 5
    order (one_line 100 140 1 1 1 (neg_ℤ (pos 40))) (record { budget = 0; answer = 30; place = 5 }) ∷
    -- e 20, m 2, K 4, N 3, L 5 gives 290 for p 290
    order (one_line 20 290 2 4 3 (pos 5)) (record { budget = 290; answer = 0; place = 0 }) ∷
    []

pub cases-hold : map got_at cases ≡ map wanted_at cases
unfolding cases setup_answer quote entries_from replay_from event_of answer_by next_by moved_by step_by
    outranks refill queue pick invoked ran replied aborted readied
cases-hold = refl

-- WHAT THE LOG SHOWS

-- The log's setup is accepted, so what is proved of accepted setups is not empty.
pub log-accepted : Accepted log_setup
unfolding setup_answer
log-accepted = record { no_refusal = refl; sixteen_bits = omega arith; tidy_bits = omega arith }

-- By the sum over the history, client 1 is charged 40, which equals (2 + 2)10 ..
pub owed-log : owed log_setup 1 (past log_setup log_records) ≡ 40
unfolding event_of answer_by next_by moved_by step_by outranks refill queue pick invoked ran replied aborted readied
owed-log = refl

pub worst-log : worst (log_setup.size 0) log_setup.clusters (span log_setup) ≡ 40
worst-log = refl

-- .. while (1 + 2)10 would be 30 ..
pub worst_unstruck-log : worst_unstruck (log_setup.size 0) log_setup.clusters (span log_setup) ≡ 30
worst_unstruck-log = refl

-- .. and an abort did hit the request of its cluster in service while it waited.
pub struck-log : struck log_setup 1 (past log_setup log_records) ≡ true
unfolding event_of answer_by next_by moved_by step_by outranks refill queue pick invoked ran replied aborted readied
struck-log = refl

-- WITHOUT AN ABORT

-- The same as far as it goes, but nobody is aborted: client 1 waits for the best-effort client, for client 2, and is
-- served itself.
abbrev pub quiet_records : List Record
quiet_records = invokes 3 ∷ invokes 2 ∷ invokes 1 ∷ runs 10 ∷ replies ∷ runs 10 ∷ replies ∷ runs 10 ∷ []

pub struck-quiet : struck log_setup 1 (past log_setup quiet_records) ≡ false
unfolding event_of answer_by next_by moved_by step_by outranks refill queue pick invoked ran replied aborted readied
struck-quiet = refl

-- Its charge is 30, so that the smaller bound is reached too.
pub owed-quiet : owed log_setup 1 (past log_setup quiet_records) ≡ 30
unfolding event_of answer_by next_by moved_by step_by outranks refill queue pick invoked ran replied aborted readied
owed-quiet = refl

-- AT THE CHARGE LIMIT

-- No log comes to such a state (Theorems, nineteen-never), so it is written out: client 0 is in service, with a charge
-- one below the limit.
abbrev pub near_limit : State
near_limit = record {
  lines = λ (k : ℕ). cond (eqb k 0) (0 ∷ []) [];
  room = λ (c : ℕ). false;
  global = [];
  background = [];
  server = front 0;
  units = 0;
  charge = λ (c : ℕ). cond (eqb c 0) 33554430 0;
  deadline = λ (c : ℕ). 0;
}

pub at-limit : answer log_setup near_limit (run 1) ≡ 0
unfolding answer_by outranks
at-limit = refl

-- one unit more is 19
pub past-limit : answer log_setup near_limit (run 2) ≡ 19
unfolding answer_by outranks
past-limit = refl
