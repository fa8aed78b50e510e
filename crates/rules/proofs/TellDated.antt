-- Wrong gates told apart by the deadlines that they hold, and by the form of an invoke that they ask for.
-- Assumes nothing.
use Prim.Native.Nat.{ℕ, ◌+◌}
use mathlib.Core.Path.{◌≡◌, refl}
use mathlib.Core.Bool.{Bool, true, false, cond}
use mathlib.Core.List.{List, [], ◌∷◌, ◌++◌, map}
use mathlib.Core.Option.{Option, some, none}
use lib.Dec.{eqb}
use Rattle.rules.specs.Setup.{Setup}
use Rattle.rules.specs.State.{State, Server, idle, front, best, spent, tidying, fresh}
use Rattle.rules.specs.Changes.{with_room, with_server, with_deadline}
use Rattle.rules.specs.Rank.{outranks}
use Rattle.rules.specs.Queues.{refill, queue, pick}
use Rattle.rules.specs.Events.{Event, invoke, run, reply, abort, ready, invoked, ran, replied, aborted, readied}
use Rattle.rules.specs.Step.{answer_by, moved_by, next_by, step_by, answer, deadlines}
use Rattle.rules.specs.Records.{Record, heard_of, step_of, event_of}
use Rattle.rules.specs.Replay.{charges_below}
use Rattle.rules.proofs.Table.{rt, be, ranked, tidied, due, invokes, invokes_by, runs, replies, aborts, readies}

-- WHAT IS HELD AFTER RECORDS

-- the deadlines of all clients after each record of a log of version 3
abbrev pub held_from : Setup → State → List Record → List (List ℕ)
held_from u s [] = []
held_from u s (r ∷ rs) =
    let t = step_of u s (heard_of 3 u.timed r) in charges_below t.deadline u.clients ∷ held_from u t rs

pub record Telling : Type 0 where
  pub setup : Setup
  pub records : List Record
  pub wanted : List (List ℕ)

abbrev pub holds : Setup → List Record → List (List ℕ) → Telling
holds u rs ns = record { setup = u; records = rs; wanted = ns }

-- Each stands under the wrong gates that it tells from the right one.
unfoldable pub held_cases : List Telling
held_cases =
    -- one of a wait in the line, in service or in the room isn't held, or an event between changes it
    -- the reply, or the abort in the room or in service, leaves the client's own, or takes that of another
    -- the invoke adds to the one before, or keeps the smaller
    holds (due (1 ∷ []) (rt 0 0 ∷ rt 0 0 ∷ rt 0 0 ∷ []) 10 5)
    (invokes_by 0 7 ∷ invokes_by 1 9 ∷ invokes_by 2 8 ∷ runs 1 ∷ invokes_by 1 3 ∷ replies ∷ runs 1 ∷ invokes_by 0 6 ∷
    readies ∷ aborts 1 ∷ invokes_by 1 4 ∷ aborts 2 ∷ runs 1 ∷ replies ∷ invokes_by 2 4294967295 ∷ readies ∷ replies ∷ [])
    ((7 ∷ 0 ∷ 0 ∷ []) ∷ (7 ∷ 9 ∷ 0 ∷ []) ∷ (7 ∷ 9 ∷ 8 ∷ []) ∷ (7 ∷ 9 ∷ 8 ∷ []) ∷ (7 ∷ 9 ∷ 8 ∷ []) ∷
    (0 ∷ 9 ∷ 8 ∷ []) ∷ (0 ∷ 9 ∷ 8 ∷ []) ∷ (6 ∷ 9 ∷ 8 ∷ []) ∷
    (6 ∷ 9 ∷ 8 ∷ []) ∷ (6 ∷ 0 ∷ 8 ∷ []) ∷ (6 ∷ 4 ∷ 8 ∷ []) ∷ (6 ∷ 4 ∷ 0 ∷ []) ∷ (6 ∷ 4 ∷ 0 ∷ []) ∷ (6 ∷ 4 ∷ 0 ∷ []) ∷
    (6 ∷ 4 ∷ 4294967295 ∷ []) ∷ (6 ∷ 4 ∷ 4294967295 ∷ []) ∷ (6 ∷ 0 ∷ 4294967295 ∷ []) ∷ []) ∷
    -- the abort of a front in the global queue, or of one behind it, leaves the client's own
    holds (due (2 ∷ 1 ∷ []) (rt 0 0 ∷ rt 0 0 ∷ rt 1 0 ∷ []) 10 5)
    (invokes_by 2 1 ∷ invokes_by 0 2 ∷ invokes_by 1 3 ∷ aborts 1 ∷ invokes_by 1 4 ∷ aborts 0 ∷ [])
    ((0 ∷ 0 ∷ 1 ∷ []) ∷ (2 ∷ 0 ∷ 1 ∷ []) ∷ (2 ∷ 3 ∷ 1 ∷ []) ∷ (2 ∷ 0 ∷ 1 ∷ []) ∷ (2 ∷ 4 ∷ 1 ∷ []) ∷ (0 ∷ 4 ∷ 1 ∷ []) ∷
    []) ∷
    -- a best-effort client's is held, in service or in its queue, or its reply takes that of another
    holds (due (1 ∷ []) (be 0 0 ∷ rt 0 0 ∷ be 0 0 ∷ []) 10 5)
    (invokes_by 0 5 ∷ invokes_by 1 6 ∷ invokes_by 2 7 ∷ replies ∷ readies ∷ replies ∷ readies ∷ [])
    ((0 ∷ 0 ∷ 0 ∷ []) ∷ (0 ∷ 6 ∷ 0 ∷ []) ∷ (0 ∷ 6 ∷ 0 ∷ []) ∷ (0 ∷ 6 ∷ 0 ∷ []) ∷ (0 ∷ 6 ∷ 0 ∷ []) ∷ (0 ∷ 0 ∷ 0 ∷ []) ∷
    (0 ∷ 0 ∷ 0 ∷ []) ∷ []) ∷
    -- under priorities one is held
    holds (tidied (1 ∷ []) (rt 0 3 ∷ rt 0 2 ∷ be 0 1 ∷ []) 10 5)
    (invokes 0 ∷ invokes 1 ∷ invokes 2 ∷ invokes_by 1 9 ∷ replies ∷ readies ∷ aborts 1 ∷ [])
    ((0 ∷ 0 ∷ 0 ∷ []) ∷ (0 ∷ 0 ∷ 0 ∷ []) ∷ (0 ∷ 0 ∷ 0 ∷ []) ∷ (0 ∷ 0 ∷ 0 ∷ []) ∷ (0 ∷ 0 ∷ 0 ∷ []) ∷ (0 ∷ 0 ∷ 0 ∷ []) ∷
    (0 ∷ 0 ∷ 0 ∷ []) ∷ []) ∷
    []

pub held_cases-hold : map (λ (t : Telling). held_from t.setup fresh t.records) held_cases
    ≡ map (λ (t : Telling). t.wanted) held_cases
unfolding held_cases event_of answer_by next_by moved_by step_by outranks refill queue pick invoked ran replied aborted
    readied
held_cases-hold = refl

-- A fresh gate holds one.
pub fresh_holds : charges_below fresh.deadline 3 ≡ 0 ∷ 0 ∷ 0 ∷ []
fresh_holds = refl

-- WHAT AN EVENT MAKES OF ANY DEADLINES

-- clients 0 and 1 real-time, client 2 best-effort, by deadlines or by priorities
abbrev pub three : Bool → Setup
three timed = ranked (1 ∷ []) (rt 0 0 ∷ rt 0 0 ∷ be 0 0 ∷ []) 10 5 timed

-- No history comes to such a state: everybody has a deadline, 5, 6 and 7, whether it waits or not.
abbrev pub marked : Server → State
marked v = with_deadline (λ (c : ℕ). c + 5) (with_server v 0 fresh)

-- whoever is in service
abbrev pub servers : List Server
servers = idle ∷ front 0 ∷ best 2 ∷ spent 0 ∷ tidying ∷ []

abbrev pub becomes : Server → Event → List ℕ
becomes v e = charges_below (deadlines (three true) (marked v) e) 3

-- the invoke keeps the one before, or the smaller, or adds to it; a best-effort client's invoke, a run or a ready takes
-- one; an abort takes another's
pub any-deadlines :
    map (becomes (front 0)) (invoke 0 (some 9) ∷ invoke 1 (some 2) ∷ invoke 2 (some 9) ∷ run 1 ∷ ready ∷ abort 0 ∷
    abort 1 ∷ [])
    ≡ (9 ∷ 6 ∷ 7 ∷ []) ∷ (5 ∷ 2 ∷ 7 ∷ []) ∷ (5 ∷ 6 ∷ 7 ∷ []) ∷ (5 ∷ 6 ∷ 7 ∷ []) ∷ (5 ∷ 6 ∷ 7 ∷ []) ∷ (0 ∷ 6 ∷ 7 ∷ []) ∷
    (5 ∷ 0 ∷ 7 ∷ []) ∷ []
any-deadlines = refl

-- a reply takes that of another than the front in service
pub any-answered :
    map (λ (v : Server). becomes v reply) servers
    ≡ (5 ∷ 6 ∷ 7 ∷ []) ∷ (0 ∷ 6 ∷ 7 ∷ []) ∷ (5 ∷ 6 ∷ 7 ∷ []) ∷ (5 ∷ 6 ∷ 7 ∷ []) ∷ (5 ∷ 6 ∷ 7 ∷ []) ∷ []
any-answered = refl

-- client 0 in service and in the line, client 1 in the room
abbrev pub standing : State
standing = record {
  lines = λ (k : ℕ). cond (eqb k 0) (0 ∷ []) [];
  room = λ (c : ℕ). eqb c 1;
  global = [];
  background = [];
  server = front 0;
  units = 0;
  charge = λ (c : ℕ). 0;
  deadline = λ (c : ℕ). c + 5;
}

abbrev pub moved : State → Event → List ℕ
moved s e = charges_below (moved_by (three true) (outranks (three true) s) s e).deadline 3

-- one of the moves that an event is made of changes a deadline
pub no_move :
    map (moved (marked idle)) (invoke 0 (some 9) ∷ invoke 2 (some 9) ∷ []) ≡ (5 ∷ 6 ∷ 7 ∷ []) ∷ (5 ∷ 6 ∷ 7 ∷ []) ∷ []
unfolding moved_by outranks refill queue pick invoked ran replied aborted readied
no_move = refl

pub no-move-standing :
    map (moved standing) (run 1 ∷ reply ∷ abort 0 ∷ abort 1 ∷ ready ∷ [])
    ≡ (5 ∷ 6 ∷ 7 ∷ []) ∷ (5 ∷ 6 ∷ 7 ∷ []) ∷ (5 ∷ 6 ∷ 7 ∷ []) ∷ (5 ∷ 6 ∷ 7 ∷ []) ∷ (5 ∷ 6 ∷ 7 ∷ []) ∷ []
unfolding moved_by outranks refill queue pick invoked ran replied aborted readied
no-move-standing = refl

-- THE FORM OF AN INVOKE

-- without a deadline, and with the deadlines 0, 1, the largest, and one more
abbrev pub forms : List (Option ℕ)
forms = none ∷ some 0 ∷ some 1 ∷ some 4294967295 ∷ some 4294967296 ∷ []

-- what is answered to an invoke of c in these forms
abbrev pub answers : Bool → State → ℕ → List ℕ
answers timed s c = map (λ (o : Option ℕ). answer (three timed) s (invoke c o)) forms

-- with client 3, which there isn't, in the room too
abbrev pub crowded : State
crowded = with_room 3 true standing

-- 10 or 11 before 18, or 11 before 10; another form is accepted; a best-effort client may have any form; the limit is
-- another, or there is none
pub forms-by-deadlines :
    map (answers true crowded) (0 ∷ 2 ∷ 3 ∷ []) ++ answers true fresh 1 ∷ []
    ≡ (18 ∷ 11 ∷ 11 ∷ 11 ∷ 18 ∷ []) ∷ (18 ∷ 0 ∷ 0 ∷ 0 ∷ 18 ∷ []) ∷ (18 ∷ 10 ∷ 10 ∷ 10 ∷ 18 ∷ []) ∷
    (18 ∷ 0 ∷ 0 ∷ 0 ∷ 18 ∷ []) ∷ []
unfolding answer_by
forms-by-deadlines = refl

pub forms-by-priorities :
    map (answers false crowded) (0 ∷ 2 ∷ 3 ∷ []) ++ answers false fresh 1 ∷ []
    ≡ (11 ∷ 18 ∷ 18 ∷ 18 ∷ 18 ∷ []) ∷ (0 ∷ 18 ∷ 18 ∷ 18 ∷ 18 ∷ []) ∷ (10 ∷ 18 ∷ 18 ∷ 18 ∷ 18 ∷ []) ∷
    (0 ∷ 18 ∷ 18 ∷ 18 ∷ 18 ∷ []) ∷ []
unfolding answer_by
forms-by-priorities = refl
