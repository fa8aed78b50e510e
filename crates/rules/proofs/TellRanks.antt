-- Wrong readings of rank told apart: who outranks whom in a state, which rank an event goes by, and which one a history
-- does.
-- Assumes nothing.
use Prim.Native.Nat.{ℕ}
use mathlib.Core.Path.{◌≡◌, refl}
use mathlib.Core.Bool.{Bool, true, false, cond}
use mathlib.Core.List.{List, [], ◌∷◌, map, reverse}
use mathlib.Core.Option.{Option, some, none}
use lib.Dec.{eqb, ltb}
use lib.ListN.{length, get_or}
use Rattle.rules.specs.Setup.{Setup}
use Rattle.rules.specs.State.{State, front, fresh}
use Rattle.rules.specs.Changes.{with_deadline}
use Rattle.rules.specs.Rank.{before, outranks}
use Rattle.rules.specs.Queues.{refill, queue, pick}
use Rattle.rules.specs.Events.{Event, invoke, run, reply, abort, ready, invoked, ran, replied, aborted, readied}
use Rattle.rules.specs.Step.{answer_by, moved_by, next_by, step_by, answer, next, step, Ranks, own_ranks}
use Rattle.rules.specs.Replay.{in_service, charges_below}
use Rattle.rules.specs.History.{after, after_by, owed, owed_by, owed_in_all, waiting, struck, struck_in_room}
use Rattle.rules.specs.History.{struck_in_room_by}
use Rattle.rules.proofs.Table.{rt, ranked}

-- WHO OUTRANKS WHOM

-- four clients of priorities 2, 0, 1, 1, by deadlines or by priorities
abbrev pub four : Bool → Setup
four timed = ranked (1 ∷ []) (rt 0 2 ∷ rt 0 0 ∷ rt 0 1 ∷ rt 0 1 ∷ []) 10 5 timed

-- a state that has the deadlines 3, 3, 0, 9
abbrev pub held : State
held = with_deadline (λ (c : ℕ). get_or (3 ∷ 3 ∷ 0 ∷ 9 ∷ []) c 0) fresh

-- of each, whether it outranks client 0, 1, 2, 3
abbrev pub ranks_in : Setup → State → List (List Bool)
ranks_in u s = map (λ (a : ℕ). map (outranks u s a) (0 ∷ 1 ∷ 2 ∷ 3 ∷ [])) (0 ∷ 1 ∷ 2 ∷ 3 ∷ [])

-- the larger deadline outranks, or of equal ones the larger client number or the smaller priority; 0 comes last; the
-- priority counts, alone or in a sum
pub by-deadlines : ranks_in (four true) held
    ≡ (false ∷ true ∷ false ∷ true ∷ []) ∷
    (false ∷ false ∷ false ∷ true ∷ []) ∷
    (true ∷ true ∷ false ∷ true ∷ []) ∷
    (false ∷ false ∷ false ∷ false ∷ []) ∷
    []
unfolding outranks
by-deadlines = refl

-- under priorities the state's deadlines count, alone or in a sum
pub by-priorities : ranks_in (four false) held
    ≡ (false ∷ false ∷ false ∷ false ∷ []) ∷
    (true ∷ false ∷ true ∷ true ∷ []) ∷
    (true ∷ false ∷ false ∷ true ∷ []) ∷
    (true ∷ false ∷ false ∷ false ∷ []) ∷
    []
unfolding outranks
by-priorities = refl

-- WHICH RANK AN EVENT GOES BY

-- Client 0 is in service, and client 1, of the smaller deadline, in the room: a run charges 1 alone. Their charges are
-- n and m.
abbrev pub near_limit : ℕ → ℕ → State
near_limit n m = record {
  lines = λ (k : ℕ). cond (eqb k 0) (0 ∷ []) [];
  room = λ (c : ℕ). eqb c 1;
  global = [];
  background = [];
  server = front 0;
  units = 0;
  charge = λ (c : ℕ). get_or (n ∷ m ∷ []) c 0;
  deadline = λ (c : ℕ). get_or (7 ∷ 3 ∷ []) c 0;
}

-- the limit is looked at, and the charge made, by another rank than the state's own
pub own-answers :
    map (λ (s : State). answer (four true) s (run 2)) (near_limit 33554430 0 ∷ near_limit 0 33554430 ∷ []) ≡ 0 ∷ 19 ∷ []
unfolding answer_by outranks
own-answers = refl

pub own-moves :
    map (λ (s : State). charges_below s.charge 2)
    (next (four true) (near_limit 5 6) (run 2) ∷ step (four true) (near_limit 5 6) (run 2) ∷ [])
    ≡ (5 ∷ 8 ∷ []) ∷ (5 ∷ 8 ∷ []) ∷ []
unfolding answer_by next_by moved_by step_by outranks ran
own-moves = refl

-- WHICH RANK A HISTORY GOES BY

-- the clients that its cases speak of
abbrev pub three : List ℕ
three = 0 ∷ 1 ∷ 2 ∷ []

-- What is left of a history by given ranks: who is in service, the charges held and those summed up, and who was in the
-- waiting room when its cluster's request in service was aborted.
pub record Left : Type 0 where
  pub served : Option ℕ
  pub charges : List ℕ
  pub owed : List ℕ
  pub struck : List Bool

-- the charges that are held are those summed up
abbrev pub leaves : Option ℕ → List ℕ → List Bool → Left
leaves o ns bs = record { served = o; charges = ns; owed = ns; struck = bs }

abbrev pub left_by : Setup → Ranks → List Event → Left
left_by u ranks es =
    let h = reverse es in
    let s = after_by u ranks h in
    record {
      served = in_service s.server;
      charges = charges_below s.charge 3;
      owed = map (λ (c : ℕ). owed_by u ranks c h) three;
      struck = map (λ (c : ℕ). struck_in_room_by u ranks c h) three;
    }

-- by client numbers for the first n events, and then the other way round
abbrev pub turning : ℕ → Ranks
turning n h s a b = cond (ltb (length h) n) (ltb a b) (ltb b a)

-- the smaller charge outranks
abbrev pub by_charge : Ranks
by_charge h s a b = before (s.charge a) a (s.charge b) b

-- Three wait for a line of one place: rank decides whom the two runs before the abort charge, and whom the reply lets
-- into the line.
abbrev pub turns : Option ℕ → Option ℕ → Option ℕ → List Event
turns d e f =
    invoke 0 d ∷ invoke 1 e ∷ invoke 2 f ∷ run 4 ∷ reply ∷ ready ∷ run 3 ∷ abort 2 ∷ run 2 ∷ []

-- A rank is read with the event in the history, once for all, off the fresh state or off the state after the event; the
-- gate's own rank stands in for the one given; the sum or the abort goes by another rank than the state.
pub given-ranks :
    map (λ (n : ℕ). left_by (four false) (turning n) (turns none none none)) (3 ∷ 4 ∷ 5 ∷ 6 ∷ 7 ∷ [])
    ≡ leaves (some 2) (0 ∷ 2 ∷ 7 ∷ []) (false ∷ true ∷ false ∷ []) ∷
    leaves (some 2) (4 ∷ 2 ∷ 3 ∷ []) (false ∷ true ∷ false ∷ []) ∷
    leaves (some 1) (4 ∷ 2 ∷ 3 ∷ []) (false ∷ false ∷ false ∷ []) ∷
    leaves (some 1) (4 ∷ 2 ∷ 3 ∷ []) (false ∷ false ∷ false ∷ []) ∷
    leaves (some 1) (4 ∷ 5 ∷ 0 ∷ []) (false ∷ false ∷ false ∷ []) ∷
    []
unfolding answer_by next_by moved_by step_by outranks refill queue pick invoked ran replied aborted readied
given-ranks = refl

pub rank-of-state :
    left_by (four false) by_charge
    (invoke 0 none ∷ invoke 1 none ∷ invoke 2 none ∷ run 4 ∷ run 3 ∷ run 2 ∷ reply ∷ ready ∷ [])
    ≡ leaves (some 2) (4 ∷ 3 ∷ 2 ∷ []) (false ∷ false ∷ false ∷ [])
unfolding answer_by next_by moved_by step_by outranks refill queue pick invoked ran replied aborted readied
rank-of-state = refl

-- by the gate's own: client 2, of a smaller deadline, goes before client 1 and is hit in service
pub own-ranks :
    left_by (four true) (own_ranks (four true)) (turns (some 5) (some 9) (some 7))
    ≡ leaves (some 2) (4 ∷ 2 ∷ 3 ∷ []) (false ∷ true ∷ false ∷ [])
unfolding answer_by next_by moved_by step_by outranks refill queue pick invoked ran replied aborted readied
own-ranks = refl

-- what is read along a history goes by other ranks than the gate's own
pub record Along : Type 0 where
  pub served : Option ℕ
  pub owed : List ℕ
  pub in_all : List ℕ
  pub waiting : List Bool
  pub struck : List Bool
  pub in_room : List Bool

abbrev pub along_of : Setup → List Event → Along
along_of u es =
    let h = reverse es in
    record {
      served = in_service (after u h).server;
      owed = map (λ (c : ℕ). owed u c h) three;
      in_all = map (λ (c : ℕ). owed_in_all u c h) three;
      waiting = map (λ (c : ℕ). waiting u c h) three;
      struck = map (λ (c : ℕ). struck u c h) three;
      in_room = map (λ (c : ℕ). struck_in_room u c h) three;
    }

pub own-along :
    along_of (four true) (turns (some 5) (some 9) (some 7))
    ≡ record {
      served = some 2;
      owed = 4 ∷ 2 ∷ 3 ∷ [];
      in_all = 4 ∷ 2 ∷ 3 ∷ [];
      waiting = false ∷ true ∷ false ∷ [];
      struck = false ∷ true ∷ false ∷ [];
      in_room = false ∷ true ∷ false ∷ [];
    }
unfolding answer_by next_by moved_by step_by outranks refill queue pick invoked ran replied aborted readied
own-along = refl
