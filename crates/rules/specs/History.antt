-- A history of events, refused ones among them: what a client is charged in it, when it waits, and what hits it
-- meanwhile. The latest event stands first.
-- Assumes nothing.
use Rattle.std.specs.Prelude.{ℕ, suc, ◌+◌, Bool, true, false, not, ◌&&◌, ◌||◌, cond, List, [], ◌∷◌, eqb}
use Rattle.rules.specs.Refusals.{accepted}
use Rattle.rules.specs.Setup.{Setup, real_time}
use Rattle.rules.specs.State.{State, fresh, is_front, serves}
use Rattle.rules.specs.Rank.{Rank}
use Rattle.rules.specs.Queues.{waits}
use Rattle.rules.specs.Events.{Event, invoke, run, reply, abort, ready, charged}
use Rattle.rules.specs.Step.{answer_by, Ranks, own_ranks, after_from_by}
use Rattle.rules.specs.Records.{Heard, said_of}

module _ (u : Setup) where
  -- the state that a fresh gate comes to, by any ranks and by its own
  abbrev pub after_by : Ranks → List Event → State
  after_by ranks h = after_from_by u ranks fresh h

  abbrev pub after : List Event → State
  after h = after_by (own_ranks u) h

  -- the events of a log's records by what each says, the latest first
  abbrev pub said : List Heard → List Event
  said [] = []
  said (x ∷ xs) = said_of u (after (said xs)) x (said xs)

  -- WHAT IS KEPT ALONG A HISTORY

  -- `change rank s e x`: what becomes of x with an accepted event e that found the state s and that rank. A refused
  -- event changes nothing.
  abbrev pub changed : {A : Type 0} → (Rank → State → Event → A → A) → Rank → State → Event → A → A
  changed change rank s e x = cond (eqb (answer_by u rank s e) accepted) (change rank s e x) x

  -- x stands before the first event
  abbrev pub along_by : {A : Type 0} → Ranks → (Rank → State → Event → A → A) → A → List Event → A
  along_by ranks change x [] = x
  along_by ranks change x (e ∷ h) =
      changed change (ranks h (after_by ranks h)) (after_by ranks h) e (along_by ranks change x h)

  abbrev pub along : {A : Type 0} → (Rank → State → Event → A → A) → A → List Event → A
  along change x h = along_by (own_ranks u) change x h

  -- THE CHARGE OF A CLIENT'S LATEST WAIT

  -- A wait runs from an accepted invoke: the event begins one of c, a real-time client, as only these are charged.
  abbrev pub begins : ℕ → Event → Bool
  begins c (invoke d o) = eqb d c && real_time u c
  begins c (run n) = false
  begins c reply = false
  begins c (abort d) = false
  begins c ready = false

  -- Each charged client's charge grows by n: what the event adds to c's.
  abbrev pub adds : ℕ → Rank → State → Event → ℕ
  adds c rank s (invoke d o) = 0
  adds c rank s (run n) = cond (charged u rank s c) n 0
  adds c rank s reply = 0
  adds c rank s (abort d) = 0
  adds c rank s ready = 0

  abbrev pub owes : ℕ → Rank → State → Event → ℕ → ℕ
  owes c rank s e n = cond (begins c e) 0 (n + adds c rank s e)

  -- the units of all accepted runs that charged c, from its latest accepted invoke on
  abbrev pub owed_by : Ranks → ℕ → List Event → ℕ
  owed_by ranks c h = along_by ranks (owes c) 0 h

  abbrev pub owed : ℕ → List Event → ℕ
  owed c h = owed_by (own_ranks u) c h

  -- ALL OF ITS WAITS

  abbrev pub owes_in_all : ℕ → Rank → State → Event → ℕ → ℕ
  owes_in_all c rank s e n = n + adds c rank s e

  -- the units of all accepted runs that charged c
  abbrev pub owed_in_all : ℕ → List Event → ℕ
  owed_in_all c = along (owes_in_all c) 0

  abbrev pub calls_again : ℕ → State → Event → ℕ → ℕ
  calls_again c s e n = cond (begins c e) (suc n) n

  -- how many of its invokes were accepted
  abbrev pub calls : ℕ → List Event → ℕ
  calls c = along (λ (rank : Rank). calls_again c) 0

  -- WHEN IT WAITS

  -- A wait runs to the reply that ends it or the client's accepted abort. A reply ends the request in service.
  abbrev pub ends : ℕ → State → Event → Bool
  ends c s (invoke d o) = false
  ends c s (run n) = false
  ends c s reply = serves s.server c
  ends c s (abort d) = eqb d c
  ends c s ready = false

  abbrev pub waits_on : ℕ → State → Event → Bool → Bool
  waits_on c s e b = cond (begins c e) true (not (ends c s e) && b)

  -- a wait of c has begun and has not ended
  abbrev pub waiting : ℕ → List Event → Bool
  waiting c = along (λ (rank : Rank). waits_on c) false

  -- WHETHER ITS CLUSTER'S REQUEST IN SERVICE WAS ABORTED MEANWHILE

  -- the event is an abort of the request of c's cluster in service, other than c's own
  abbrev pub hits : ℕ → State → Event → Bool
  hits c s (invoke d o) = false
  hits c s (run n) = false
  hits c s reply = false
  hits c s (abort d) = (is_front s.server d && eqb (u.cluster d) (u.cluster c)) && not (eqb d c)
  hits c s ready = false

  -- while c waits
  abbrev pub strikes : ℕ → State → Event → Bool
  strikes c s e = hits c s e && waits u s c

  -- while c is in the waiting room
  abbrev pub strikes_in_room : ℕ → State → Event → Bool
  strikes_in_room c s e = hits c s e && s.room c

  -- an event has passed the test p since c's latest accepted invoke
  abbrev pub passed_in : (ℕ → State → Event → Bool) → ℕ → State → Event → Bool → Bool
  passed_in p c s e b = cond (begins c e) false (p c s e || b)

  -- an accepted abort hit its own cluster's request in service during c's latest wait ..
  abbrev pub struck : ℕ → List Event → Bool
  struck c = along (λ (rank : Rank). passed_in strikes c) false

  -- .. and did so while c was in the waiting room
  abbrev pub struck_in_room_by : Ranks → ℕ → List Event → Bool
  struck_in_room_by ranks c h = along_by ranks (λ (rank : Rank). passed_in strikes_in_room c) false h

  abbrev pub struck_in_room : ℕ → List Event → Bool
  struck_in_room c h = struck_in_room_by (own_ranks u) c h
