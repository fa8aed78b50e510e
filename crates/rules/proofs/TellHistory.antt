-- Wrong readings of a history told apart: when a client waits, whether an abort struck meanwhile, how often it called,
-- and what it was charged.
-- Assumes nothing.
use Prim.Native.Nat.{ℕ}
use mathlib.Core.Path.{◌≡◌, refl}
use mathlib.Core.Bool.{Bool, true, false}
use mathlib.Core.List.{List, [], ◌∷◌, map}
use Rattle.rules.specs.Setup.{Setup}
use Rattle.rules.specs.Rank.{outranks}
use Rattle.rules.specs.Queues.{refill, queue, pick}
use Rattle.rules.specs.Events.{invoked, ran, replied, aborted, readied}
use Rattle.rules.specs.Step.{answer_by, moved_by, next_by, step_by}
use Rattle.rules.specs.Records.{Record, event_of}
use Rattle.rules.specs.History.{waiting, struck, struck_in_room, calls, owed, owed_in_all}
use Rattle.rules.proofs.Table.{rt, be, given, invokes, runs, replies, aborts, past}

-- what a history says of a client
pub record Read : Type 0 where
  pub waits : Bool
  pub struck : Bool
  pub in_room : Bool
  pub calls : ℕ
  pub owed : ℕ
  pub in_all : ℕ

-- the six in that order
abbrev pub read_as : Bool → Bool → Bool → ℕ → ℕ → ℕ → Read
read_as w s r n m t = record { waits = w; struck = s; in_room = r; calls = n; owed = m; in_all = t }

pub record Telling : Type 0 where
  pub client : ℕ
  pub records : List Record
  pub wanted : Read

-- records as a log has them, and what is to be said of a client after them
abbrev pub after : ℕ → List Record → Read → Telling
after c rs w = record { client = c; records = rs; wanted = w }

-- two clusters of size 2; clients 0, 1, 2 of cluster 0, client 3 of cluster 1, client 4 best-effort
abbrev pub two : Setup
two = given (2 ∷ 2 ∷ []) (rt 0 1 ∷ rt 0 2 ∷ rt 0 3 ∷ rt 1 1 ∷ be 0 0 ∷ []) 10

unfoldable pub history_cases : List Telling
history_cases =
    -- WHETHER AN ABORT STRUCK

    -- in the line, the request of another of its cluster is hit in service
    after 1 (invokes 0 ∷ invokes 1 ∷ aborts 0 ∷ []) (read_as true true false 1 0 0) ∷
    -- .. and it stays so after the wait, up to the next accepted invoke
    after 1 (invokes 0 ∷ invokes 1 ∷ aborts 0 ∷ replies ∷ replies ∷ []) (read_as false true false 1 0 0) ∷
    after 1 (invokes 0 ∷ invokes 1 ∷ aborts 0 ∷ replies ∷ replies ∷ invokes 1 ∷ []) (read_as true false false 2 0 0) ∷
    -- a refused invoke of its own does not begin a wait
    after 1 (invokes 0 ∷ invokes 1 ∷ aborts 0 ∷ invokes 1 ∷ []) (read_as true true false 1 0 0) ∷
    -- an abort of another cluster's request in service
    after 1 (invokes 3 ∷ invokes 1 ∷ aborts 3 ∷ []) (read_as true false false 1 0 0) ∷
    -- an abort in its line of one that is not in service
    after 1 (invokes 3 ∷ invokes 0 ∷ invokes 1 ∷ aborts 0 ∷ []) (read_as true false false 1 0 0) ∷
    -- an abort before its wait, and a refused one of that spent client during it
    after 1 (invokes 0 ∷ aborts 0 ∷ invokes 1 ∷ aborts 0 ∷ []) (read_as true false false 1 0 0) ∷
    -- an abort after its wait
    after 1 (invokes 1 ∷ replies ∷ invokes 0 ∷ aborts 0 ∷ []) (read_as false false false 1 0 0) ∷
    -- its own abort in service ends its wait
    after 1 (invokes 1 ∷ aborts 1 ∷ []) (read_as false false false 1 0 0) ∷
    -- WHETHER IT WAS IN THE WAITING ROOM THEN

    -- it was
    after 2 (invokes 0 ∷ invokes 1 ∷ invokes 2 ∷ aborts 0 ∷ []) (read_as true true true 1 0 0) ∷
    -- .. and it stays so in its line, up to the next accepted invoke
    after 2 (invokes 0 ∷ invokes 1 ∷ invokes 2 ∷ aborts 0 ∷ replies ∷ aborts 1 ∷ replies ∷ replies ∷ [])
    (read_as false true true 1 0 0) ∷
    after 2 (invokes 0 ∷ invokes 1 ∷ invokes 2 ∷ aborts 0 ∷ replies ∷ replies ∷ replies ∷ invokes 2 ∷ [])
    (read_as true false false 2 0 0) ∷
    -- it had moved from the room to its line
    after 2 (invokes 0 ∷ invokes 1 ∷ invokes 2 ∷ replies ∷ aborts 1 ∷ []) (read_as true true false 1 0 0) ∷
    -- one that is not in service leaves the line, and it moves up
    after 2 (invokes 0 ∷ invokes 1 ∷ invokes 2 ∷ aborts 1 ∷ []) (read_as true false false 1 0 0) ∷
    -- the request of another cluster is hit
    after 2 (invokes 3 ∷ invokes 0 ∷ invokes 1 ∷ invokes 2 ∷ aborts 3 ∷ []) (read_as true false false 1 0 0) ∷
    -- its own abort in the room
    after 2 (invokes 0 ∷ invokes 1 ∷ invokes 2 ∷ aborts 2 ∷ []) (read_as false false false 1 0 0) ∷
    -- WHEN IT WAITS, AND WHAT IT IS CHARGED

    -- nothing has come
    after 0 [] (read_as false false false 0 0 0) ∷
    -- a reply to another's request does not end its wait, one to its own does
    after 1 (invokes 0 ∷ invokes 1 ∷ replies ∷ []) (read_as true false false 1 0 0) ∷
    after 1 (invokes 0 ∷ invokes 1 ∷ replies ∷ replies ∷ []) (read_as false false false 1 0 0) ∷
    -- a refused invoke begins nothing, a refused run charges nothing
    after 5 (invokes 5 ∷ []) (read_as false false false 0 0 0) ∷
    after 0 (invokes 0 ∷ runs 11 ∷ runs 4 ∷ []) (read_as true false false 1 4 4) ∷
    -- two waits
    after 0 (invokes 0 ∷ runs 4 ∷ replies ∷ invokes 0 ∷ runs 3 ∷ replies ∷ []) (read_as false false false 2 3 7) ∷
    -- what is served before its wait is not charged, what is served to another during it is
    after 0 (invokes 3 ∷ runs 5 ∷ invokes 0 ∷ runs 2 ∷ []) (read_as true false false 1 2 2) ∷
    -- the charge stays as it is once it is spent
    after 0 (invokes 0 ∷ runs 4 ∷ aborts 0 ∷ runs 3 ∷ []) (read_as false false false 1 4 4) ∷
    -- a best-effort client is never charged: no wait of it is counted
    after 4 (invokes 4 ∷ runs 5 ∷ []) (read_as false false false 0 0 0) ∷
    []

abbrev pub read_of : Telling → Read
read_of t =
    let h = past two t.records in
    let c = t.client in
    read_as (waiting two c h) (struck two c h) (struck_in_room two c h) (calls two c h) (owed two c h) (owed_in_all two c h)

pub history_cases-hold : map read_of history_cases ≡ map (λ (t : Telling). t.wanted) history_cases
unfolding history_cases event_of answer_by next_by moved_by step_by outranks refill queue pick invoked ran replied
    aborted readied
history_cases-hold = refl
