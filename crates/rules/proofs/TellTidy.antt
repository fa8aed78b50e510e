-- Wrong gates told apart by what they do while the server tidies, in logs of version 2.
-- Assumes nothing.
use Prim.Native.Nat.{ℕ}
use mathlib.Core.Path.{◌≡◌, refl}
use mathlib.Core.List.{List, [], ◌∷◌, map}
use mathlib.Core.Option.{some, none}
use Rattle.rules.specs.Setup.{Setup, setup_answer}
use Rattle.rules.specs.State.{fresh}
use Rattle.rules.specs.Rank.{outranks}
use Rattle.rules.specs.Queues.{refill, queue, pick}
use Rattle.rules.specs.Events.{invoke, run, reply, invoked, ran, replied, aborted, readied}
use Rattle.rules.specs.Step.{answer_by, moved_by, next_by, step_by}
use Rattle.rules.specs.Records.{known, reply_ready, event_of}
use Rattle.rules.specs.Replay.{Entry, replay_from, entries_from}
use Rattle.rules.proofs.Table.{rt, be, tidied, raw, invokes, runs, replies, aborts, readies}
use Rattle.rules.proofs.Table.{Case, case2, got, wanted}

-- m = 1, L = 10, and W; clients 0, 1, 2 real-time with priorities 1, 2, 3, clients 3 and 4 best-effort
abbrev pub one : ℕ → Setup
one w = tidied (1 ∷ []) (rt 0 1 ∷ rt 0 2 ∷ rt 0 3 ∷ be 0 0 ∷ be 0 9 ∷ []) 10 w

-- two clusters of size 1: clients 0, 1, 2 of the one, 3 and 4 of the other, 5 and 6 best-effort
abbrev pub two : Setup
two = tidied (1 ∷ 1 ∷ []) (rt 0 1 ∷ rt 0 2 ∷ rt 0 3 ∷ rt 1 1 ∷ rt 1 2 ∷ be 0 0 ∷ be 1 7 ∷ []) 10 5

-- document 01's log with W = 5
abbrev pub log : Setup
log = tidied (1 ∷ []) (rt 0 1 ∷ rt 0 2 ∷ rt 0 3 ∷ be 0 0 ∷ []) 10 5

-- four real-time clients, and W = 3
abbrev pub four : Setup
four = tidied (1 ∷ []) (rt 0 1 ∷ rt 0 2 ∷ rt 0 3 ∷ rt 0 0 ∷ []) 10 3

-- Each wrong reading, and a setup and records that tell it apart: the right answers, clients in service and charges.
unfoldable pub tidy_cases : List Case
tidy_cases =
    -- a ready on an idle server is accepted
    case2 (one 5)
    (readies ∷ runs 0 ∷ runs 1 ∷ replies ∷ readies ∷ invokes 0 ∷ readies ∷ [])
    (26 ∷ 13 ∷ 12 ∷ 12 ∷ 26 ∷ 0 ∷ 26 ∷ [])
    (none ∷ none ∷ none ∷ none ∷ none ∷ some 0 ∷ some 0 ∷ [])
    (0 ∷ 0 ∷ 0 ∷ 0 ∷ 0 ∷ []) ∷
    -- 26 before 18
    case2 (one 5)
    (raw 5 7 ∷ invokes 0 ∷ raw 5 7 ∷ readies ∷ replies ∷ readies ∷ raw 5 7 ∷ [])
    (18 ∷ 0 ∷ 18 ∷ 26 ∷ 0 ∷ 0 ∷ 18 ∷ [])
    (none ∷ some 0 ∷ some 0 ∷ some 0 ∷ none ∷ none ∷ none ∷ [])
    (0 ∷ 0 ∷ 0 ∷ 0 ∷ 0 ∷ []) ∷
    -- a second ready is accepted
    case2 (one 5)
    (invokes 0 ∷ replies ∷ readies ∷ readies ∷ invokes 1 ∷ readies ∷ replies ∷ readies ∷ readies ∷ [])
    (0 ∷ 0 ∷ 0 ∷ 26 ∷ 0 ∷ 26 ∷ 0 ∷ 0 ∷ 26 ∷ [])
    (some 0 ∷ none ∷ none ∷ none ∷ some 1 ∷ some 1 ∷ none ∷ none ∷ none ∷ [])
    (0 ∷ 0 ∷ 0 ∷ 0 ∷ 0 ∷ []) ∷
    -- a ready ends a service
    case2 (one 5)
    (invokes 0 ∷ invokes 1 ∷ aborts 0 ∷ readies ∷ runs 2 ∷ readies ∷ replies ∷ readies ∷ readies ∷ [])
    (0 ∷ 0 ∷ 0 ∷ 26 ∷ 0 ∷ 26 ∷ 0 ∷ 0 ∷ 26 ∷ [])
    (some 0 ∷ some 0 ∷ some 0 ∷ some 0 ∷ some 0 ∷ some 0 ∷ none ∷ some 1 ∷ some 1 ∷ [])
    (0 ∷ 2 ∷ 0 ∷ 0 ∷ 0 ∷ []) ∷
    -- a reply while tidying is accepted
    case2 (one 5)
    (invokes 0 ∷ replies ∷ replies ∷ replies ∷ runs 2 ∷ replies ∷ readies ∷ replies ∷ [])
    (0 ∷ 0 ∷ 12 ∷ 12 ∷ 0 ∷ 12 ∷ 0 ∷ 12 ∷ [])
    (some 0 ∷ none ∷ none ∷ none ∷ none ∷ none ∷ none ∷ none ∷ [])
    (0 ∷ 0 ∷ 0 ∷ 0 ∷ 0 ∷ []) ∷
    -- 14 looks at the run's units alone, while tidying
    case2 (one 5)
    (invokes 0 ∷ invokes 1 ∷ replies ∷ runs 3 ∷ runs 3 ∷ runs 2 ∷ runs 1 ∷ runs 1 ∷ readies ∷ [])
    (0 ∷ 0 ∷ 0 ∷ 0 ∷ 14 ∷ 0 ∷ 14 ∷ 14 ∷ 0 ∷ [])
    (some 0 ∷ some 0 ∷ none ∷ none ∷ none ∷ none ∷ none ∷ none ∷ some 1 ∷ [])
    (0 ∷ 5 ∷ 0 ∷ 0 ∷ 0 ∷ []) ∷
    -- tidying is bounded by L
    case2 (one 20)
    (invokes 0 ∷ invokes 1 ∷ replies ∷ runs 20 ∷ runs 1 ∷ readies ∷ runs 11 ∷ runs 10 ∷ [])
    (0 ∷ 0 ∷ 0 ∷ 0 ∷ 14 ∷ 0 ∷ 14 ∷ 0 ∷ [])
    (some 0 ∷ some 0 ∷ none ∷ none ∷ none ∷ some 1 ∷ some 1 ∷ some 1 ∷ [])
    (0 ∷ 30 ∷ 0 ∷ 0 ∷ 0 ∷ []) ∷
    -- service is bounded by W
    case2 (one 20)
    (invokes 0 ∷ runs 11 ∷ runs 10 ∷ runs 1 ∷ replies ∷ readies ∷ [])
    (0 ∷ 14 ∷ 0 ∷ 14 ∷ 0 ∷ 0 ∷ [])
    (some 0 ∷ some 0 ∷ some 0 ∷ some 0 ∷ none ∷ none ∷ [])
    (10 ∷ 0 ∷ 0 ∷ 0 ∷ 0 ∷ []) ∷
    -- units tidied go on from the units served
    case2 (one 5)
    (invokes 0 ∷ invokes 1 ∷ runs 10 ∷ replies ∷ runs 5 ∷ readies ∷ [])
    (0 ∷ 0 ∷ 0 ∷ 0 ∷ 0 ∷ 0 ∷ [])
    (some 0 ∷ some 0 ∷ some 0 ∷ none ∷ none ∷ some 1 ∷ [])
    (10 ∷ 5 ∷ 0 ∷ 0 ∷ 0 ∷ []) ∷
    -- units served go on from the units tidied
    case2 (one 5)
    (invokes 0 ∷ invokes 1 ∷ replies ∷ runs 5 ∷ readies ∷ runs 10 ∷ runs 1 ∷ [])
    (0 ∷ 0 ∷ 0 ∷ 0 ∷ 0 ∷ 0 ∷ 14 ∷ [])
    (some 0 ∷ some 0 ∷ none ∷ none ∷ some 1 ∷ some 1 ∷ some 1 ∷ [])
    (0 ∷ 15 ∷ 0 ∷ 0 ∷ 0 ∷ []) ∷
    -- an invoke while tidying picks
    case2 (one 5)
    (invokes 0 ∷ replies ∷ invokes 1 ∷ invokes 2 ∷ runs 5 ∷ readies ∷ replies ∷ readies ∷ [])
    (0 ∷ 0 ∷ 0 ∷ 0 ∷ 0 ∷ 0 ∷ 0 ∷ 0 ∷ [])
    (some 0 ∷ none ∷ none ∷ none ∷ none ∷ some 1 ∷ none ∷ some 2 ∷ [])
    (0 ∷ 5 ∷ 0 ∷ 0 ∷ 0 ∷ []) ∷
    -- a client waits until its tidying ends
    case2 (one 5)
    (invokes 0 ∷ invokes 1 ∷ replies ∷ invokes 0 ∷ runs 5 ∷ readies ∷ replies ∷ readies ∷ [])
    (0 ∷ 0 ∷ 0 ∷ 0 ∷ 0 ∷ 0 ∷ 0 ∷ 0 ∷ [])
    (some 0 ∷ some 0 ∷ none ∷ none ∷ none ∷ some 1 ∷ none ∷ some 0 ∷ [])
    (5 ∷ 0 ∷ 0 ∷ 0 ∷ 0 ∷ []) ∷
    -- a client can be aborted until its tidying ends
    case2 (one 5)
    (invokes 0 ∷ replies ∷ aborts 0 ∷ aborts 1 ∷ readies ∷ aborts 0 ∷ [])
    (0 ∷ 0 ∷ 15 ∷ 15 ∷ 0 ∷ 15 ∷ [])
    (some 0 ∷ none ∷ none ∷ none ∷ none ∷ none ∷ [])
    (0 ∷ 0 ∷ 0 ∷ 0 ∷ 0 ∷ []) ∷
    -- a new front takes the place of one aborted while tidying
    case2 two
    (invokes 0 ∷ invokes 1 ∷ invokes 2 ∷ invokes 3 ∷ replies ∷ aborts 1 ∷ readies ∷ replies ∷ readies ∷ [])
    (0 ∷ 0 ∷ 0 ∷ 0 ∷ 0 ∷ 0 ∷ 0 ∷ 0 ∷ 0 ∷ [])
    (some 0 ∷ some 0 ∷ some 0 ∷ some 0 ∷ none ∷ none ∷ some 3 ∷ none ∷ some 2 ∷ [])
    (0 ∷ 0 ∷ 0 ∷ 0 ∷ 0 ∷ 0 ∷ 0 ∷ []) ∷
    -- the line's front joins the global queue at the ready
    case2 two
    (invokes 0 ∷ invokes 1 ∷ replies ∷ invokes 3 ∷ readies ∷ replies ∷ readies ∷ [])
    (0 ∷ 0 ∷ 0 ∷ 0 ∷ 0 ∷ 0 ∷ 0 ∷ [])
    (some 0 ∷ some 0 ∷ none ∷ none ∷ some 1 ∷ none ∷ some 3 ∷ [])
    (0 ∷ 0 ∷ 0 ∷ 0 ∷ 0 ∷ 0 ∷ 0 ∷ []) ∷
    -- a spent client's cluster is blocked until the ready
    case2 two
    (invokes 0 ∷ invokes 1 ∷ aborts 0 ∷ replies ∷ invokes 3 ∷ readies ∷ replies ∷ readies ∷ [])
    (0 ∷ 0 ∷ 0 ∷ 0 ∷ 0 ∷ 0 ∷ 0 ∷ 0 ∷ [])
    (some 0 ∷ some 0 ∷ some 0 ∷ none ∷ none ∷ some 1 ∷ none ∷ some 3 ∷ [])
    (0 ∷ 0 ∷ 0 ∷ 0 ∷ 0 ∷ 0 ∷ 0 ∷ []) ∷
    -- a line is refilled at the ready
    case2 (one 5)
    (invokes 2 ∷ invokes 1 ∷ replies ∷ invokes 0 ∷ runs 5 ∷ readies ∷ replies ∷ readies ∷ replies ∷ readies ∷ [])
    (0 ∷ 0 ∷ 0 ∷ 0 ∷ 0 ∷ 0 ∷ 0 ∷ 0 ∷ 0 ∷ 0 ∷ [])
    (some 2 ∷ some 2 ∷ none ∷ none ∷ none ∷ some 1 ∷ none ∷ some 0 ∷ none ∷ none ∷ [])
    (5 ∷ 0 ∷ 0 ∷ 0 ∷ 0 ∷ []) ∷
    -- nobody is charged while tidying
    case2 (one 5)
    (invokes 0 ∷ invokes 2 ∷ replies ∷ invokes 1 ∷ runs 5 ∷ readies ∷ runs 3 ∷ [])
    (0 ∷ 0 ∷ 0 ∷ 0 ∷ 0 ∷ 0 ∷ 0 ∷ [])
    (some 0 ∷ some 0 ∷ none ∷ none ∷ none ∷ some 2 ∷ some 2 ∷ [])
    (0 ∷ 8 ∷ 0 ∷ 0 ∷ 0 ∷ []) ∷
    -- a client is charged for the tidying after its reply
    case2 (one 5)
    (invokes 0 ∷ runs 4 ∷ replies ∷ runs 5 ∷ readies ∷ [])
    (0 ∷ 0 ∷ 0 ∷ 0 ∷ 0 ∷ [])
    (some 0 ∷ some 0 ∷ none ∷ none ∷ none ∷ [])
    (4 ∷ 0 ∷ 0 ∷ 0 ∷ 0 ∷ []) ∷
    -- a reply picks, as in version 1
    case2 log
    (invokes 3 ∷ invokes 2 ∷ invokes 1 ∷ runs 10 ∷ replies ∷ runs 10 ∷ invokes 0 ∷ replies ∷ aborts 0 ∷ runs 10 ∷
    replies ∷ runs 10 ∷ replies ∷ [])
    (0 ∷ 0 ∷ 0 ∷ 0 ∷ 0 ∷ 14 ∷ 0 ∷ 12 ∷ 0 ∷ 14 ∷ 12 ∷ 14 ∷ 12 ∷ [])
    (some 3 ∷ some 3 ∷ some 3 ∷ some 3 ∷ none ∷ none ∷ none ∷ none ∷ none ∷ none ∷ none ∷ none ∷ none ∷ [])
    (0 ∷ 10 ∷ 0 ∷ 0 ∷ []) ∷
    -- a ready picks nobody but fronts
    case2 (one 5) (invokes 0 ∷ invokes 4 ∷ invokes 3 ∷ replies ∷ runs 2 ∷ readies ∷ replies ∷ readies ∷ [])
    (0 ∷ 0 ∷ 0 ∷ 0 ∷ 0 ∷ 0 ∷ 0 ∷ 0 ∷ [])
    (some 0 ∷ some 0 ∷ some 0 ∷ none ∷ none ∷ some 4 ∷ none ∷ some 3 ∷ [])
    (0 ∷ 0 ∷ 0 ∷ 0 ∷ 0 ∷ []) ∷
    -- a best-effort client that came first is picked before a front
    case2 (one 5) (invokes 0 ∷ replies ∷ invokes 3 ∷ invokes 1 ∷ readies ∷ replies ∷ readies ∷ [])
    (0 ∷ 0 ∷ 0 ∷ 0 ∷ 0 ∷ 0 ∷ 0 ∷ [])
    (some 0 ∷ none ∷ none ∷ none ∷ some 1 ∷ none ∷ some 3 ∷ [])
    (0 ∷ 0 ∷ 0 ∷ 0 ∷ 0 ∷ []) ∷
    -- where nobody waits, the server stays tidying after ready, or W is not 0 where it is
    case2 (one 0) (invokes 0 ∷ replies ∷ runs 1 ∷ readies ∷ runs 1 ∷ readies ∷ invokes 1 ∷ [])
    (0 ∷ 0 ∷ 14 ∷ 0 ∷ 12 ∷ 26 ∷ 0 ∷ [])
    (some 0 ∷ none ∷ none ∷ none ∷ none ∷ none ∷ some 1 ∷ [])
    (0 ∷ 0 ∷ 0 ∷ 0 ∷ 0 ∷ []) ∷
    -- while tidying, 14 comes before 13; an unknown client is not 10, one that waits not 11, a best-effort one not 16
    case2 (one 5)
    (invokes 0 ∷ invokes 1 ∷ replies ∷ runs 0 ∷ runs 6 ∷ invokes 5 ∷ invokes 1 ∷ aborts 5 ∷ aborts 3 ∷ [])
    (0 ∷ 0 ∷ 0 ∷ 13 ∷ 14 ∷ 10 ∷ 11 ∷ 10 ∷ 16 ∷ [])
    (some 0 ∷ some 0 ∷ none ∷ none ∷ none ∷ none ∷ none ∷ none ∷ none ∷ [])
    (0 ∷ 0 ∷ 0 ∷ 0 ∷ 0 ∷ []) ∷
    -- an abort while tidying begins a service, in the line or in the waiting room
    case2 (one 5) (invokes 2 ∷ invokes 1 ∷ replies ∷ invokes 0 ∷ aborts 0 ∷ aborts 1 ∷ runs 5 ∷ readies ∷ [])
    (0 ∷ 0 ∷ 0 ∷ 0 ∷ 0 ∷ 0 ∷ 0 ∷ 0 ∷ [])
    (some 2 ∷ some 2 ∷ none ∷ none ∷ none ∷ none ∷ none ∷ none ∷ [])
    (0 ∷ 0 ∷ 0 ∷ 0 ∷ 0 ∷ []) ∷
    -- 2L + 2mKS is reached: client 1 is charged 46
    case2 four
    (invokes 3 ∷ aborts 3 ∷ invokes 2 ∷ invokes 1 ∷ runs 10 ∷ replies ∷ runs 3 ∷ readies ∷ runs 10 ∷ invokes 0 ∷
    replies ∷ runs 3 ∷ readies ∷ aborts 0 ∷ runs 10 ∷ replies ∷ runs 3 ∷ readies ∷ runs 10 ∷ replies ∷ [])
    (0 ∷ 0 ∷ 0 ∷ 0 ∷ 0 ∷ 0 ∷ 0 ∷ 0 ∷ 0 ∷ 0 ∷ 0 ∷ 0 ∷ 0 ∷ 0 ∷ 0 ∷ 0 ∷ 0 ∷ 0 ∷ 0 ∷ 0 ∷ [])
    (some 3 ∷ some 3 ∷ some 3 ∷ some 3 ∷ some 3 ∷ none ∷ none ∷ some 2 ∷ some 2 ∷ some 2 ∷ none ∷ none ∷ some 0 ∷
    some 0 ∷ some 0 ∷ none ∷ none ∷ some 1 ∷ some 1 ∷ none ∷ [])
    (3 ∷ 46 ∷ 0 ∷ 0 ∷ []) ∷
    -- L + 2mKS is reached: client 1 is charged 36
    case2 four
    (invokes 3 ∷ aborts 3 ∷ invokes 2 ∷ invokes 1 ∷ runs 10 ∷ replies ∷ runs 3 ∷ readies ∷ runs 10 ∷ replies ∷
    runs 3 ∷ readies ∷ runs 10 ∷ replies ∷ [])
    (0 ∷ 0 ∷ 0 ∷ 0 ∷ 0 ∷ 0 ∷ 0 ∷ 0 ∷ 0 ∷ 0 ∷ 0 ∷ 0 ∷ 0 ∷ 0 ∷ [])
    (some 3 ∷ some 3 ∷ some 3 ∷ some 3 ∷ some 3 ∷ none ∷ none ∷ some 2 ∷ some 2 ∷ none ∷ none ∷ some 1 ∷ some 1 ∷
    none ∷ [])
    (0 ∷ 36 ∷ 0 ∷ 0 ∷ []) ∷
    []

pub tidy_cases-hold : map got tidy_cases ≡ map wanted tidy_cases
unfolding tidy_cases setup_answer entries_from replay_from event_of answer_by next_by moved_by step_by
    outranks refill queue pick invoked ran replied aborted readied
tidy_cases-hold = refl

-- A refused reply has no ready: while the server tidies, a reply's record of version 1 would not end that. No such log
-- comes to this (FirstVersion, never-tidying), so that what the records say is written out.
pub no-ready-after-refusal :
    map (λ (e : Entry). e.answer)
    (entries_from (one 5) fresh (known (invoke 0 none) ∷ known reply ∷ reply_ready ∷ known (run 1) ∷ []))
    ≡ 0 ∷ 0 ∷ 12 ∷ 0 ∷ []
unfolding entries_from answer_by next_by moved_by step_by outranks refill queue pick invoked ran replied readied
no-ready-after-refusal = refl
