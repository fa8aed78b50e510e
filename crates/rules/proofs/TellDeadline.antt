-- Wrong gates told apart by deadlines, in logs of version 3.
-- Assumes nothing.
use mathlib.Core.Path.{◌≡◌, refl}
use mathlib.Core.List.{List, [], ◌∷◌, map}
use mathlib.Core.Option.{some, none}
use Rattle.rules.specs.Setup.{setup_answer}
use Rattle.rules.specs.Rank.{outranks}
use Rattle.rules.specs.Queues.{refill, queue, pick}
use Rattle.rules.specs.Events.{invoked, ran, replied, aborted, readied}
use Rattle.rules.specs.Step.{answer_by, moved_by, next_by, step_by}
use Rattle.rules.specs.Records.{event_of}
use Rattle.rules.specs.Replay.{replay_from, entries_from}
use Rattle.rules.proofs.Table.{rt, be, tidied, due, raw_by, invokes, invokes_by, runs, replies, aborts, readies}
use Rattle.rules.proofs.Table.{Case, case3, got, wanted}

-- A setup and its records, then the right answers, clients in service and charges.
unfoldable pub deadline_cases : List Case
deadline_cases =
    -- under deadlines the rows' priorities still rank
    case3 (due (1 ∷ []) (rt 0 0 ∷ rt 0 1 ∷ rt 0 2 ∷ rt 0 3 ∷ []) 10 5)
    (invokes_by 0 1 ∷ invokes_by 1 40 ∷ invokes_by 2 30 ∷ invokes_by 3 20 ∷ replies ∷ runs 5 ∷ readies ∷ replies ∷
    runs 5 ∷ readies ∷ replies ∷ [])
    (0 ∷ 0 ∷ 0 ∷ 0 ∷ 0 ∷ 0 ∷ 0 ∷ 0 ∷ 0 ∷ 0 ∷ 0 ∷ [])
    (some 0 ∷ some 0 ∷ some 0 ∷ some 0 ∷ none ∷ none ∷ some 3 ∷ none ∷ none ∷ some 2 ∷ none ∷ [])
    (0 ∷ 0 ∷ 5 ∷ 5 ∷ []) ∷
    -- equal deadlines go by arrival
    case3 (due (1 ∷ []) (rt 0 3 ∷ rt 0 2 ∷ rt 0 1 ∷ rt 0 0 ∷ []) 10 5)
    (invokes_by 0 9 ∷ invokes_by 3 9 ∷ invokes_by 2 9 ∷ invokes_by 1 9 ∷ replies ∷ runs 5 ∷ readies ∷ replies ∷ runs 5 ∷
    readies ∷ replies ∷ [])
    (0 ∷ 0 ∷ 0 ∷ 0 ∷ 0 ∷ 0 ∷ 0 ∷ 0 ∷ 0 ∷ 0 ∷ 0 ∷ [])
    (some 0 ∷ some 0 ∷ some 0 ∷ some 0 ∷ none ∷ none ∷ some 1 ∷ none ∷ none ∷ some 2 ∷ none ∷ [])
    (0 ∷ 5 ∷ 5 ∷ 0 ∷ []) ∷
    -- a deadline of 0 is none, and comes last
    case3 (due (1 ∷ []) (rt 0 0 ∷ rt 0 0 ∷ rt 0 0 ∷ []) 10 5)
    (invokes_by 0 5 ∷ invokes_by 1 1 ∷ invokes_by 2 0 ∷ replies ∷ runs 5 ∷ readies ∷ replies ∷ readies ∷ [])
    (0 ∷ 0 ∷ 0 ∷ 0 ∷ 0 ∷ 0 ∷ 0 ∷ 0 ∷ [])
    (some 0 ∷ some 0 ∷ some 0 ∷ none ∷ none ∷ some 2 ∷ none ∷ some 1 ∷ [])
    (0 ∷ 0 ∷ 5 ∷ []) ∷
    -- the highest bit is a sign
    case3 (due (1 ∷ []) (rt 0 0 ∷ rt 0 0 ∷ rt 0 0 ∷ []) 10 5)
    (invokes_by 0 5 ∷ invokes_by 1 2147483648 ∷ invokes_by 2 2147483647 ∷ replies ∷ runs 5 ∷ readies ∷ replies ∷
    readies ∷ [])
    (0 ∷ 0 ∷ 0 ∷ 0 ∷ 0 ∷ 0 ∷ 0 ∷ 0 ∷ [])
    (some 0 ∷ some 0 ∷ some 0 ∷ none ∷ none ∷ some 2 ∷ none ∷ some 1 ∷ [])
    (0 ∷ 0 ∷ 5 ∷ []) ∷
    -- the charge goes by priorities
    case3 (due (2 ∷ []) (rt 0 0 ∷ rt 0 0 ∷ rt 0 0 ∷ rt 0 0 ∷ []) 10 5)
    (invokes_by 0 30 ∷ invokes_by 1 20 ∷ invokes_by 2 10 ∷ invokes_by 3 20 ∷ runs 4 ∷ replies ∷ runs 3 ∷ readies ∷
    runs 2 ∷ [])
    (0 ∷ 0 ∷ 0 ∷ 0 ∷ 0 ∷ 0 ∷ 0 ∷ 0 ∷ 0 ∷ [])
    (some 0 ∷ some 0 ∷ some 0 ∷ some 0 ∷ some 0 ∷ none ∷ none ∷ some 1 ∷ some 1 ∷ [])
    (0 ∷ 9 ∷ 9 ∷ 0 ∷ []) ∷
    -- a client that comes back keeps its deadline
    case3 (due (2 ∷ []) (rt 0 0 ∷ rt 0 0 ∷ rt 0 0 ∷ rt 0 0 ∷ []) 10 5)
    (invokes_by 0 1 ∷ invokes_by 1 2 ∷ invokes_by 2 4 ∷ invokes_by 3 5 ∷ runs 3 ∷ replies ∷ invokes_by 0 9 ∷ runs 2 ∷
    readies ∷ runs 4 ∷ replies ∷ invokes_by 1 3 ∷ runs 1 ∷ readies ∷ runs 5 ∷ [])
    (0 ∷ 0 ∷ 0 ∷ 0 ∷ 0 ∷ 0 ∷ 0 ∷ 0 ∷ 0 ∷ 0 ∷ 0 ∷ 0 ∷ 0 ∷ 0 ∷ 0 ∷ [])
    (some 0 ∷ some 0 ∷ some 0 ∷ some 0 ∷ some 0 ∷ none ∷ none ∷ none ∷ some 1 ∷ some 1 ∷ none ∷ none ∷ none ∷ some 2
    ∷ some 2 ∷ [])
    (0 ∷ 6 ∷ 12 ∷ 0 ∷ []) ∷
    -- the deadline outlives an abort
    case3 (due (1 ∷ []) (rt 0 0 ∷ rt 0 0 ∷ rt 0 0 ∷ []) 10 5)
    (invokes_by 0 1 ∷ invokes_by 1 3 ∷ invokes_by 2 5 ∷ aborts 2 ∷ invokes_by 2 2 ∷ runs 4 ∷ replies ∷ runs 2 ∷
    readies ∷ [])
    (0 ∷ 0 ∷ 0 ∷ 0 ∷ 0 ∷ 0 ∷ 0 ∷ 0 ∷ 0 ∷ [])
    (some 0 ∷ some 0 ∷ some 0 ∷ some 0 ∷ some 0 ∷ some 0 ∷ none ∷ none ∷ some 2 ∷ [])
    (4 ∷ 0 ∷ 2 ∷ []) ∷
    -- the deadline outlives a spent client
    case3 (due (1 ∷ []) (rt 0 0 ∷ rt 0 0 ∷ rt 0 0 ∷ []) 10 5)
    (invokes_by 0 1 ∷ aborts 0 ∷ invokes_by 1 5 ∷ replies ∷ invokes_by 0 4 ∷ invokes_by 2 6 ∷ runs 5 ∷ readies ∷
    replies ∷ readies ∷ replies ∷ readies ∷ [])
    (0 ∷ 0 ∷ 0 ∷ 0 ∷ 0 ∷ 0 ∷ 0 ∷ 0 ∷ 0 ∷ 0 ∷ 0 ∷ 0 ∷ [])
    (some 0 ∷ some 0 ∷ some 0 ∷ none ∷ none ∷ none ∷ none ∷ some 1 ∷ none ∷ some 0 ∷ none ∷ some 2 ∷ [])
    (5 ∷ 0 ∷ 0 ∷ []) ∷
    -- an abort in service lets another than the smallest deadline into the line
    case3 (due (1 ∷ []) (rt 0 0 ∷ rt 0 0 ∷ rt 0 1 ∷ []) 10 5)
    (invokes_by 0 1 ∷ invokes_by 1 9 ∷ invokes_by 2 5 ∷ aborts 0 ∷ replies ∷ readies ∷ replies ∷ readies ∷ [])
    (0 ∷ 0 ∷ 0 ∷ 0 ∷ 0 ∷ 0 ∷ 0 ∷ 0 ∷ [])
    (some 0 ∷ some 0 ∷ some 0 ∷ some 0 ∷ none ∷ some 2 ∷ none ∷ some 1 ∷ [])
    (0 ∷ 0 ∷ 0 ∷ []) ∷
    -- .. an abort of a front in the global queue does
    case3 (due (1 ∷ 1 ∷ []) (rt 0 0 ∷ rt 0 0 ∷ rt 0 1 ∷ rt 1 0 ∷ []) 10 5)
    (invokes_by 3 1 ∷ invokes_by 0 1 ∷ invokes_by 1 9 ∷ invokes_by 2 5 ∷ aborts 0 ∷ replies ∷ readies ∷ replies ∷
    readies ∷ [])
    (0 ∷ 0 ∷ 0 ∷ 0 ∷ 0 ∷ 0 ∷ 0 ∷ 0 ∷ 0 ∷ [])
    (some 3 ∷ some 3 ∷ some 3 ∷ some 3 ∷ some 3 ∷ none ∷ some 2 ∷ none ∷ some 1 ∷ [])
    (0 ∷ 0 ∷ 0 ∷ 0 ∷ []) ∷
    -- .. or an abort behind the front
    case3 (due (2 ∷ []) (rt 0 0 ∷ rt 0 0 ∷ rt 0 0 ∷ rt 0 1 ∷ []) 10 5)
    (invokes_by 0 1 ∷ invokes_by 1 2 ∷ invokes_by 2 9 ∷ invokes_by 3 5 ∷ aborts 1 ∷ replies ∷ readies ∷ replies ∷
    readies ∷ [])
    (0 ∷ 0 ∷ 0 ∷ 0 ∷ 0 ∷ 0 ∷ 0 ∷ 0 ∷ 0 ∷ [])
    (some 0 ∷ some 0 ∷ some 0 ∷ some 0 ∷ some 0 ∷ none ∷ some 3 ∷ none ∷ some 2 ∷ [])
    (0 ∷ 0 ∷ 0 ∷ 0 ∷ []) ∷
    -- a refused invoke changes the deadline
    case3 (due (1 ∷ []) (rt 0 0 ∷ rt 0 0 ∷ rt 0 0 ∷ []) 10 5)
    (invokes_by 0 1 ∷ invokes_by 1 5 ∷ invokes_by 2 3 ∷ invokes_by 1 0 ∷ invokes_by 1 1 ∷ replies ∷ runs 5 ∷ readies ∷ [])
    (0 ∷ 0 ∷ 0 ∷ 11 ∷ 11 ∷ 0 ∷ 0 ∷ 0 ∷ [])
    (some 0 ∷ some 0 ∷ some 0 ∷ some 0 ∷ some 0 ∷ none ∷ none ∷ some 2 ∷ [])
    (0 ∷ 0 ∷ 5 ∷ []) ∷
    -- a best-effort client's deadline ranks it
    case3 (due (1 ∷ []) (rt 0 0 ∷ be 0 0 ∷ be 0 0 ∷ []) 10 5)
    (invokes_by 0 5 ∷ invokes_by 1 9 ∷ invokes_by 2 1 ∷ replies ∷ readies ∷ replies ∷ readies ∷ replies ∷ readies ∷ [])
    (0 ∷ 0 ∷ 0 ∷ 0 ∷ 0 ∷ 0 ∷ 0 ∷ 0 ∷ 0 ∷ [])
    (some 0 ∷ some 0 ∷ some 0 ∷ none ∷ some 1 ∷ none ∷ some 2 ∷ none ∷ none ∷ [])
    (0 ∷ 0 ∷ 0 ∷ []) ∷
    -- a run with a deadline is accepted, or 18 after 12 to 14
    case3 (due (1 ∷ []) (rt 0 0 ∷ rt 0 0 ∷ []) 10 5)
    (raw_by 2 1 1 ∷ invokes_by 0 1 ∷ raw_by 2 1 1 ∷ raw_by 2 0 1 ∷ runs 1 ∷ raw_by 2 1 4294967295 ∷ replies ∷
    raw_by 2 1 16777216 ∷ runs 1 ∷ readies ∷ [])
    (18 ∷ 0 ∷ 18 ∷ 18 ∷ 0 ∷ 18 ∷ 0 ∷ 18 ∷ 0 ∷ 0 ∷ [])
    (none ∷ some 0 ∷ some 0 ∷ some 0 ∷ some 0 ∷ some 0 ∷ none ∷ none ∷ none ∷ none ∷ [])
    (1 ∷ 0 ∷ []) ∷
    -- a reply with a deadline is accepted, or 18 after 12
    case3 (due (1 ∷ []) (rt 0 0 ∷ rt 0 0 ∷ []) 10 5)
    (raw_by 3 0 1 ∷ invokes_by 0 1 ∷ raw_by 3 0 1 ∷ raw_by 3 0 256 ∷ replies ∷ raw_by 3 0 1 ∷ readies ∷ [])
    (18 ∷ 0 ∷ 18 ∷ 18 ∷ 0 ∷ 18 ∷ 0 ∷ [])
    (none ∷ some 0 ∷ some 0 ∷ some 0 ∷ none ∷ none ∷ none ∷ [])
    (0 ∷ 0 ∷ []) ∷
    -- an abort with a deadline is accepted, or 18 after 10, 15 and 16
    case3 (due (1 ∷ []) (rt 0 0 ∷ be 0 0 ∷ []) 10 5)
    (raw_by 4 0 1 ∷ invokes_by 0 1 ∷ raw_by 4 0 1 ∷ raw_by 4 0 65536 ∷ raw_by 4 1 1 ∷ raw_by 4 9 1 ∷ aborts 0 ∷ raw_by 4 0 1 ∷
    aborts 0 ∷ [])
    (18 ∷ 0 ∷ 18 ∷ 18 ∷ 18 ∷ 18 ∷ 0 ∷ 18 ∷ 17 ∷ [])
    (none ∷ some 0 ∷ some 0 ∷ some 0 ∷ some 0 ∷ some 0 ∷ some 0 ∷ some 0 ∷ some 0 ∷ [])
    (0 ∷ 0 ∷ []) ∷
    -- a ready with a deadline is accepted, or 18 after 26
    case3 (due (1 ∷ []) (rt 0 0 ∷ rt 0 0 ∷ []) 10 5)
    (raw_by 5 0 1 ∷ invokes_by 0 1 ∷ raw_by 5 0 1 ∷ replies ∷ raw_by 5 0 1 ∷ raw_by 5 0 16777216 ∷ readies ∷ raw_by 5 0 1 ∷
    [])
    (18 ∷ 0 ∷ 18 ∷ 0 ∷ 18 ∷ 18 ∷ 0 ∷ 18 ∷ [])
    (none ∷ some 0 ∷ some 0 ∷ none ∷ none ∷ none ∷ none ∷ none ∷ [])
    (0 ∷ 0 ∷ []) ∷
    -- under priorities an invoke with a deadline is accepted
    case3 (tidied (1 ∷ []) (rt 0 1 ∷ rt 0 2 ∷ be 0 0 ∷ []) 10 5)
    (invokes_by 0 1 ∷ invokes_by 0 4294967295 ∷ invokes_by 0 256 ∷ invokes 0 ∷ invokes_by 1 2 ∷ invokes_by 2 1 ∷
    invokes 1 ∷ invokes 2 ∷ replies ∷ readies ∷ [])
    (18 ∷ 18 ∷ 18 ∷ 0 ∷ 18 ∷ 18 ∷ 0 ∷ 0 ∷ 0 ∷ 0 ∷ [])
    (none ∷ none ∷ none ∷ some 0 ∷ some 0 ∷ some 0 ∷ some 0 ∷ some 0 ∷ none ∷ some 1 ∷ [])
    (0 ∷ 0 ∷ 0 ∷ []) ∷
    -- 10 before 18 for a deadline under priorities
    case3 (tidied (1 ∷ []) (rt 0 1 ∷ []) 10 5)
    (invokes_by 1 1 ∷ invokes 1 ∷ invokes_by 65535 1 ∷ [])
    (18 ∷ 10 ∷ 18 ∷ [])
    (none ∷ none ∷ none ∷ [])
    (0 ∷ []) ∷
    -- under priorities the deadlines, all 0, rank
    case3 (tidied (1 ∷ []) (rt 0 4 ∷ rt 0 3 ∷ rt 0 2 ∷ rt 0 1 ∷ []) 10 5)
    (invokes 0 ∷ invokes 1 ∷ invokes 2 ∷ invokes 3 ∷ replies ∷ runs 5 ∷ readies ∷ replies ∷ readies ∷ replies ∷
    readies ∷ [])
    (0 ∷ 0 ∷ 0 ∷ 0 ∷ 0 ∷ 0 ∷ 0 ∷ 0 ∷ 0 ∷ 0 ∷ 0 ∷ [])
    (some 0 ∷ some 0 ∷ some 0 ∷ some 0 ∷ none ∷ none ∷ some 3 ∷ none ∷ some 2 ∷ none ∷ some 1 ∷ [])
    (0 ∷ 0 ∷ 0 ∷ 5 ∷ []) ∷
    -- the largest charge, 2L + 2mKS = 46, under deadlines
    case3 (due (1 ∷ []) (rt 0 1 ∷ rt 0 2 ∷ rt 0 3 ∷ rt 0 0 ∷ []) 10 3)
    (invokes_by 3 0 ∷ aborts 3 ∷ invokes_by 2 3 ∷ invokes_by 1 2 ∷ runs 10 ∷ replies ∷ runs 3 ∷ readies ∷ runs 10 ∷
    invokes_by 0 1 ∷ replies ∷ runs 3 ∷ readies ∷ aborts 0 ∷ runs 10 ∷ replies ∷ runs 3 ∷ readies ∷ runs 10 ∷
    replies ∷ [])
    (0 ∷ 0 ∷ 0 ∷ 0 ∷ 0 ∷ 0 ∷ 0 ∷ 0 ∷ 0 ∷ 0 ∷ 0 ∷ 0 ∷ 0 ∷ 0 ∷ 0 ∷ 0 ∷ 0 ∷ 0 ∷ 0 ∷ 0 ∷ [])
    (some 3 ∷ some 3 ∷ some 3 ∷ some 3 ∷ some 3 ∷ none ∷ none ∷ some 2 ∷ some 2 ∷ some 2 ∷ none ∷ none ∷ some 0 ∷
    some 0 ∷ some 0 ∷ none ∷ none ∷ some 1 ∷ some 1 ∷ none ∷ [])
    (3 ∷ 46 ∷ 0 ∷ 0 ∷ []) ∷
    []

pub deadline_cases-hold : map got deadline_cases ≡ map wanted deadline_cases
unfolding deadline_cases setup_answer entries_from replay_from event_of answer_by moved_by next_by step_by
    outranks refill queue pick invoked ran replied aborted readied
deadline_cases-hold = refl
