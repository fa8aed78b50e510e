-- Wrong gates told apart by their answers: refusals and their order, the cap, and gates that only nod.
-- Assumes nothing.
use mathlib.Core.Path.{◌≡◌, refl}
use mathlib.Core.List.{List, [], ◌∷◌, map}
use mathlib.Core.Option.{some, none}
use Rattle.rules.specs.Setup.{setup_answer}
use Rattle.rules.specs.Rank.{outranks}
use Rattle.rules.specs.Queues.{refill, queue, pick}
use Rattle.rules.specs.Events.{invoked, ran, replied, aborted, readied}
use Rattle.rules.specs.Step.{answer_by, moved_by, next_by, step_by}
use Rattle.rules.specs.Records.{event_of}
use Rattle.rules.specs.Replay.{replay_from, entries_from}
use Rattle.rules.proofs.Table.{rt, be, given, raw, invokes, runs, replies, aborts}
use Rattle.rules.proofs.Table.{Case, case_of, got, wanted}

-- Each case stands under the wrong gates that it tells from the right one: a setup and its records, then the right
-- answers, clients in service and charges.
unfoldable pub refusal_cases : List Case
refusal_cases =
    -- refuses everything, with 12
    -- answers 0 to everything, same state
    case_of (given (2 ∷ []) (rt 0 1 ∷ []) 10) (invokes 2 ∷ []) (10 ∷ []) (none ∷ []) (0 ∷ []) ∷
    -- answers right for a state that never changes
    case_of (given (2 ∷ 2 ∷ []) (rt 0 1 ∷ []) 10) (invokes 0 ∷ []) (0 ∷ []) (some 0 ∷ []) (0 ∷ []) ∷
    -- handles the first event, then answers 0, same state
    -- a reply at 0 units served is refused, with 12
    case_of (given (2 ∷ 2 ∷ []) (rt 0 1 ∷ []) 10) (invokes 0 ∷ replies ∷ [])
    (0 ∷ 0 ∷ []) (some 0 ∷ none ∷ []) (0 ∷ []) ∷
    -- answers 0 instead of 10 for a client past N
    -- 16 before 10: rows past N count as best-effort
    case_of (given (2 ∷ []) (rt 0 1 ∷ []) 10) (aborts 4 ∷ []) (10 ∷ []) (none ∷ []) (0 ∷ []) ∷
    -- an invoke of a spent client is accepted
    case_of (given (2 ∷ 2 ∷ []) (rt 0 1 ∷ []) 10) (invokes 0 ∷ aborts 0 ∷ invokes 0 ∷ [])
    (0 ∷ 0 ∷ 11 ∷ []) (some 0 ∷ some 0 ∷ some 0 ∷ []) (0 ∷ []) ∷
    -- an invoke of a best-effort client in service is accepted
    case_of (given (2 ∷ 2 ∷ []) (be 0 1 ∷ []) 10) (invokes 0 ∷ invokes 0 ∷ [])
    (0 ∷ 11 ∷ []) (some 0 ∷ some 0 ∷ []) (0 ∷ []) ∷
    -- 11 isn't given in the background queue
    case_of (given (1 ∷ 2 ∷ []) (be 0 2 ∷ rt 1 3 ∷ []) 10) (invokes 1 ∷ invokes 0 ∷ invokes 0 ∷ [])
    (0 ∷ 0 ∷ 11 ∷ []) (some 1 ∷ some 1 ∷ some 1 ∷ []) (0 ∷ 0 ∷ []) ∷
    -- 11 isn't given in the line
    case_of (given (2 ∷ []) (rt 0 1 ∷ rt 0 2 ∷ []) 10) (invokes 0 ∷ invokes 1 ∷ invokes 1 ∷ [])
    (0 ∷ 0 ∷ 11 ∷ []) (some 0 ∷ some 0 ∷ some 0 ∷ []) (0 ∷ 0 ∷ []) ∷
    -- 11 isn't given in the waiting room
    case_of (given (1 ∷ []) (rt 0 1 ∷ rt 0 2 ∷ []) 10) (invokes 0 ∷ invokes 1 ∷ invokes 1 ∷ [])
    (0 ∷ 0 ∷ 11 ∷ []) (some 0 ∷ some 0 ∷ some 0 ∷ []) (0 ∷ 0 ∷ []) ∷
    -- 12 before 13
    case_of (given (2 ∷ 2 ∷ []) (be 0 1 ∷ []) 10) (runs 0 ∷ []) (13 ∷ []) (none ∷ []) (0 ∷ []) ∷
    -- 14 before 12 and 13
    case_of (given (2 ∷ 1 ∷ []) (rt 0 1 ∷ []) 10) (runs 11 ∷ []) (12 ∷ []) (none ∷ []) (0 ∷ []) ∷
    -- 14 already at L
    case_of (given (1 ∷ 2 ∷ []) (be 0 2 ∷ []) 10) (invokes 0 ∷ runs 10 ∷ [])
    (0 ∷ 0 ∷ []) (some 0 ∷ some 0 ∷ []) (0 ∷ []) ∷
    -- 14 only past L + 1
    case_of (given (2 ∷ 2 ∷ []) (rt 0 1 ∷ []) 10) (invokes 0 ∷ runs 11 ∷ [])
    (0 ∷ 14 ∷ []) (some 0 ∷ some 0 ∷ []) (0 ∷ []) ∷
    -- 14 looks at the run's units alone
    case_of (given (2 ∷ 3 ∷ 2 ∷ []) (rt 2 3 ∷ []) 10) (invokes 0 ∷ runs 10 ∷ runs 10 ∷ [])
    (0 ∷ 0 ∷ 14 ∷ []) (some 0 ∷ some 0 ∷ some 0 ∷ []) (10 ∷ []) ∷
    -- units served don't become 0 on pick
    case_of (given (1 ∷ 1 ∷ []) (rt 0 3 ∷ []) 10) (invokes 0 ∷ runs 10 ∷ replies ∷ invokes 0 ∷ runs 1 ∷ [])
    (0 ∷ 0 ∷ 0 ∷ 0 ∷ 0 ∷ []) (some 0 ∷ some 0 ∷ none ∷ some 0 ∷ some 0 ∷ []) (1 ∷ []) ∷
    -- units served become 0 when the request in service is aborted
    case_of (given (2 ∷ []) (rt 0 1 ∷ []) 10) (invokes 0 ∷ runs 10 ∷ aborts 0 ∷ runs 1 ∷ [])
    (0 ∷ 0 ∷ 0 ∷ 14 ∷ []) (some 0 ∷ some 0 ∷ some 0 ∷ some 0 ∷ []) (10 ∷ []) ∷
    -- an abort of a client that doesn't wait is accepted: before its first wait, and after one
    case_of (given (1 ∷ []) (rt 0 1 ∷ []) 10) (aborts 0 ∷ invokes 0 ∷ replies ∷ aborts 0 ∷ [])
    (15 ∷ 0 ∷ 0 ∷ 15 ∷ []) (none ∷ some 0 ∷ none ∷ none ∷ []) (0 ∷ []) ∷
    -- 15 before 16
    case_of (given (1 ∷ []) (be 0 3 ∷ []) 10) (aborts 0 ∷ []) (16 ∷ []) (none ∷ []) (0 ∷ []) ∷
    -- an abort of a best-effort client in its queue is accepted
    case_of (given (1 ∷ 2 ∷ []) (be 0 3 ∷ rt 1 1 ∷ []) 10) (invokes 1 ∷ invokes 0 ∷ aborts 0 ∷ [])
    (0 ∷ 0 ∷ 16 ∷ []) (some 1 ∷ some 1 ∷ some 1 ∷ []) (0 ∷ 0 ∷ []) ∷
    -- 15 instead of 17 for a spent client
    case_of (given (2 ∷ []) (rt 0 3 ∷ []) 10) (invokes 0 ∷ aborts 0 ∷ aborts 0 ∷ [])
    (0 ∷ 0 ∷ 17 ∷ []) (some 0 ∷ some 0 ∷ some 0 ∷ []) (0 ∷ []) ∷
    -- a reply whose argument isn't 0 is accepted
    case_of (given (2 ∷ 2 ∷ []) (be 0 1 ∷ []) 10) (raw 3 1 ∷ []) (18 ∷ []) (none ∷ []) (0 ∷ []) ∷
    -- an unknown code is answered with 0
    case_of (given (3 ∷ 2 ∷ 3 ∷ []) (rt 0 1 ∷ []) 10) (raw 7 0 ∷ []) (18 ∷ []) (none ∷ []) (0 ∷ []) ∷
    []

pub refusal_cases-hold : map got refusal_cases ≡ map wanted refusal_cases
unfolding refusal_cases setup_answer entries_from replay_from event_of answer_by next_by moved_by step_by
    outranks refill queue pick invoked ran replied aborted readied
refusal_cases-hold = refl
