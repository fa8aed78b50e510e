-- The bounds of demand 3 at other sizes than 1: what the formulas give, and histories that reach them.
-- Assumes nothing.
use Prim.Native.Nat.{ℕ, ◌+◌}
use mathlib.Core.Path.{◌≡◌, refl}
use mathlib.Core.Bool.{Bool, true, false, cond}
use mathlib.Core.List.{List, [], ◌∷◌, ◌++◌, map}
use lib.Dec.{eqb}
use Rattle.rules.specs.Setup.{Setup, setup_answer, span}
use Rattle.rules.specs.Rank.{outranks}
use Rattle.rules.specs.Queues.{refill, queue, pick}
use Rattle.rules.specs.Events.{Event, invoked, ran, replied, aborted, readied}
use Rattle.rules.specs.Step.{answer_by, moved_by, next_by, step_by}
use Rattle.rules.specs.Records.{Record, reply_code, event_of}
use Rattle.rules.specs.History.{struck, struck_in_room, owed}
use Rattle.rules.specs.Demands.{worst, worst_unstruck, reach, reach_unstruck}
use Rattle.rules.proofs.Table.{rt, be, given, tidied, invokes, runs, replies, aborts, readies, past, past2}

-- THE FORMULAS

-- m, K, L and W, and what (2 + 2mK)S, (1 + 2mK)S, 2L + 2mKS and L + 2mKS come to, with S for L + W
pub record Bound : Type 0 where
  pub size : ℕ
  pub clusters : ℕ
  pub cap : ℕ
  pub tidy : ℕ
  pub figures : List ℕ

abbrev pub bound_of : ℕ → ℕ → ℕ → ℕ → List ℕ → Bound
bound_of m K L W ns = record { size = m; clusters = K; cap = L; tidy = W; figures = ns }

abbrev pub figures_of : ℕ → ℕ → ℕ → ℕ → List ℕ
figures_of m K L S = worst m K S ∷ worst_unstruck m K S ∷ reach m K L S ∷ reach_unstruck m K L S ∷ []

abbrev pub bounds : List Bound
bounds =
    bound_of 1 1 10 0 (40 ∷ 30 ∷ 40 ∷ 30 ∷ []) ∷
    bound_of 2 1 10 0 (60 ∷ 50 ∷ 60 ∷ 50 ∷ []) ∷
    bound_of 1 3 10 0 (80 ∷ 70 ∷ 80 ∷ 70 ∷ []) ∷
    bound_of 2 4 5 0 (90 ∷ 85 ∷ 90 ∷ 85 ∷ []) ∷
    bound_of 8 8 65535 0 (8519550 ∷ 8454015 ∷ 8519550 ∷ 8454015 ∷ []) ∷
    bound_of 1 1 10 3 (52 ∷ 39 ∷ 46 ∷ 36 ∷ []) ∷
    bound_of 2 2 10 3 (130 ∷ 117 ∷ 124 ∷ 114 ∷ []) ∷
    bound_of 8 8 65535 65535 (17039100 ∷ 16908030 ∷ 16908030 ∷ 16842495 ∷ []) ∷
    []

pub bounds-hold : map (λ (t : Bound). figures_of t.size t.clusters t.cap (t.cap + t.tidy)) bounds
    ≡ map (λ (t : Bound). t.figures) bounds
bounds-hold = refl

-- REACHED

-- m = 2, K = 2, L = 10. Cluster 0 has clients 0 to 3, of which 2 is the one that waits: 0 and 1 outrank it, 3 does not.
-- Cluster 1 has client 4, and client 5 is best-effort.
abbrev pub two_by_two : Setup
two_by_two = given (2 ∷ 2 ∷ []) (rt 0 1 ∷ rt 0 2 ∷ rt 0 5 ∷ rt 0 8 ∷ rt 1 1 ∷ be 0 0 ∷ []) 10

pub two-accepted : setup_answer two_by_two ≡ 0
unfolding setup_answer
two-accepted = refl

-- Client 2 finds client 5 in service, client 4 queued, and its line taken by 0 and 3. Each turn of its line costs one
-- of cluster 1 too.
abbrev pub begun : List Record
begun =
    invokes 5 ∷ invokes 4 ∷ invokes 0 ∷ invokes 3 ∷ invokes 2 ∷ runs 10 ∷ replies ∷ runs 10 ∷ replies ∷ runs 10 ∷
    invokes 1 ∷ invokes 4 ∷ replies ∷ runs 10 ∷ replies ∷ runs 10 ∷ []

-- Nobody is aborted: client 2 follows client 1 in the line.
abbrev pub quiet : List Record
quiet =
    begun ++ (invokes 4 ∷ replies ∷ runs 10 ∷ replies ∷ runs 10 ∷ invokes 4 ∷ replies ∷ runs 10 ∷ replies ∷ runs 10 ∷
    [])

-- Client 0 is back and takes the free place of the line, so that 2 is still in the room when client 1 is aborted in
-- service.
abbrev pub hit : List Record
hit =
    begun ++ (invokes 0 ∷ replies ∷ invokes 4 ∷ aborts 1 ∷ runs 10 ∷ replies ∷ runs 10 ∷ replies ∷ runs 10 ∷ invokes 4 ∷
    replies ∷ runs 10 ∷ replies ∷ runs 10 ∷ [])

pub record Reached : Type 0 where
  pub owed : ℕ
  pub struck : Bool
  pub in_room : Bool

abbrev pub reached_by : Setup → List Event → Reached
reached_by u h = record { owed = owed u 2 h; struck = struck u 2 h; in_room = struck_in_room u 2 h }

-- (1 + 2mK)L without such an abort ..
pub quiet-reaches : reached_by two_by_two (past two_by_two quiet)
    ≡ record { owed = worst_unstruck 2 2 10; struck = false; in_room = false }
unfolding event_of answer_by next_by moved_by step_by outranks refill queue pick invoked ran replied aborted readied
quiet-reaches = refl

-- .. and (2 + 2mK)L with it
pub hit-reaches : reached_by two_by_two (past two_by_two hit) ≡ record { owed = worst 2 2 10; struck = true; in_room = true }
unfolding event_of answer_by next_by moved_by step_by outranks refill queue pick invoked ran replied aborted readied
hit-reaches = refl

-- WITH TIDYING

-- W = 3
abbrev pub tidy_two_by_two : Setup
tidy_two_by_two = tidied (2 ∷ 2 ∷ []) (rt 0 1 ∷ rt 0 2 ∷ rt 0 5 ∷ rt 0 8 ∷ rt 1 1 ∷ be 0 0 ∷ []) 10 3

-- S is L + W
pub span-is : span tidy_two_by_two ≡ 13
span-is = refl

-- the same records, and after each reply the longest tidying
abbrev pub tidily : List Record → List Record
tidily [] = []
tidily (r ∷ rs) = cond (eqb r.code reply_code) (r ∷ runs 3 ∷ readies ∷ tidily rs) (r ∷ tidily rs)

-- L + 2mKS without such an abort, 3 less than (1 + 2mK)S ..
pub tidy-quiet-reaches : reached_by tidy_two_by_two (past2 tidy_two_by_two (tidily quiet))
    ≡ record { owed = reach_unstruck 2 2 10 13; struck = false; in_room = false }
unfolding event_of answer_by next_by moved_by step_by outranks refill queue pick invoked ran replied aborted readied
tidy-quiet-reaches = refl

-- .. and 2L + 2mKS with it, 6 less than (2 + 2mK)S
pub tidy-hit-reaches : reached_by tidy_two_by_two (past2 tidy_two_by_two (tidily hit))
    ≡ record { owed = reach 2 2 10 13; struck = true; in_room = true }
unfolding event_of answer_by next_by moved_by step_by outranks refill queue pick invoked ran replied aborted readied
tidy-hit-reaches = refl
