-- What is proved of the rules, for every accepted setup and every history of events, refused ones among them.
-- Assumes nothing.
use Prim.Native.Nat.{ℕ, ◌+◌, ◌≤◌, ◌<◌}
use mathlib.Core.Path.{◌≡◌}
use mathlib.Core.Bool.{Bool, true, false}
use mathlib.Core.List.{List, [], ◌∷◌, ◌++◌, map, reverse_aux}
use mathlib.Core.Option.{Option}
use native.Mathlib.Omega.{arith}
use lib.IntN.{nat_abs}
use lib.ListN.{get_or}
use Rattle.rules.specs.Limits.{max_charge}
use Rattle.rules.specs.Refusals.{accepted, unknown_record, unsound}
use Rattle.rules.specs.Setup.{Setup, Accepted, real_time, trimmed}
use Rattle.rules.specs.State.{State}
use Rattle.rules.specs.Sound.{Sound}
use Rattle.rules.specs.Rank.{outranks}
use Rattle.rules.specs.Queues.{waits, pick}
use Rattle.rules.specs.Events.{Event, invoke, reply}
use Rattle.rules.specs.Step.{fit_form, answer_by, answer, next, Ranks, own_ranks}
use Rattle.rules.specs.Records.{Record, Heard, known, reply_ready, unknown, heard_of, answer_of, step_of}
use Rattle.rules.specs.Replay.{replay_from}
use Rattle.rules.specs.History.{after, said, owed, waiting}
use Rattle.rules.specs.Demands.{BoundedBy, Bounded, BoundedUnstruckInRoom, BoundedUnstruck}
use Rattle.rules.specs.Demands.{BoundedAsAsked, BoundedUnstruckAsAsked, Within}
use Rattle.rules.specs.Quote.{Order, budget_of, accepted_quote, quote, Fits}
use Rattle.rules.specs.Budgets.{BoundedInAll, Use, Keeps, charged_for}
use Rattle.rules.specs.Traces.{Traced, Part, agrees, differs, traced, trace_verdict, Ruled, FirstDiffers}
use Rattle.rules.proofs.Tests.{by-test}
use Rattle.rules.proofs.Ranking.{Ranking, by-priority, by-deadline, ranking-of}
use Rattle.rules.proofs.ByNumber.{own-order}
use Rattle.rules.proofs.Dated.{fixed-deadline}
use Rattle.rules.proofs.Setups.{trimmed-is, trimmed-accepted}
use Rattle.rules.proofs.Charge.{charge-is-owed}
use Rattle.rules.proofs.Steps.{step-sound}
use Rattle.rules.proofs.Reached.{own-reached, reached-sound}
use Rattle.rules.proofs.Limit.{never-unsound}
use Rattle.rules.proofs.Struck.{unstruck-in-room}
use Rattle.rules.proofs.Bounded.{bounded-by, bounded-unstruck-by}
use Rattle.rules.proofs.Said.{record-keeps, refused-record}
use Rattle.rules.proofs.Replays.{replay-said}
use Rattle.rules.proofs.FirstVersion.{Settled, reply-picks, never-tidying}
use Rattle.rules.proofs.Waiting.{waiting-waits}
use Rattle.rules.proofs.Budgets.{covers}
use Rattle.rules.proofs.Traces.{accepted-ruled, ruled-accepted, differs-first, charge-there}
use Rattle.rules.proofs.Quotes.{accepted-fits, fits-quoted, budget-covers}

-- A refused record leaves the state as it was.
pub refused-same : (u : Setup) (s : State) (x : Heard) → (answer_of u s x ≡ accepted → ⊥) → step_of u s x ≡ s
refused-same = refused-record

-- A log read forwards comes to the state after the events that its records say.
pub replay-after : (u : Setup) (xs past : List Heard)
    → replay_from u (after u (said u past)) xs ≡ after u (said u (reverse_aux xs past))
replay-after = replay-said

-- The stored charge is the sum over the history.
pub stored-is-sum : (u : Setup) (c : ℕ) (h : List Event) → (after u h).charge c ≡ owed u c h
stored-is-sum u = charge-is-owed u (own_ranks u)

-- Every reached state is sound.
pub every-state-sound : (u : Setup) → Accepted u → (h : List Event) → Sound (trimmed u) (after (trimmed u) h)
every-state-sound u a h =
    reached-sound (trimmed u) (trimmed-accepted u a) (trimmed-is u) h

-- From any sound state a record, accepted or refused, leaves a sound state.
pub sound-stays : (u : Setup) (s : State) (x : Heard) → Sound u s → Sound u (step_of u s x)
sound-stays u = record-keeps u (Sound u) (step-sound u)

-- LOGS OF VERSION 1

-- An accepted reply and its pick are one step, as document 01 has it ..
pub first-version-reply : (u : Setup) (s : State) → answer u s reply ≡ accepted
    → step_of u s reply_ready ≡ pick (next u s reply)
first-version-reply = reply-picks

-- .. and between two records the server never tidies, so that W bounds no run.
pub first-version-settled : (u : Setup) (timed : Bool) (rs : List Record)
    → Settled (after u (said u (map (heard_of 1 timed) rs)))
first-version-settled = never-tidying

-- DEMAND 3

-- One argument for any ranks that are a strict total order at each event, and fixed for a client during its own wait
-- (`Ranking`): at most 2L + 2mKS.
pub bounded-by-any : (u : Setup) → Accepted u → (ranks : Ranks) → Ranking u ranks → BoundedBy u ranks
bounded-by-any = bounded-by

-- So it is by priorities ..
pub bounded-by-priority : (u : Setup) → Accepted u → u.timed ≡ false → Bounded u
bounded-by-priority u a t = bounded-by u a (own_ranks u) (by-priority u t)

-- .. and by deadlines,
pub bounded-by-deadline : (u : Setup) → Accepted u → u.timed ≡ true → Bounded u
bounded-by-deadline u a t = bounded-by u a (own_ranks u) (by-deadline u a t)

-- and so for every setup.
pub bounded : (u : Setup) → Accepted u → Bounded u
bounded u a = by-test u.timed (bounded-by-deadline u a) (bounded-by-priority u a)

-- Without an abort of its own cluster's request in service while it is in the waiting room, at most L + 2mKS ..
pub bounded-unstruck-in-room : (u : Setup) → Accepted u → BoundedUnstruckInRoom u
bounded-unstruck-in-room u a = bounded-unstruck-by u a (own_ranks u) (ranking-of u a)

-- .. and so without one during its wait.
pub bounded-unstruck : (u : Setup) → Accepted u → BoundedUnstruck u
bounded-unstruck u a h c r n = bounded-unstruck-in-room u a h c r (unstruck-in-room u c h n)

-- The figures that are asked for: at most (2 + 2mK)S ..
pub bounded-as-asked : (u : Setup) → Accepted u → BoundedAsAsked u
bounded-as-asked u a h c r = omega (arith, bounded u a h c r)

-- .. and (1 + 2mK)S without such an abort.
pub bounded-unstruck-as-asked : (u : Setup) → Accepted u → BoundedUnstruckAsAsked u
bounded-unstruck-as-asked u a h c r n = omega (arith, bounded-unstruck u a h c r n)

-- All of it of one charge that is the sum over the history.
pub charge-within : (u : Setup) → Accepted u → (h : List Event) (c n : ℕ) → real_time u c ≡ true → n ≡ owed u c h
    → Within u h c n
charge-within u a h c n r e = record {
  is_sum = e;
  at_most = omega (arith, e, bounded u a h c r);
  unless_in_room = λ q. omega (arith, e, bounded-unstruck-in-room u a h c r q);
  unless_struck = λ q. omega (arith, e, bounded-unstruck u a h c r q);
  as_asked = omega (arith, e, bounded-as-asked u a h c r);
  unless_struck_as_asked = λ q. omega (arith, e, bounded-unstruck-as-asked u a h c r q);
}

-- ALL WAITS OF A CLIENT, AND ITS BUDGET

-- A wait by events, from an accepted invoke to the reply that ends it or the client's accepted abort, is a place in the
-- client's line or waiting room.
pub wait-is-place : (u : Setup) → Accepted u → (c : ℕ) (h : List Event) → waiting u c h ≡ waits u (after u h) c
wait-is-place u a c h = waiting-waits u c a h

-- Over all waits at most (2 + 2mK)S for each accepted invoke.
pub bounded-in-all : (u : Setup) → Accepted u → BoundedInAll u
bounded-in-all u a h c r = covers u a c r h

-- An order is accepted exactly if it fits, and then its budget is the formula.
pub accepted-exactly : (o : Order)
    → ((quote o).answer ≡ accepted → Fits o) × (Fits o → quote o ≡ accepted_quote (budget_of o))
accepted-exactly o = (accepted-fits o, fits-quoted o)

-- Where an accepted order's N are not passed, e and all that was charged are within its budget, and that is within the
-- period.
pub within-budget : (o : Order) (xs : List Use) → (quote o).answer ≡ accepted → Keeps o xs
    → (nat_abs o.work + charged_for xs ≤ (quote o).budget) × ((quote o).budget ≤ nat_abs o.period)
within-budget = budget-covers

-- DEADLINES

-- A deadline is fixed for its wait ..
pub deadline-fixed : (u : Setup) → Accepted u → (h : List Event) (e : Event) (c : ℕ)
    → answer u (after u h) e ≡ accepted → waits u (after u h) c ≡ true → waits u (next u (after u h) e) c ≡ true
    → (next u (after u h) e).deadline c ≡ (after u h).deadline c
deadline-fixed u a h e c ok =
    let s = after u h in
    let i = own-reached u a h in
    fixed-deadline u (outranks u s) (own-order u s) s i.in_order i.placed i.dated e ok c

-- .. and 0 for a client that doesn't wait, spent and best-effort clients among them.
pub no-deadline : (u : Setup) → Accepted u → (h : List Event) (c : ℕ) → waits u (after u h) c ≡ false
    → (after u h).deadline c ≡ 0
no-deadline u a h c n = ((own-reached u a h).dated c).away n

-- An invoke without the form that its setup calls for is refused with 18, before all else.
pub form-first : (u : Setup) (s : State) (c : ℕ) (o : Option ℕ) → fit_form u.timed o ≡ false
    → answer u s (invoke c o) ≡ unknown_record
unfolding answer_by
form-first u s c o h = rw h

-- THE CHARGE LIMIT

-- No charge passes 33,554,431 ..
pub charge-limit : (u : Setup) → Accepted u → (h : List Event) (c : ℕ) → (after u h).charge c ≤ max_charge
charge-limit u a h c = ((own-reached u a h).placed.charge c).limit

-- .. so 19 is never given from an accepted fresh gate.
pub nineteen-never : (u : Setup) → Accepted u → (h : List Event) (x : Heard)
    → answer_of u (after u h) x ≡ unsound → ⊥
nineteen-never u a h (known e) z = never-unsound u a h e z
nineteen-never u a h reply_ready z = never-unsound u a h reply z
nineteen-never u a h unknown z = omega arith

-- THE TRACE OF A KERNEL

-- A trace is accepted exactly if it is what the rules give, entry by entry ..
pub trace-exactly : (v : ℕ) (u : Setup) (es : List Traced)
    → (trace_verdict v u es ≡ agrees → Ruled v u es) × (Ruled v u es → trace_verdict v u es ≡ agrees)
trace-exactly v u es = (accepted-ruled v u es, ruled-accepted v u es)

-- .. and else the entry that is named is the first that differs, and so is the part of it.
pub trace-differs : (v : ℕ) (u : Setup) (es : List Traced) (i : ℕ) (p : Part)
    → trace_verdict v u es ≡ differs i p → FirstDiffers v u es i p
trace-differs = differs-first

-- An accepted trace keeps demand 3: it holds of every charge that the kernel itself reported.
pub trace-within : (v : ℕ) (u : Setup) → Accepted u → (past : List Traced) (e : Traced) (rest : List Traced)
    → trace_verdict v u (past ++ (e ∷ rest)) ≡ agrees → (c : ℕ) → c < u.clients → real_time (trimmed u) c ≡ true
    → Within (trimmed u) (traced v u (past ++ (e ∷ []))) c (get_or e.seen.charges c 0)
trace-within v u a past e rest q c b r =
    charge-within (trimmed u) (trimmed-accepted u a) (traced v u (past ++ (e ∷ []))) c (get_or e.seen.charges c 0) r
    (charge-there v u past e rest (accepted-ruled v u (past ++ (e ∷ rest)) q) c b)
