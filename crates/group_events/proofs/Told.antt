-- What a refused and an accepted event return is what the rules give; and what is copied out of a group is what it
-- holds of a context.
-- Assumes nothing.
use Prim.Native.Nat.{ℕ}
use mathlib.Core.Path.{◌≡◌, refl, sym, ap, ◌∙◌}
use mathlib.Core.Bool.{Bool, true, false}
use lib.Dec.{eqb}
use lib.ListN.{get_or}
use Rattle.rules.specs.Refusals.{accepted}
use Rattle.group_rules.specs.declared.Tickets.{Tickets}
use Rattle.group_rules.specs.declared.Stack.{Stack}
use Rattle.group_rules.specs.declared.Group.{Group}
use Rattle.group_rules.specs.Groups.{no_tickets, no_calls, tickets_of, places_of, has_call, queued}
use Rattle.group_rules.specs.Events.{Event, event_answer, after}
use Rattle.group_rules.specs.Events.{serves}
use Rattle.group_rules.specs.Blocking.{committed}
use Rattle.group_rules.specs.Refusals.{not_queued, not_committed}
use Rattle.rules.proofs.Tests.{by-test, clash}
use Rattle.group_events.specs.declared.Refusal.{Refusal}
use Rattle.group_events.specs.declared.Refusal.TheVariants as case
use Rattle.group_events.specs.Answers.{refusal_of, after_in, ruled}
use borrow.Author.Tests.{eq-eqb}
use native.Mathlib.Omega.{arith}
use Rattle.std.specs.Prelude.{Ok, Err}

-- no refusal has the number of an answer that accepts
pub refusal-no : (a : Refusal) → eqb (refusal_of a) accepted ≡ false
refusal-no case.Unsound = refl
refusal-no case.NoSuch = refl
refusal-no case.QueuedAlready = refl
refusal-no case.ManyTickets = refl
refusal-no case.NoFirstTicket = refl
refusal-no case.NotLater = refl
refusal-no case.NotQueued = refl
refusal-no case.NotCommitted = refl
refusal-no case.NoTicket = refl
refusal-no case.OnStack = refl
refusal-no case.StackFull = refl

module _ (g : Group) (e : Event) where
  pub told-refused : (a : Refusal) → event_answer g e ≡ refusal_of a → after_in g (Err a) ≡ ruled g e
  told-refused a h = rw (h, refusal-no a)

  pub told-accepted : (k : Group) → k ≡ after g e → event_answer g e ≡ accepted → after_in g (Ok k) ≡ ruled g e
  told-accepted k left h = rw (h, left)

-- whom the server of its current request serves
module _ (g : Group) (c : ℕ) where
  pub serves-accepted : accepted ≡ serves g c accepted → (queued g c ≡ true) × (committed g c ≡ true)
  serves-accepted h =
      by-test (queued g c)
      (λ q. by-test (committed g c)
      (λ k. (q, k))
      (λ k. absurd (let z : accepted ≡ not_committed = rw (q, k) at h in omega arith)))
      (λ q. absurd (let z : accepted ≡ not_queued = rw q at h in omega arith))

  pub serves-refused : (a : Refusal) (rest : ℕ) → refusal_of a ≡ serves g c accepted → serves g c rest ≡ refusal_of a
  serves-refused a rest h =
      by-test (queued g c)
      (λ q. by-test (committed g c)
      (λ k. clash (eq-eqb (refusal_of a) accepted (rw (q, k) at h)) (refusal-no a))
      (λ k. rw (q, k) (sym (rw (q, k) at h))))
      (λ q. rw q (sym (rw q at h)))

module _ (g : Group) {i c : ℕ} (e : i ≡ c) where
  pub tickets-at : {t : Tickets} → t ≡ get_or g.tickets i no_tickets → t.counts ≡ tickets_of g c
  tickets-at f = ap (λ (t : Tickets). t.counts) f ∙ ap (tickets_of g) e

  pub places-at : {t : Stack} → t ≡ get_or g.stacks i no_calls → t.places ≡ places_of g c
  places-at f = ap (λ (t : Stack). t.places) f ∙ ap (places_of g) e

  pub queued-at : {t : Stack} {b : Bool} → t ≡ get_or g.stacks i no_calls → b ≡ has_call t.places
      → b ≡ queued g c
  queued-at f h = h ∙ ap has_call (places-at f)
