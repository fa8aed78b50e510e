-- What is shown of the doors: any group and any event get one of the numbers of request 12, a refused event hands back
-- the group that it was given, and events at the door from the group that nobody has entered lead to the groups of
-- which `group_rules.Theorems` speaks.
-- Assumes nothing.
use Prim.Native.Nat.{ℕ}
use mathlib.Core.Path.{◌≡◌, refl, sym, ap, ◌∙◌}
use mathlib.Core.Bool.{true}
use mathlib.Core.List.{List, [], ◌∷◌}
use borrow.Author.Tests.{ne_eqb}
use Rattle.std.specs.Prelude as code
use Rattle.std.specs.Prelude.{Ok, Err}
use Rattle.rules.specs.Lists.{has}
use Rattle.rules.specs.Refusals.{accepted}
use Rattle.group_rules.specs.declared.Tickets.{Tickets}
use Rattle.group_rules.specs.declared.Group.{Group}
use Rattle.group_rules.specs.declared.Event as event
use Rattle.group_rules.specs.Groups.{none_entered}
use Rattle.group_rules.specs.Events.{Event, said, answer_of, step_of}
use Rattle.group_rules.specs.History.{reached}
use Rattle.group_events.specs.declared.Refusal.{Refusal}
use Rattle.group_events.specs.declared.Refusal.TheVariants as case
use Rattle.group_events.specs.declared.Answered.{Answered}
use Rattle.group_events.specs.Answers.{number_of, Result, told_in}
use Rattle.group_step.specs.Doors.{stepped}

-- every number that a door can answer
abbrev numbers : List ℕ
numbers = 0 ∷ 19 ∷ 40 ∷ 41 ∷ 42 ∷ 43 ∷ 44 ∷ 45 ∷ 46 ∷ 47 ∷ 48 ∷ 49 ∷ []

listed : (a : code.Result (Unit {0}) Refusal) → has (number_of a) numbers ≡ true
listed (Ok v) = refl
listed (Err case.Unsound) = refl
listed (Err case.NoSuch) = refl
listed (Err case.QueuedAlready) = refl
listed (Err case.ManyTickets) = refl
listed (Err case.NoFirstTicket) = refl
listed (Err case.NotLater) = refl
listed (Err case.NotQueued) = refl
listed (Err case.NotCommitted) = refl
listed (Err case.NoTicket) = refl
listed (Err case.OnStack) = refl
listed (Err case.StackFull) = refl

-- What the door promises of an event: `step`'s own contract.
abbrev pub Steps : Group → event.Event → Tickets → Answered → Type 0
Steps g e tickets r = told_in r ≡ stepped g (said e tickets)

-- NONSENSE

-- Any group, any event: the answer is one of these.
pub answer-listed : (g : Group) (e : event.Event) (tickets : Tickets) (r : Answered) → Steps g e tickets r
    → has (answer_of g (said e tickets)) numbers ≡ true
answer-listed g e tickets r h =
    ap (λ (x : Result). has x.number numbers) (sym h) ∙ listed r.answer

-- Whatever is not accepted hands back the group.
pub refused-same : (g : Group) (e : event.Event) (tickets : Tickets) (r : Answered) → Steps g e tickets r
    → (number_of r.answer ≡ accepted → ⊥) → r.group ≡ g
unfolding step_of
refused-same g e tickets r h n =
    let is : answer_of g (said e tickets) ≡ number_of r.answer = sym (ap (λ (x : Result). x.number) h) in
    ap (λ (x : Result). x.group) h
    ∙ (rw (ne_eqb (answer_of g (said e tickets)) accepted (λ q. n (sym is ∙ q))))

-- HISTORIES

-- events at the door, the latest first, each on the group that the one before it left
pub record Move : Type 0 where
  pub event : event.Event
  pub tickets : Tickets
  pub result : Answered

abbrev pub group_after : List Move → Group
group_after [] = none_entered
group_after (m ∷ ms) = m.result.group

abbrev pub Moves : List Move → Type 0
Moves [] = Unit {0}
Moves (m ∷ ms) = Steps (group_after ms) m.event m.tickets m.result × Moves ms

abbrev pub events_of : List Move → List Event
events_of [] = []
events_of (m ∷ ms) = said m.event m.tickets ∷ events_of ms

-- They lead to the group of the rules' own history, so that all of `group_rules.Theorems` holds of it.
pub doors-reach : (ms : List Move) → Moves ms → group_after ms ≡ reached (events_of ms)
doors-reach [] h = refl
doors-reach (m ∷ ms) h =
    ap (λ (x : Result). x.group) h.0
    ∙ ap (λ (g : Group). step_of g (said m.event m.tickets)) (doors-reach ms h.1)
