-- What an event answers, with its number, and what its function returns.
-- Assumes nothing.
use Rattle.std.specs.Prelude.{ℕ, cond, eqb, Ok, Err}
use Rattle.std.specs.Prelude as code
use Rattle.rules.specs.Refusals.{accepted, unsound}
use Rattle.group_rules.specs.declared.Group.{Group}
use Rattle.group_rules.specs.Refusals.{no_such, queued_already, many_tickets, no_first_ticket, not_later}
use Rattle.group_rules.specs.Refusals.{not_queued, not_committed, no_ticket, on_stack, stack_full}
use Rattle.group_rules.specs.Events.{Event, event_answer, after}
use Rattle.group_events.specs.declared.Refusal.{Refusal}
use Rattle.group_events.specs.declared.Refusal.TheVariants as case
use Rattle.group_events.specs.declared.Answered.{Answered}

-- each case of a refusal by its number
abbrev pub refusal_of : Refusal → ℕ
refusal_of case.Unsound = unsound
refusal_of case.NoSuch = no_such
refusal_of case.QueuedAlready = queued_already
refusal_of case.ManyTickets = many_tickets
refusal_of case.NoFirstTicket = no_first_ticket
refusal_of case.NotLater = not_later
refusal_of case.NotQueued = not_queued
refusal_of case.NotCommitted = not_committed
refusal_of case.NoTicket = no_ticket
refusal_of case.OnStack = on_stack
refusal_of case.StackFull = stack_full

-- an answer's number: what is accepted may have a value
abbrev pub number_of : {T : Type 0} → code.Result T Refusal → ℕ
number_of (Ok v) = accepted
number_of (Err a) = refusal_of a

-- the number that an event answers, and the group after it
pub record Result : Type 0 where
  pub number : ℕ
  pub group : Group

abbrev pub told_in : Answered → Result
told_in r = record { number = number_of r.answer; group = r.group }

-- the same of a group after it, or of a refusal, which hands back the group that it was given
abbrev pub after_in : Group → code.Result Group Refusal → Result
after_in g (Ok k) = record { number = accepted; group = k }
after_in g (Err a) = record { number = refusal_of a; group = g }

-- what the rules give on a sound group: a refused event hands it back
abbrev pub ruled : Group → Event → Result
ruled g e = record {
  number = event_answer g e;
  group = cond (eqb (event_answer g e) accepted) (after g e) g;
}
