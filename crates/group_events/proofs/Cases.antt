-- Each case of an answer by its number, and what is returned of an event that is accepted or refused.
-- Assumes nothing.
use mathlib.Core.Path.{◌≡◌, refl}
use mathlib.Core.List.{[], ◌∷◌, map}
use Rattle.std.specs.Prelude.{Ok, Err}
use Rattle.places.specs.Places.{pad, unpad}
use Rattle.places.specs.Tests.{every}
use Rattle.group_rules.specs.declared.Group.{Group}
use Rattle.group_rules.specs.Groups.{none_entered}
use Rattle.group_rules.specs.Blocking.{share, committed}
use Rattle.group_rules.specs.Sound.{few_tickets}
use Rattle.group_rules.specs.Events.{entry, call, filled, entry_answer, call_answer, entered, called}
use Rattle.group_rules.proofs.Cases.{for}
use Rattle.group_events.specs.declared.Refusal.TheVariants as case
use Rattle.group_events.specs.Answers.{number_of, told_in, after_in, ruled}

numbers :
    map (number_of {T = Unit {0}}) (
    Ok tt ∷ Err case.Unsound ∷ Err case.NoSuch ∷ Err case.QueuedAlready ∷ Err case.ManyTickets
    ∷ Err case.NoFirstTicket ∷ Err case.NotLater ∷ Err case.NotQueued ∷ Err case.NotCommitted ∷ Err case.NoTicket
    ∷ Err case.OnStack ∷ Err case.StackFull ∷ []
    )
    ≡ 0 ∷ 19 ∷ 40 ∷ 41 ∷ 42 ∷ 43 ∷ 44 ∷ 45 ∷ 46 ∷ 47 ∷ 48 ∷ 49 ∷ []
numbers = refl

abbrev one : Group
one = entered none_entered 0 5 0 (for (0 ∷ 1 ∷ []))

-- the answer's number and the group
told :
    told_in (record { answer = Err case.NotLater; group = none_entered }) ≡ record { number = 44; group = none_entered }
told = refl

after-some :
    (after_in one (Err case.NotLater) ≡ record { number = 44; group = one })
    × (after_in one (Ok none_entered) ≡ record { number = 0; group = none_entered })
after-some = (refl, refl)

-- an accepted event leaves what the rules say
accepted-entry : ruled none_entered (entry 0 5 0 (for (0 ∷ 1 ∷ []))) ≡ record { number = 0; group = one }
unfolding entry_answer few_tickets every pad unpad
accepted-entry = refl

accepted-call : ruled one (call 0 1) ≡ record { number = 0; group = called one 0 1 }
unfolding call_answer entered filled committed share pad unpad
accepted-call = refl

-- a refused one the group as it was
refused-call : ruled one (call 0 2) ≡ record { number = 47; group = one }
unfolding call_answer entered filled committed share pad unpad
refused-call = refl
