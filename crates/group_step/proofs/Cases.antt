-- What the doors answer of a small group: two contexts, of which the later is blocked; and of one that isn't sound.
-- Assumes nothing.
use Prim.Native.Nat.{ℕ}
use mathlib.Core.Path.{◌≡◌, refl}
use mathlib.Core.Bool.{false}
use mathlib.Core.List.{[], ◌∷◌, map}
use Rattle.std.specs.Prelude.{Ok, Err}
use Rattle.places.specs.Places.{pad, unpad, holds_only, used_first, place_of}
use Rattle.places.specs.Tests.{every, all_below, distinct}
use Rattle.group_rules.specs.declared.Group.{Group}
use Rattle.group_rules.specs.Groups.{none_entered}
use Rattle.group_rules.specs.Blocking.{Delegate, nobody, server, context, share, committed, blocker_of, delegate_of}
use Rattle.group_rules.specs.Sound.{few_tickets, time_sound, stack_sound, is_empty, context_sound, sound_of}
use Rattle.group_rules.specs.Events.{entry, reply, filled, entry_answer, reply_answer, entered, gone, answer_of, step_of}
use Rattle.group_rules.specs.History.{reached}
use Rattle.group_rules.proofs.Cases.{for}
use Rattle.blocking.specs.declared.Delegate.TheVariants as delegate
use Rattle.group_events.specs.declared.Refusal.TheVariants as case
use Rattle.group_step.specs.Doors.{Naming, stepped, ask_answer, named_in, naming, blocked_by, delegates_to}

abbrev two : Group
two = reached (entry 1 6 2 (for (0 ∷ 2 ∷ [])) ∷ entry 0 5 0 (for (0 ∷ 1 ∷ [])) ∷ [])

-- a timestamp of an entry, and nobody has entered
abbrev unsure : Group
unsure = record {
  entered = false;
  last = 7;
  times = none_entered.times;
  tickets = none_entered.tickets;
  stacks = none_entered.stacks;
}

abbrev named : ℕ → Delegate → Naming
named n d = record { number = n; who = d }

-- 40 for no context, 45 for one that isn't queued; 19 before both
asked : map (ask_answer two) (0 ∷ 1 ∷ 2 ∷ 7 ∷ 8 ∷ 255 ∷ []) ≡ 0 ∷ 0 ∷ 45 ∷ 45 ∷ 40 ∷ 40 ∷ []
unfolding ask_answer step_of answer_of sound_of context_sound time_sound stack_sound is_empty few_tickets entry_answer entered
    filled committed share all_below every distinct pad unpad used_first holds_only place_of
asked = refl

unsure-asked : map (ask_answer unsure) (0 ∷ 8 ∷ []) ≡ 19 ∷ 19 ∷ []
unfolding ask_answer sound_of
unsure-asked = refl

-- nobody blocks a committed context; whom nobody asks for, nobody is named
blockers :
    map (blocked_by two) (0 ∷ 1 ∷ 2 ∷ 8 ∷ [])
    ≡ named 0 nobody ∷ named 0 (context 0) ∷ named 45 nobody ∷ named 40 nobody ∷ []
unfolding blocked_by ask_answer blocker_of step_of answer_of sound_of context_sound time_sound stack_sound is_empty few_tickets
    entry_answer entered filled committed share all_below every distinct pad unpad used_first holds_only place_of
blockers = refl

delegates :
    map (delegates_to two) (0 ∷ 1 ∷ 2 ∷ 8 ∷ [])
    ≡ named 0 (server 0) ∷ named 0 (context 0) ∷ named 45 nobody ∷ named 40 nobody ∷ []
unfolding delegates_to ask_answer delegate_of blocker_of step_of answer_of sound_of context_sound time_sound stack_sound is_empty
    few_tickets entry_answer entered filled committed share all_below every distinct pad unpad used_first holds_only place_of
delegates = refl

named-cases :
    (named_in (Err case.NotQueued) ∷ naming 45 (server 3)
    ∷ naming 0 (server 3) ∷ [])
    ≡ named 45 nobody ∷ named 45 nobody ∷ named 0 (server 3) ∷ []
named-cases = refl

named-some : named_in (Ok (delegate.Server (record { 0 = 3 }))) ≡ named 0 (server 3)
named-some = refl

-- a step on a group that isn't sound hands it back with 19; one on a sound group is the event's own
unsure-step : stepped unsure (reply 0) ≡ record { number = 19; group = unsure }
unfolding answer_of step_of sound_of
unsure-step = refl

a-step : stepped two (reply 0) ≡ record { number = 0; group = gone two 0 }
unfolding answer_of step_of sound_of context_sound time_sound stack_sound is_empty few_tickets entry_answer reply_answer
    entered filled committed share all_below every distinct pad unpad used_first holds_only place_of
a-step = refl

refused-step : stepped two (reply 1) ≡ record { number = 46; group = two }
unfolding answer_of step_of sound_of context_sound time_sound stack_sound is_empty few_tickets entry_answer reply_answer
    entered filled committed share all_below every distinct pad unpad used_first holds_only place_of
refused-step = refl
