-- Each number of refusal, and which comes first where two hold.
-- Assumes nothing.
use Prim.Native.Nat.{ℕ}
use mathlib.Core.Path.{◌≡◌, refl}
use mathlib.Core.Bool.{false}
use mathlib.Core.List.{List, [], ◌∷◌, ◌++◌, map}
use lib.ListN.{set}
use Rattle.places.specs.Places.{pad, unpad, holds_only, used_first, place_of, append_of}
use Rattle.places.specs.Tests.{every, all_below, distinct}
use Rattle.group_rules.specs.declared.Group.{Group}
use Rattle.group_rules.specs.Groups.{none_entered}
use Rattle.group_rules.specs.Blocking.{share, committed}
use Rattle.group_rules.specs.Sound.{few_tickets, time_sound, stack_sound, is_empty, context_sound, sound_of}
use Rattle.group_rules.specs.Events.{Event, entry, call, reply, filled, entry_answer, call_answer, reply_answer}
use Rattle.group_rules.specs.Events.{entered, called, popped, gone, answer_of, step_of}
use Rattle.group_rules.specs.History.{reached}
use Rattle.group_rules.proofs.Cases.{for}

abbrev answers : List Event → List Event → List ℕ
answers es l = map (answer_of (reached es)) l

-- context 0 is committed with tickets for servers 0 and 1; context 1 is blocked by it, with a ticket for 0; the last
-- entry's timestamp is 6
abbrev two : List Event
two = entry 1 6 0 (for (0 ∷ [])) ∷ entry 0 5 0 (for (0 ∷ 1 ∷ [])) ∷ []

abbrev five : ℕ → List ℕ
five s = set (for (0 ∷ [])) s 5

-- ENTRY

entries :
    answers two (
    entry 2 7 0 (for (0 ∷ []))
    ∷ entry 2 7 3 (set (for []) 3 4)
    ∷ entry 8 7 0 (for (0 ∷ []))
    ∷ entry 2 7 16 (for (0 ∷ []))
    ∷ entry 1 7 0 (for (0 ∷ []))
    ∷ entry 2 7 0 (five 0)
    ∷ entry 2 7 0 (five 15)
    ∷ entry 2 7 1 (for (0 ∷ []))
    ∷ entry 2 7 0 (for [])
    ∷ entry 2 6 0 (for (0 ∷ []))
    ∷ entry 2 5 0 (for (0 ∷ []))
    ∷ []
    )
    ≡ 0 ∷ 0 ∷ 40 ∷ 40 ∷ 41 ∷ 42 ∷ 42 ∷ 43 ∷ 43 ∷ 44 ∷ 44 ∷ []
unfolding step_of answer_of sound_of context_sound time_sound stack_sound is_empty few_tickets entry_answer entered filled
    committed share all_below every distinct pad unpad used_first holds_only place_of
entries = refl

-- 40 before 41, 42, 43 and 44; 41 before 42, 43 and 44; 42 before 43 and 44; 43 before 44
entry-orders :
    answers two (
    entry 1 7 16 (for (0 ∷ []))
    ∷ entry 8 7 0 (five 1)
    ∷ entry 8 7 1 (for (0 ∷ []))
    ∷ entry 8 6 0 (for (0 ∷ []))
    ∷ entry 1 7 0 (five 1)
    ∷ entry 1 7 1 (for (0 ∷ []))
    ∷ entry 1 6 0 (for (0 ∷ []))
    ∷ entry 2 7 1 (five 0)
    ∷ entry 2 6 0 (five 1)
    ∷ entry 2 6 1 (for (0 ∷ []))
    ∷ []
    )
    ≡ 40 ∷ 40 ∷ 40 ∷ 40 ∷ 41 ∷ 41 ∷ 41 ∷ 42 ∷ 42 ∷ 43 ∷ []
unfolding step_of answer_of sound_of context_sound time_sound stack_sound is_empty few_tickets entry_answer entered filled
    committed share all_below every distinct pad unpad used_first holds_only place_of
entry-orders = refl

-- The first entry takes any timestamp, 0 too. A refused entry counts for nothing; one that is gone still does.
timestamps :
    (answers [] (entry 0 0 0 (for (0 ∷ [])) ∷ [])
    ++ answers (entry 0 0 0 (for (0 ∷ [])) ∷ []) (entry 1 0 0 (for (0 ∷ [])) ∷ entry 1 1 0 (for (0 ∷ [])) ∷ [])
    ++ answers (entry 0 9 1 (for (0 ∷ [])) ∷ []) (entry 0 3 0 (for (0 ∷ [])) ∷ [])
    ++ answers (reply 0 ∷ entry 0 9 0 (for (0 ∷ [])) ∷ [])
    (entry 0 9 0 (for (0 ∷ [])) ∷ entry 0 10 0 (for (0 ∷ [])) ∷ []))
    ≡ 0 ∷ 44 ∷ 0 ∷ 0 ∷ 44 ∷ 0 ∷ []
unfolding step_of answer_of sound_of context_sound time_sound stack_sound is_empty few_tickets entry_answer reply_answer entered
    gone filled committed share all_below every distinct pad unpad used_first holds_only place_of
timestamps = refl

-- CALL AND REPLY

calls :
    answers two (
    call 0 1 ∷ call 8 1 ∷ call 0 16 ∷ call 2 1 ∷ call 1 1 ∷ call 0 2 ∷ call 0 0 ∷ reply 0 ∷ reply 8 ∷ reply 2 ∷ reply 1
    ∷ []
    )
    ≡ 0 ∷ 40 ∷ 40 ∷ 45 ∷ 46 ∷ 47 ∷ 48 ∷ 0 ∷ 40 ∷ 45 ∷ 46 ∷ []
unfolding step_of answer_of sound_of context_sound time_sound stack_sound is_empty few_tickets entry_answer call_answer
    reply_answer entered filled committed share all_below every distinct pad unpad used_first holds_only place_of
calls = refl

-- eight calls deep, with tickets for servers 0 to 8
abbrev full : List Event
full =
    call 0 7 ∷ call 0 6 ∷ call 0 5 ∷ call 0 4 ∷ call 0 3 ∷ call 0 2 ∷ call 0 1
    ∷ entry 0 5 0 (for (0 ∷ 1 ∷ 2 ∷ 3 ∷ 4 ∷ 5 ∷ 6 ∷ 7 ∷ 8 ∷ [])) ∷ []

-- a ninth call is refused, an eighth isn't; 40, 47 and 48 come before 49
depths :
    (answers full (call 0 8 ∷ call 0 16 ∷ call 0 9 ∷ call 0 7 ∷ call 0 0 ∷ reply 0 ∷ [])
    ++ answers (reply 0 ∷ full) (call 0 8 ∷ call 0 7 ∷ []))
    ≡ 49 ∷ 40 ∷ 47 ∷ 48 ∷ 48 ∷ 0 ∷ 0 ∷ 47 ∷ []
unfolding step_of answer_of sound_of context_sound time_sound stack_sound is_empty few_tickets entry_answer call_answer
    reply_answer entered called popped filled committed share all_below every distinct pad unpad used_first holds_only
    place_of append_of
depths = refl

-- 40 before 45, 46, 47; 45 before 46 and 47; 46 before 47 and 48; and of a reply 40 before 45, 45 before 46
call-orders :
    answers two (call 2 16 ∷ call 1 16 ∷ call 0 255 ∷ call 2 1 ∷ call 1 2 ∷ call 1 0 ∷ reply 255 ∷ reply 7 ∷ [])
    ≡ 40 ∷ 40 ∷ 40 ∷ 45 ∷ 46 ∷ 46 ∷ 40 ∷ 45 ∷ []
unfolding step_of answer_of sound_of context_sound time_sound stack_sound is_empty few_tickets entry_answer call_answer
    reply_answer entered filled committed share all_below every distinct pad unpad used_first holds_only place_of
call-orders = refl

-- ANY GROUP

-- a timestamp of an entry, and nobody has entered
abbrev unsure : Group
unsure = record {
  entered = false;
  last = 7;
  times = none_entered.times;
  tickets = none_entered.tickets;
  stacks = none_entered.stacks;
}

-- 19 before all else, and the group stays as it is
unsound-first :
    map (answer_of unsure) (entry 0 9 0 (for (0 ∷ [])) ∷ entry 8 9 0 (for (0 ∷ [])) ∷ call 8 0 ∷ reply 0 ∷ [])
    ≡ 19 ∷ 19 ∷ 19 ∷ 19 ∷ []
unfolding answer_of sound_of
unsound-first = refl

unsound-stays : step_of unsure (entry 0 9 0 (for (0 ∷ []))) ≡ unsure
unfolding step_of answer_of sound_of
unsound-stays = refl

-- a refused event changes nothing
refused-stays : reached (call 0 2 ∷ two) ≡ reached two
unfolding step_of answer_of sound_of context_sound time_sound stack_sound is_empty few_tickets entry_answer call_answer
    entered filled committed share all_below every distinct pad unpad used_first holds_only place_of
refused-stays = refl
