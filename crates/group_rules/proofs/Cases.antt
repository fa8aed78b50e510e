-- Histories worked out: Figure 2b of source 003, chains, and what each event leaves.
-- Assumes nothing.
use Prim.Native.Nat.{ℕ}
use mathlib.Core.Path.{◌≡◌, refl}
use mathlib.Core.Bool.{true, false}
use mathlib.Core.List.{List, [], ◌∷◌}
use mathlib.Core.Option.{some, none}
use lib.ListN.{set, replicate}
use Rattle.places.specs.Places.{pad, unpad, holds_only, used_first, place_of, append_of}
use Rattle.places.specs.Tests.{every, all_below, distinct}
use Rattle.group_rules.specs.declared.Group.{Group}
use Rattle.group_rules.specs.declared.Event.TheVariants as case
use Rattle.group_rules.specs.Limits.{max_servers}
use Rattle.group_rules.specs.Groups.{no_tickets, time_of, tickets_for, calls_of, has_call, queued}
use Rattle.group_rules.specs.Blocking.{Delegate, nobody, server, context, earlier, share, committed}
use Rattle.group_rules.specs.Blocking.{blocker_of, last_of, to_blocker, delegate_of}
use Rattle.group_rules.specs.Sound.{few_tickets, time_sound, stack_sound, is_empty, context_sound, sound_of}
use Rattle.group_rules.specs.Events.{Event, entry, call, reply, said, filled}
use Rattle.group_rules.specs.Events.{entry_answer, call_answer, reply_answer}
use Rattle.group_rules.specs.Events.{popped_of, entered, called, popped, gone, answer_of, step_of}
use Rattle.group_rules.specs.History.{reached, steps_to, follow, next, awaits, Chain}

-- one ticket for each server of the list
abbrev pub for : List ℕ → List ℕ
for [] = replicate max_servers 0
for (s ∷ l) = set (for l) s 1

abbrev delegates : Group → List Delegate
delegates g =
    delegate_of g 0 ∷ delegate_of g 1 ∷ delegate_of g 2 ∷ delegate_of g 3 ∷ delegate_of g 4 ∷ delegate_of g 5
    ∷ delegate_of g 6 ∷ delegate_of g 7 ∷ []

-- FIGURE 2B

abbrev figure : List Event
figure =
    entry 4 7 2 (for (1 ∷ 2 ∷ [])) ∷ entry 3 4 3 (for (3 ∷ [])) ∷ entry 2 3 4 (for (4 ∷ []))
    ∷ call 1 2 ∷ entry 1 1 1 (for (1 ∷ 2 ∷ 4 ∷ [])) ∷ []

-- S2 serves for C1, which S1 called, and S3 for C3. C2 and C4 wait for C1: C2 for its ticket for S4 alone.
figure-2b :
    delegates (reached figure)
    ≡ nobody ∷ server 2 ∷ context 1 ∷ server 3 ∷ context 1 ∷ nobody ∷ nobody ∷ nobody ∷ []
unfolding step_of answer_of sound_of context_sound time_sound stack_sound is_empty few_tickets entry_answer call_answer
    entered called filled delegate_of blocker_of committed share all_below every distinct pad unpad used_first holds_only
    place_of append_of
figure-2b = refl

-- S1 waits for S2, which waits for nobody; S4, on whose stack nobody is committed, for nobody
figure-waits :
    (awaits (reached figure) 1 2 ∷ awaits (reached figure) 2 1 ∷ awaits (reached figure) 2 2
    ∷ awaits (reached figure) 4 1 ∷ [])
    ≡ true ∷ false ∷ false ∷ false ∷ []
unfolding awaits step_of answer_of sound_of context_sound time_sound stack_sound is_empty few_tickets entry_answer call_answer
    entered called filled committed share all_below every distinct pad unpad used_first holds_only place_of append_of
figure-waits = refl

figure-chain : Chain (reached figure) 1 (2 ∷ [])
unfolding awaits step_of answer_of sound_of context_sound time_sound stack_sound is_empty few_tickets entry_answer call_answer
    entered called filled committed share all_below every distinct pad unpad used_first holds_only place_of append_of
figure-chain = (refl, tt)

-- CHAINS

-- eight contexts with a ticket for one server, the later ones first
abbrev eight : List Event
eight =
    entry 7 17 0 (for (0 ∷ [])) ∷ entry 6 16 0 (for (0 ∷ [])) ∷ entry 5 15 0 (for (0 ∷ []))
    ∷ entry 4 14 0 (for (0 ∷ [])) ∷ entry 3 13 0 (for (0 ∷ [])) ∷ entry 2 12 0 (for (0 ∷ []))
    ∷ entry 1 11 0 (for (0 ∷ [])) ∷ entry 0 10 0 (for (0 ∷ [])) ∷ []

-- each is blocked directly by the one before it, the latest
eight-delegate :
    delegates (reached eight)
    ≡ server 0 ∷ context 0 ∷ context 1 ∷ context 2 ∷ context 3 ∷ context 4 ∷ context 5 ∷ context 6 ∷ []
unfolding step_of answer_of sound_of context_sound time_sound stack_sound is_empty few_tickets entry_answer entered filled
    delegate_of blocker_of committed share all_below every distinct pad unpad used_first holds_only place_of
eight-delegate = refl

-- seven steps are taken, and six are not enough
exactly-seven :
    (follow (reached eight) 7 7 ∷ follow (reached eight) 6 7 ∷ follow (reached eight) 9 7 ∷ []) ≡ 0 ∷ 1 ∷ 0 ∷ []
unfolding step_of answer_of sound_of context_sound time_sound stack_sound is_empty few_tickets entry_answer entered filled
    blocker_of committed share all_below every distinct pad unpad used_first holds_only place_of
exactly-seven = refl

six-uncommitted :
    (committed (reached eight) (follow (reached eight) 7 7)
    ∷ committed (reached eight) (follow (reached eight) 6 7) ∷ [])
    ≡ true ∷ false ∷ []
unfolding step_of answer_of sound_of context_sound time_sound stack_sound is_empty few_tickets entry_answer entered filled
    blocker_of committed share all_below every distinct pad unpad used_first holds_only place_of
six-uncommitted = refl

-- WHAT EVENTS LEAVE

-- context 0 has two tickets for server 1; context 1 waits for server 2
abbrev begun : List Event
begun = entry 1 6 2 (for (2 ∷ [])) ∷ entry 0 5 0 (set (for (0 ∷ 2 ∷ [])) 1 2) ∷ []

-- what is seen of context 0: its tickets for servers 0, 1 and 2; and its calls
abbrev seen : Group → List (List ℕ)
seen g = (tickets_for g 0 0 ∷ tickets_for g 0 1 ∷ tickets_for g 0 2 ∷ []) ∷ calls_of g 0 ∷ []

-- A call uses up no ticket; its reply does, one; then the server may be called again, until none is left.
a_call : seen (reached (call 0 1 ∷ begun)) ≡ (1 ∷ 2 ∷ 1 ∷ []) ∷ (0 ∷ 1 ∷ []) ∷ []
unfolding step_of answer_of sound_of context_sound time_sound stack_sound is_empty few_tickets entry_answer call_answer
    entered called filled committed share all_below every distinct pad unpad used_first holds_only place_of append_of
a_call = refl

a-reply : seen (reached (reply 0 ∷ call 0 1 ∷ begun)) ≡ (1 ∷ 1 ∷ 1 ∷ []) ∷ (0 ∷ []) ∷ []
unfolding step_of answer_of sound_of context_sound time_sound stack_sound is_empty few_tickets entry_answer call_answer
    reply_answer entered called popped filled committed share all_below every distinct pad unpad used_first holds_only
    place_of append_of
a-reply = refl

-- A ticket used up counts for nobody: context 1 is committed in the midst of the request of context 0.
in-the-midst :
    (committed (reached (call 0 2 ∷ begun)) 1 ∷ committed (reached (reply 0 ∷ call 0 2 ∷ begun)) 1
    ∷ queued (reached (reply 0 ∷ call 0 2 ∷ begun)) 0 ∷ [])
    ≡ false ∷ true ∷ true ∷ []
unfolding step_of answer_of sound_of context_sound time_sound stack_sound is_empty few_tickets entry_answer call_answer
    reply_answer entered called popped filled committed share all_below every distinct pad unpad used_first holds_only
    place_of append_of
in-the-midst = refl

-- The reply to the first call takes the context out, with the tickets that are left and its timestamp.
first-reply : seen (reached (reply 0 ∷ begun)) ≡ (0 ∷ 0 ∷ 0 ∷ []) ∷ [] ∷ []
unfolding step_of answer_of sound_of context_sound time_sound stack_sound is_empty few_tickets entry_answer reply_answer
    entered gone filled committed share all_below every distinct pad unpad used_first holds_only place_of
first-reply = refl

first-reply-time :
    (time_of (reached begun) 0 ∷ time_of (reached (reply 0 ∷ begun)) 0 ∷ (reached (reply 0 ∷ begun)).last ∷ [])
    ≡ 5 ∷ 0 ∷ 6 ∷ []
unfolding step_of answer_of sound_of context_sound time_sound stack_sound is_empty few_tickets entry_answer reply_answer
    entered gone filled committed share all_below every distinct pad unpad used_first holds_only place_of
first-reply-time = refl

-- SMALL WORDS

-- the other's tickets and times: earlier is strictly earlier, and both must have a ticket for the same server
earlier-cases :
    (earlier (reached begun) 0 1 ∷ earlier (reached begun) 1 0 ∷ earlier (reached begun) 0 0
    ∷ earlier (reached begun) 2 1 ∷ [])
    ≡ true ∷ false ∷ false ∷ false ∷ []
unfolding step_of answer_of sound_of context_sound time_sound stack_sound is_empty few_tickets entry_answer entered filled
    committed share all_below every distinct pad unpad used_first holds_only place_of
earlier-cases = refl

share-cases :
    (share (reached figure) 1 4 ∷ share (reached figure) 1 2 ∷ share (reached figure) 1 3 ∷ share (reached figure) 0 0
    ∷ [])
    ≡ true ∷ true ∷ false ∷ false ∷ []
unfolding step_of answer_of sound_of context_sound time_sound stack_sound is_empty few_tickets entry_answer call_answer
    entered called filled committed share all_below every distinct pad unpad used_first holds_only place_of append_of
share-cases = refl

-- a call, none, and an unused place before a call; no places
call-cases :
    (has_call (0 ∷ 255 ∷ []) ∷ has_call (255 ∷ 255 ∷ []) ∷ has_call (255 ∷ 3 ∷ []) ∷ has_call [] ∷ [])
    ≡ true ∷ false ∷ false ∷ false ∷ []
unfolding unpad
call-cases = refl

last-cases : (last_of (7 ∷ 8 ∷ 9 ∷ []) ∷ last_of (7 ∷ []) ∷ last_of [] ∷ []) ≡ 9 ∷ 7 ∷ 0 ∷ []
last-cases = refl

to-blocker : (to_blocker none ∷ to_blocker (some 3) ∷ []) ≡ nobody ∷ context 3 ∷ []
to-blocker = refl

steps-cases : (steps_to 4 none ∷ steps_to 4 (some 2) ∷ []) ≡ 4 ∷ 2 ∷ []
steps-cases = refl

-- directly before, not elsewhere
next-cases :
    (next 1 2 (1 ∷ 2 ∷ 3 ∷ []) ∷ next 2 3 (1 ∷ 2 ∷ 3 ∷ []) ∷ next 1 3 (1 ∷ 2 ∷ 3 ∷ []) ∷ next 2 1 (1 ∷ 2 ∷ 3 ∷ [])
    ∷ next 3 3 (3 ∷ []) ∷ next 0 0 [] ∷ [])
    ≡ true ∷ true ∷ false ∷ false ∷ false ∷ false ∷ []
next-cases = refl

filled-cases :
    (filled 3 (1 ∷ []) ∷ filled 1 (1 ∷ 2 ∷ []) ∷ filled 0 (1 ∷ []) ∷ [])
    ≡ (1 ∷ 0 ∷ 0 ∷ []) ∷ (1 ∷ []) ∷ [] ∷ []
unfolding filled
filled-cases = refl

popped-cases : popped_of (7 ∷ 8 ∷ []) (7 ∷ 8 ∷ 255 ∷ []) ≡ 7 ∷ 255 ∷ 255 ∷ []
popped-cases = refl

-- the code's events
said-cases :
    (said (case.Entry (record { 0 = 1 }) 2 (record { 0 = 3 })) no_tickets
    ∷ said (case.Call (record { 0 = 4 }) (record { 0 = 5 })) no_tickets
    ∷ said (case.Reply (record { 0 = 6 })) no_tickets ∷ [])
    ≡ entry 1 2 3 (replicate max_servers 0) ∷ call 4 5 ∷ reply 6 ∷ []
said-cases = refl
