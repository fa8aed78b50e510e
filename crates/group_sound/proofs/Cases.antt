-- The definitions, tried on parts of a group that are written out: each case computes.
-- Assumes nothing.
use Prim.Native.Nat.{ℕ}
use mathlib.Core.Path.{◌≡◌, refl}
use mathlib.Core.Bool.{Bool, true, false}
use mathlib.Core.List.{List, [], ◌∷◌}
use mathlib.Core.Option.{some, none}
use Rattle.sets.specs.Sets.{member, set_of}
use Rattle.places.specs.Places.{pad, unpad, holds_only, used_first, place_of}
use Rattle.places.specs.Tests.{every}
use Rattle.seen.specs.Seen.{seen_from, queue_seen}
use Rattle.group_rules.specs.Groups.{stack_with}
use Rattle.group_rules.specs.Sound.{few_tickets}
use Rattle.blocking.specs.Queue.{ticket_set, blocker_in}
use Rattle.group_sound.specs.Answers.{with_queued, queue_set, empty_of, has_time, time_fits}
use Rattle.group_sound.specs.Answers.{is_some, stack_fits, context_fits}

-- Context 0 entered at 5 with tickets for servers 1 and 2, context 1 at 7 with tickets for 2, so that 0 blocks it;
-- 7 has the timestamp of 0 and no ticket that another has; the others hold nothing.
abbrev times : List ℕ
times = 5 ∷ 7 ∷ 0 ∷ 0 ∷ 0 ∷ 0 ∷ 0 ∷ 5 ∷ []

abbrev sets : List ℕ
sets = 6 ∷ 4 ∷ 0 ∷ 0 ∷ 0 ∷ 0 ∷ 0 ∷ 32768 ∷ []

-- the counts of 16 servers, of which the first four are given
abbrev counts : ℕ → ℕ → ℕ → ℕ → List ℕ
counts a b c d = a ∷ b ∷ c ∷ d ∷ 0 ∷ 0 ∷ 0 ∷ 0 ∷ 0 ∷ 0 ∷ 0 ∷ 0 ∷ 0 ∷ 0 ∷ 0 ∷ 0 ∷ []

-- the places of a stack with these calls
abbrev calls : List ℕ → List ℕ
calls l = (stack_with l).places

-- THE QUEUE

-- 1 joins; 2 is there already; 1 has no call
with_cases :
    (with_queued 5 (calls (3 ∷ [])) 1 ≡ 7) × (with_queued 5 (calls (3 ∷ [])) 2 ≡ 5) × (with_queued 5 (calls []) 1 ≡ 5)
unfolding member set_of pad unpad
with_cases = (refl, refl, refl)

-- the first and the last of eight; nobody; one of two, where the others are missing; a ninth is no context
queue-cases :
    let a = stack_with (1 ∷ []) in let n = stack_with [] in
    (queue_set (a ∷ n ∷ n ∷ n ∷ n ∷ n ∷ n ∷ a ∷ []) ≡ 129) × (queue_set (n ∷ n ∷ n ∷ n ∷ n ∷ n ∷ n ∷ n ∷ []) ≡ 0)
    × (queue_set (n ∷ a ∷ []) ≡ 2) × (queue_set (n ∷ n ∷ n ∷ n ∷ n ∷ n ∷ n ∷ n ∷ a ∷ []) ≡ 0)
unfolding set_of pad unpad queue_set
queue-cases = (refl, refl, refl, refl)

-- A CONTEXT THAT ISN'T QUEUED

-- nothing; a timestamp is left; a ticket, for the first server and for the last of four; a call, first and last
empty-cases :
    (empty_of 0 (counts 0 0 0 0) (calls []) ≡ true) × (empty_of 1 (counts 0 0 0 0) (calls []) ≡ false)
    × (empty_of 0 (counts 1 0 0 0) (calls []) ≡ false) × (empty_of 0 (counts 0 0 0 1) (calls []) ≡ false)
    × (empty_of 0 (counts 0 0 0 0) (calls (0 ∷ [])) ≡ false) × (empty_of 0 (counts 0 0 0 0) (255 ∷ 3 ∷ []) ≡ false)
unfolding pad holds_only
empty-cases = (refl, refl, refl, refl, refl, refl)

-- A QUEUED ONE'S TIMESTAMP

-- 7 has the timestamp of 0 and is of the others, and isn't; 1 is of them, and has another
has-cases : (has_time times 130 0 7 ≡ true) × (has_time times 2 0 7 ≡ false) × (has_time times 130 0 1 ≡ false)
unfolding member
has-cases = (refl, refl, refl)

-- The last entry's, and one below it, which 7 has too without being queued; one above it; nobody has entered. With 7 in
-- the queue 0 and 7 have the same, and 1 another. A queued one has 0, as have those of whom nothing is held.
time-cases :
    (time_fits true 7 times 3 1 ≡ true) × (time_fits true 7 times 3 0 ≡ true) × (time_fits true 6 times 3 1 ≡ false)
    × (time_fits false 7 times 3 1 ≡ false) × (time_fits true 7 times 131 0 ≡ false)
    × (time_fits true 7 times 131 7 ≡ false) × (time_fits true 7 times 131 1 ≡ true) × (time_fits true 7 times 4 2 ≡ true)
unfolding member set_of time_fits
time-cases = (refl, refl, refl, refl, refl, refl, refl, refl)

-- A QUEUED ONE'S STACK

some-cases : (is_some none ≡ false) × (is_some (some 0) ≡ true) × (is_some (some 6) ≡ true)
some-cases = (refl, refl, refl)

abbrev stack : ℕ → List ℕ → ℕ → Bool
stack n q c = stack_fits times sets (counts 0 n 1 0) q c

-- Of 0, which nobody blocks: one server, and two in either order. Of 1, which 0 blocks: one, but not two.
stands-cases :
    (stack 1 (calls (1 ∷ [])) 0 ≡ true) × (stack 1 (calls (1 ∷ 2 ∷ [])) 0 ≡ true)
    × (stack 1 (calls (2 ∷ 1 ∷ [])) 0 ≡ true) × (stack 1 (calls (2 ∷ [])) 1 ≡ true)
    × (stack 1 (calls (2 ∷ 1 ∷ [])) 1 ≡ false)
unfolding member set_of pad unpad holds_only used_first place_of every seen_from queue_seen ticket_set blocker_in stack_fits
stands-cases = (refl, refl, refl, refl, refl)

-- no ticket for server 1, alone and above another; server 3, for which there is none, and 16, which there isn't;
-- server 1 twice; an unused place before a call
falls-cases :
    (stack 0 (calls (1 ∷ [])) 0 ≡ false) × (stack 0 (calls (2 ∷ 1 ∷ [])) 0 ≡ false)
    × (stack 1 (calls (3 ∷ [])) 0 ≡ false) × (stack 1 (calls (16 ∷ [])) 0 ≡ false)
    × (stack 1 (calls (1 ∷ 1 ∷ [])) 0 ≡ false)
    × (stack 1 (1 ∷ 255 ∷ 2 ∷ 255 ∷ 255 ∷ 255 ∷ 255 ∷ 255 ∷ []) 0 ≡ false)
unfolding member set_of pad unpad holds_only used_first place_of every seen_from queue_seen ticket_set blocker_in stack_fits
falls-cases = (refl, refl, refl, refl, refl, refl)

-- A CONTEXT

-- 0 and 1 are queued, and 7 entered last
abbrev context : List ℕ → List ℕ → ℕ → Bool
context cs q c = context_fits true 7 times sets 3 cs q c

-- four tickets, and two servers of a context that nobody blocks; nothing of one that isn't queued
sound-cases :
    (context (counts 0 4 1 0) (calls (1 ∷ 2 ∷ [])) 0 ≡ true) × (context (counts 0 0 1 0) (calls (2 ∷ [])) 1 ≡ true)
    × (context (counts 0 0 0 0) (calls []) 2 ≡ true)
unfolding member set_of pad unpad holds_only used_first place_of every seen_from queue_seen ticket_set blocker_in
    few_tickets time_fits stack_fits context_fits
sound-cases = (refl, refl, refl)

-- Queued: five tickets; no ticket for the call; a timestamp above the last entry's; 15 counts; 7 places. Not queued: a
-- ticket is left; a timestamp is left; 15 counts; 7 places.
unsound-cases :
    (context (counts 0 5 1 0) (calls (1 ∷ [])) 0 ≡ false) × (context (counts 0 0 1 0) (calls (1 ∷ [])) 0 ≡ false)
    × (context_fits true 6 times sets 3 (counts 0 0 1 0) (calls (2 ∷ [])) 1 ≡ false)
    × (context (0 ∷ 1 ∷ 0 ∷ 0 ∷ 0 ∷ 0 ∷ 0 ∷ 0 ∷ 0 ∷ 0 ∷ 0 ∷ 0 ∷ 0 ∷ 0 ∷ 0 ∷ []) (calls (1 ∷ [])) 0 ≡ false)
    × (context (counts 0 1 0 0) (pad 7 (1 ∷ [])) 0 ≡ false)
    × (context (counts 0 0 0 1) (calls []) 2 ≡ false) × (context (counts 0 0 0 0) (calls []) 7 ≡ false)
    × (context (0 ∷ 0 ∷ 0 ∷ 0 ∷ 0 ∷ 0 ∷ 0 ∷ 0 ∷ 0 ∷ 0 ∷ 0 ∷ 0 ∷ 0 ∷ 0 ∷ 0 ∷ []) (calls []) 2 ≡ false)
    × (context (counts 0 0 0 0) (pad 7 []) 2 ≡ false)
unfolding member set_of pad unpad holds_only used_first place_of every seen_from queue_seen ticket_set blocker_in
    few_tickets time_fits stack_fits context_fits
unsound-cases = (refl, refl, refl, refl, refl, refl, refl, refl, refl)
