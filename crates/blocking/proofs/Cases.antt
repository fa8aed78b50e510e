-- The definitions, tried on tickets, timestamps and stacks that are written out: each case computes.
-- Assumes nothing.
use Prim.Native.Nat.{ℕ}
use mathlib.Core.Path.{◌≡◌, refl}
use mathlib.Core.Bool.{true, false}
use mathlib.Core.List.{List, [], ◌∷◌, ◌++◌}
use mathlib.Core.Option.{some, none}
use Rattle.std.specs.Prelude.{Some, None}
use lib.ListN.{replicate}
use Rattle.sets.specs.Sets.{member, set_of}
use Rattle.places.specs.Places.{unpad}
use Rattle.group_rules.specs.Blocking.{nobody, server, context, to_blocker}
use Rattle.blocking.specs.declared.Delegate.TheVariants as case
use Rattle.blocking.specs.Queue.{with_ticket, ticket_set, queued_set, found_in, is_nobody, blocks_in, later_of, blocker_in}
use Rattle.blocking.specs.Delegates.{told_of, delegate_in}

-- SETS OF SERVERS

-- server 1 joins 0 and 2 with three tickets, not with none; server 2 joins again
with-ticket : (with_ticket 5 3 1 ≡ 7) × (with_ticket 5 0 1 ≡ 5) × (with_ticket 5 1 2 ≡ 5)
unfolding member set_of
with-ticket = (refl, refl, refl)

-- two tickets for server 1 and one for server 3; four for server 15, the last; a number past it is no server's
ticket-set :
    (ticket_set (0 ∷ 2 ∷ 0 ∷ 1 ∷ []) ≡ 10) × (ticket_set (replicate 15 0 ++ (4 ∷ [])) ≡ 32768)
    × (ticket_set (replicate 16 0 ++ (1 ∷ [])) ≡ 0)
unfolding set_of ticket_set
ticket-set = (refl, refl, refl)

-- the set of a context that is queued, and of one that isn't, though it has tickets
queued-set : (queued_set (0 ∷ 2 ∷ []) (3 ∷ 255 ∷ []) ≡ 2) × (queued_set (0 ∷ 2 ∷ []) (255 ∷ 3 ∷ []) ≡ 0)
unfolding set_of ticket_set unpad
queued-set = (refl, refl)

-- BY TIMESTAMPS AND SETS

-- context 0 has tickets for the servers 0 and 1, contexts 1 and 2 for 1, context 3 for 2, and context 5 for 1 and 2;
-- contexts 4, 6 and 7 aren't queued
abbrev times : List ℕ
times = 5 ∷ 9 ∷ 9 ∷ 2 ∷ 3 ∷ 7 ∷ 0 ∷ 0 ∷ []

abbrev sets : List ℕ
sets = 3 ∷ 2 ∷ 2 ∷ 4 ∷ 0 ∷ 6 ∷ 0 ∷ 0 ∷ []

-- an earlier one with a server in common blocks
blocks-some : (blocks_in times sets 1 0 ≡ true) × (blocks_in times sets 1 5 ≡ true) × (blocks_in times sets 5 3 ≡ true)
unfolding member set_of
blocks-some = (refl, refl, refl)

-- a later one does not, nor one with the same timestamp, nor itself
blocks-later : (blocks_in times sets 0 1 ≡ false) × (blocks_in times sets 1 2 ≡ false) × (blocks_in times sets 1 1 ≡ false)
unfolding member set_of
blocks-later = (refl, refl, refl)

-- nor one without a server in common, nor one that isn't queued
blocks-apart : (blocks_in times sets 1 3 ≡ false) × (blocks_in times sets 1 4 ≡ false)
unfolding member set_of
blocks-apart = (refl, refl)

-- the first that is found; the later of two, in either order; of two with the same timestamp the one found before
later-of :
    (later_of times none 3 ≡ 3) × (later_of times (some 0) 5 ≡ 5) × (later_of times (some 5) 0 ≡ 5)
    × (later_of times (some 1) 2 ≡ 1)
later-of = (refl, refl, refl, refl)

found-in : (found_in None ≡ none) × (found_in (Some 0) ≡ some 0) × (found_in (Some 7) ≡ some 7)
found-in = (refl, refl, refl)

is-nobody : (is_nobody none ≡ true) × (is_nobody (some 0) ≡ false) × (is_nobody (some 7) ≡ false)
is-nobody = (refl, refl, refl)

-- of 0 and 5 the later blocks 1, and of 0 and 3 the later blocks 5; nobody blocks 0, nor 4, which isn't queued
blocker-some :
    (blocker_in times sets 1 ≡ some 5) × (blocker_in times sets 5 ≡ some 0) × (blocker_in times sets 0 ≡ none)
    × (blocker_in times sets 4 ≡ none)
unfolding member set_of blocker_in
blocker-some = (refl, refl, refl, refl)

-- DELEGATES

context-some : (to_blocker none ≡ nobody) × (to_blocker (some 0) ≡ context 0) × (to_blocker (some 7) ≡ context 7)
context-some = (refl, refl, refl)

-- a committed one to the server on top of its stack, one that is blocked to who blocks it, one that isn't queued to
-- nobody
delegate-some :
    (delegate_in times sets (1 ∷ 0 ∷ 255 ∷ []) 0 ≡ server 0) × (delegate_in times sets (1 ∷ 255 ∷ []) 1 ≡ context 5)
    × (delegate_in times sets (255 ∷ 1 ∷ []) 4 ≡ nobody)
unfolding member set_of unpad blocker_in delegate_in
delegate-some = (refl, refl, refl)

-- each case of the code's answer
told-some :
    (told_of case.Nobody ≡ nobody) × (told_of (case.Server (record { 0 = 3 })) ≡ server 3)
    × (told_of (case.Context (record { 0 = 4 })) ≡ context 4)
told-some = (refl, refl, refl)
