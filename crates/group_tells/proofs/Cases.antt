-- The line of an event and of a malformed one, computed. A text is written as its bytes, under what they say.
-- Assumes nothing.
use Prim.Native.Nat.{ℕ, zero, suc}
use mathlib.Core.Path.{◌≡◌, refl}
use mathlib.Core.Bool.{true}
use mathlib.Core.List.{List, [], ◌∷◌, ◌++◌}
use lib.ListN.{replicate}
use Rattle.text.specs.Text.{decimal}
use Rattle.places.specs.Places.{pad, unpad}
use Rattle.group_rules.specs.declared.Tickets.{Tickets}
use Rattle.group_rules.specs.declared.Group.{Group}
use Rattle.group_rules.specs.Groups.{no_tickets, no_calls, stack_with, none_entered}
use Rattle.group_rules.specs.Blocking.{nobody, server, context, share, committed, blocker_of, delegate_of}
use Rattle.group_tells.specs.Tells.{field_text, first_fields, event_text, malformed_text}

-- a space and `.`
-- a space and `+15`
-- a space and `<7`
pub fields :
    (field_text nobody ≡ 32 ∷ 46 ∷ [])
    × (field_text (server 15) ≡ 32 ∷ 43 ∷ 49 ∷ 53 ∷ [])
    × (field_text (context 7) ≡ 32 ∷ 60 ∷ 55 ∷ [])
unfolding decimal
fields = (refl, refl, refl)

-- a space and `.`, k times
abbrev dots : ℕ → List ℕ
dots zero = []
dots (suc k) = 32 ∷ 46 ∷ dots k

-- one ticket for server 1
abbrev one : Tickets
one = record { counts = 0 ∷ 1 ∷ replicate 14 0 }

-- context 0 has entered and called server 1; context 2 entered later, with a ticket for the same server, and waits
abbrev two : Group
two = record {
  entered = true;
  last = 9;
  times = 4 ∷ 0 ∷ 9 ∷ replicate 5 0;
  tickets = one ∷ no_tickets ∷ one ∷ replicate 5 no_tickets;
  stacks = stack_with (1 ∷ []) ∷ no_calls ∷ stack_with (1 ∷ []) ∷ replicate 5 no_calls;
}

-- (nothing)
-- a space and `+1`
-- a space and `+1`, a space and `.`, a space and `<0`
pub first-fields :
    (first_fields two 0 ≡ [])
    × (first_fields two 1 ≡ 32 ∷ 43 ∷ 49 ∷ [])
    × (first_fields two 3 ≡ 32 ∷ 43 ∷ 49 ∷ 32 ∷ 46 ∷ 32 ∷ 60 ∷ 48 ∷ [])
unfolding decimal pad unpad share committed blocker_of delegate_of first_fields
first-fields = (refl, refl, refl)

-- 0 45 . . . . . . . .
-- 18446744073709551615 0 +1 . <0 . . . . .
pub events :
    (event_text 0 45 none_entered ≡ 48 ∷ 32 ∷ 52 ∷ 53 ∷ dots 8 ++ (10 ∷ []))
    × (event_text 18446744073709551615 0 two
    ≡ 49 ∷ 56 ∷ 52 ∷ 52 ∷ 54 ∷ 55 ∷ 52 ∷ 52 ∷ 48 ∷ 55
    ∷ 51 ∷ 55 ∷ 48 ∷ 57 ∷ 53 ∷ 53 ∷ 49 ∷ 54 ∷ 49 ∷ 53 ∷ 32 ∷ 48 ∷ 32 ∷ 43 ∷ 49
    ∷ 32 ∷ 46 ∷ 32 ∷ 60 ∷ 48 ∷ dots 5 ++ (10 ∷ []))
unfolding decimal pad unpad share committed blocker_of delegate_of first_fields event_text
events = (refl, refl)

-- malformed 1
-- malformed 10
pub malformed :
    (malformed_text 1 ≡ 109 ∷ 97 ∷ 108 ∷ 102 ∷ 111 ∷ 114 ∷ 109 ∷ 101 ∷ 100 ∷ 32 ∷ 49 ∷ 10 ∷ [])
    × (malformed_text 10 ≡ 109 ∷ 97 ∷ 108 ∷ 102 ∷ 111 ∷ 114 ∷ 109 ∷ 101 ∷ 100 ∷ 32 ∷ 49 ∷ 48 ∷ 10 ∷ [])
unfolding decimal malformed_text
malformed = (refl, refl)
