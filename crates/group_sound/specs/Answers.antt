-- What the functions of this crate answer, by the parts of a group that each is handed.
-- Assumes nothing.
use Rattle.std.specs.Prelude.{ℕ, Bool, true, false, not, ◌&&◌, ◌||◌, cond, List, eqb, leb, length, get_or}
use Rattle.std.proofs.Math.Option.{Option, some, none}
use Rattle.rules.specs.Lists.{some_below}
use Rattle.sets.specs.Sets.{member, set_of, with_of, without_of}
use Rattle.places.specs.Places.{blank, used_of}
use Rattle.places.specs.Tests.{zeros}
use Rattle.seen.specs.Seen.{queue_seen}
use Rattle.group_rules.specs.declared.Stack.{Stack}
use Rattle.group_rules.specs.Limits.{max_contexts, max_servers, max_depth}
use Rattle.group_rules.specs.Groups.{no_calls, has_call}
use Rattle.group_rules.specs.Sound.{few_tickets}
use Rattle.blocking.specs.Queue.{ticket_set, is_nobody, blocker_in}

-- THE QUEUE

-- a set with context c, if its stack has a call
abbrev pub with_queued : ℕ → List ℕ → ℕ → ℕ
with_queued queue places c = cond (has_call places) (with_of queue c) queue

-- the queued contexts, as a set
unfoldable pub queue_set : List Stack → ℕ
queue_set stacks = set_of max_contexts (λ (c : ℕ). has_call (get_or stacks c no_calls).places)

-- A CONTEXT

-- nothing is held of a context
abbrev pub empty_of : ℕ → List ℕ → List ℕ → Bool
empty_of time counts places = eqb time 0 && (zeros counts && blank places)

-- b is one of the others, and has the timestamp of c
abbrev pub has_time : List ℕ → ℕ → ℕ → ℕ → Bool
has_time times others c b = eqb (get_or times b 0) (get_or times c 0) && member others b

-- its timestamp is not above the last entry's, and no other of the queue has it
unfoldable pub time_fits : Bool → ℕ → List ℕ → ℕ → ℕ → Bool
time_fits entered last times queue c =
    (entered && leb (get_or times c 0) last) && not (some_below (has_time times (without_of queue c) c) max_contexts)

-- something is seen
abbrev pub is_some : Option ℕ → Bool
is_some none = false
is_some (some s) = true

-- different servers with tickets, and more than one only if nobody blocks it
unfoldable pub stack_fits : List ℕ → List ℕ → List ℕ → List ℕ → ℕ → Bool
stack_fits times sets counts places c =
    is_some (queue_seen (member (ticket_set counts)) places 0)
    && (leb (used_of places) 1 || is_nobody (blocker_in times sets c))

-- so many counts and places, and the clauses of a context that is queued, or of one that isn't
unfoldable pub context_fits : Bool → ℕ → List ℕ → List ℕ → ℕ → List ℕ → List ℕ → ℕ → Bool
context_fits entered last times sets queue counts places c =
    (eqb (length counts) max_servers && eqb (length places) max_depth)
    && cond (has_call places)
    (time_fits entered last times queue c && (few_tickets counts && stack_fits times sets counts places c))
    (empty_of (get_or times c 0) counts places)
