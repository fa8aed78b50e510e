-- What a group holds of each context: its timestamp, its tickets and its stack. A number that is no context's has none
-- of them.
-- Assumes nothing.
use Rattle.std.specs.Prelude.{ℕ, Bool, false, List, [], ltb, length, get_or, replicate}
use Rattle.places.specs.Places.{pad, unpad}
use Rattle.group_rules.specs.declared.Tickets.{Tickets}
use Rattle.group_rules.specs.declared.Stack.{Stack}
use Rattle.group_rules.specs.declared.Group.{Group}
use Rattle.group_rules.specs.Limits.{max_contexts, max_servers, max_depth}

-- NOTHING

abbrev pub no_tickets : Tickets
no_tickets = record { counts = replicate max_servers 0 }

-- the places of a stack that hold these calls; unused ones hold 255
abbrev pub stack_with : List ℕ → Stack
stack_with calls = record { places = pad max_depth calls }

abbrev pub no_calls : Stack
no_calls = stack_with []

-- the group that nobody has entered
abbrev pub none_entered : Group
none_entered = record {
  entered = false;
  last = 0;
  times = replicate max_contexts 0;
  tickets = replicate max_contexts no_tickets;
  stacks = replicate max_contexts no_calls;
}

-- OF A CONTEXT

-- ts(c): its timestamp
abbrev pub time_of : Group → ℕ → ℕ
time_of g c = get_or g.times c 0

-- T(c): its tickets, so many for each server
abbrev pub tickets_of : Group → ℕ → List ℕ
tickets_of g c = (get_or g.tickets c no_tickets).counts

abbrev pub tickets_for : Group → ℕ → ℕ → ℕ
tickets_for g c s = get_or (tickets_of g c) s 0

abbrev pub has_ticket : Group → ℕ → ℕ → Bool
has_ticket g c s = ltb 0 (tickets_for g c s)

-- its call stack: the servers of the calls that are not answered, the first call first
abbrev pub places_of : Group → ℕ → List ℕ
places_of g c = (get_or g.stacks c no_calls).places

abbrev pub calls_of : Group → ℕ → List ℕ
calls_of g c = unpad (places_of g c)

-- a call is on a stack
abbrev pub has_call : List ℕ → Bool
has_call places = ltb 0 (length (unpad places))

-- It is in the group queue while its first call is on the stack.
abbrev pub queued : Group → ℕ → Bool
queued g c = has_call (places_of g c)
