-- Entry, call and reply: what each answers, and what it leaves of the group.
-- Assumes nothing.
use Rattle.std.specs.Prelude.{ℕ, zero, suc, ◌-◌, Bool, true, not, ◌&&◌, cond, List, [], ◌∷◌, eqb, ltb, leb, length, get_or, set}
use Rattle.rules.specs.Limits.{unused_place}
use Rattle.rules.specs.Lists.{has}
use Rattle.rules.specs.Refusals.{accepted, unsound}
use Rattle.places.specs.Places.{append_of}
use Rattle.group_rules.specs.declared.Tickets.{Tickets}
use Rattle.group_rules.specs.declared.Group.{Group}
use Rattle.group_rules.specs.declared.Event as code
use Rattle.group_rules.specs.declared.Event.TheVariants as case
use Rattle.group_rules.specs.Limits.{max_contexts, max_servers, max_depth}
use Rattle.group_rules.specs.Refusals.{no_such, queued_already, many_tickets, no_first_ticket, not_later}
use Rattle.group_rules.specs.Refusals.{not_queued, not_committed, no_ticket, on_stack, stack_full}
use Rattle.group_rules.specs.Groups.{no_tickets, no_calls, stack_with, tickets_of, tickets_for, has_ticket}
use Rattle.group_rules.specs.Groups.{places_of, calls_of, queued}
use Rattle.group_rules.specs.Blocking.{committed, current_of}
use Rattle.group_rules.specs.Sound.{few_tickets, sound_of}

-- A context enters with a timestamp, its first call and tickets, by server; the server of its current request calls
-- another, or replies.
pub data Event : Type 0 where
  entry : (c time first : ℕ) (tickets : List ℕ) → Event
  call : (c s : ℕ) → Event
  reply : (c : ℕ) → Event

-- the code's events, with the tickets that an entry brings beside it
abbrev pub said : code.Event → Tickets → Event
said (case.Entry c t s) ts = entry c.0 t s.0 ts.counts
said (case.Call c s) ts = call c.0 s.0
said (case.Reply c) ts = reply c.0

abbrev pub is_context : ℕ → Bool
is_context c = ltb c max_contexts

abbrev pub is_server : ℕ → Bool
is_server s = ltb s max_servers

module _ (g : Group) where
  -- THE ANSWERS, each in its order

  -- 40 no such context or server; 41 already queued; 42 over 4 tickets for a server; 43 no ticket for the first call;
  -- 44 timestamp not above that of every earlier entry. The first entry takes any.
  unfoldable pub entry_answer : ℕ → ℕ → ℕ → List ℕ → ℕ
  entry_answer c time first tickets =
      cond (not (is_context c && is_server first)) no_such
      (cond (queued g c) queued_already
      (cond (not (few_tickets tickets)) many_tickets
      (cond (eqb (get_or tickets first 0) 0) no_first_ticket
      (cond (g.entered && leb time g.last) not_later accepted))))

  -- 45 not queued; 46 not committed
  abbrev pub serves : ℕ → ℕ → ℕ
  serves c rest = cond (not (queued g c)) not_queued (cond (not (committed g c)) not_committed rest)

  -- 40; 45, 46; 47 no ticket; 48 server on the stack; 49 stack full
  unfoldable pub call_answer : ℕ → ℕ → ℕ
  call_answer c s =
      cond (not (is_context c && is_server s)) no_such (serves c
      (cond (not (has_ticket g c s)) no_ticket
      (cond (has s (calls_of g c)) on_stack
      (cond (leb max_depth (length (calls_of g c))) stack_full accepted))))

  -- 40; 45, 46
  unfoldable pub reply_answer : ℕ → ℕ
  reply_answer c = cond (not (is_context c)) no_such (serves c accepted)

  abbrev pub event_answer : Event → ℕ
  event_answer (entry c time first tickets) = entry_answer c time first tickets
  event_answer (call c s) = call_answer c s
  event_answer (reply c) = reply_answer c

-- WHAT THEY LEAVE

-- n numbers: those of the list, and zeros behind them
unfoldable pub filled : ℕ → List ℕ → List ℕ
filled zero l = []
filled (suc n) [] = 0 ∷ filled n []
filled (suc n) (x ∷ l) = x ∷ filled n l

-- the places without the last call on them
abbrev pub popped_of : List ℕ → List ℕ → List ℕ
popped_of calls places = set places (length calls - 1) unused_place

module _ (g : Group) where
  -- S1: the context is queued with its timestamp and tickets. S2: its first call is on the stack.
  unfoldable pub entered : ℕ → ℕ → ℕ → List ℕ → Group
  entered c time first tickets = record {
    entered = true;
    last = time;
    times = set g.times c time;
    tickets = set g.tickets c (record { counts = filled max_servers tickets });
    stacks = set g.stacks c (stack_with (first ∷ []));
  }

  -- S2: the call is pushed onto the stack.
  unfoldable pub called : ℕ → ℕ → Group
  called c s = record {
    entered = g.entered;
    last = g.last;
    times = g.times;
    tickets = g.tickets;
    stacks = set g.stacks c (record { places = append_of s (places_of g c) });
  }

  -- S6: the call is popped, and one ticket for its server is used up.
  unfoldable pub popped : ℕ → Group
  popped c = record {
    entered = g.entered;
    last = g.last;
    times = g.times;
    tickets = set g.tickets c (record {
      counts = set (tickets_of g c) (current_of g c) (tickets_for g c (current_of g c) - 1);
    });
    stacks = set g.stacks c (record { places = popped_of (calls_of g c) (places_of g c) });
  }

  -- S7: the context leaves the queue. Tickets that are left vanish with it.
  unfoldable pub gone : ℕ → Group
  gone c = record {
    entered = g.entered;
    last = g.last;
    times = set g.times c 0;
    tickets = set g.tickets c no_tickets;
    stacks = set g.stacks c no_calls;
  }

  -- the reply to the first call, or to a later one
  abbrev pub replied : ℕ → Group
  replied c = cond (eqb (length (calls_of g c)) 1) (gone c) (popped c)

  -- what an accepted event leaves
  abbrev pub after : Event → Group
  after (entry c time first tickets) = entered c time first tickets
  after (call c s) = called c s
  after (reply c) = replied c

  -- ANY GROUP, ANY EVENT

  -- 19 for a group that isn't sound, before all else
  unfoldable pub answer_of : Event → ℕ
  answer_of e = cond (sound_of g) (event_answer g e) unsound

  -- A refused event changes nothing.
  unfoldable pub step_of : Event → Group
  step_of e = cond (eqb (answer_of e) accepted) (after e) g
