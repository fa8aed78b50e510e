-- Which groups are sound, as one test: a clause of it under each part of request 12's sentence.
-- Assumes nothing.
use Rattle.std.specs.Prelude.{ℕ, Bool, not, ◌&&◌, ◌||◌, cond, List, eqb, leb, length}
use Rattle.rules.specs.Lists.{some_below}
use Rattle.places.specs.Places.{blank, used_first}
use Rattle.places.specs.Tests.{every, all_below, zeros, distinct}
use Rattle.group_rules.specs.declared.Group.{Group}
use Rattle.group_rules.specs.Limits.{max_contexts, max_servers, max_tickets, max_depth}
use Rattle.group_rules.specs.Groups.{time_of, tickets_of, has_ticket, places_of, calls_of, queued}
use Rattle.group_rules.specs.Blocking.{committed}

-- at most 4 tickets for each server
unfoldable pub few_tickets : List ℕ → Bool
few_tickets = every (λ (n : ℕ). leb n max_tickets)

module _ (g : Group) where
  -- another queued context has the timestamp of c
  abbrev pub same_time : ℕ → ℕ → Bool
  same_time c b = not (eqb b c) && (queued g b && eqb (time_of g b) (time_of g c))

  -- Queued timestamps differ, none above the last entry's.
  unfoldable pub time_sound : ℕ → Bool
  time_sound c = (g.entered && leb (time_of g c) g.last) && not (some_below (same_time c) max_contexts)

  -- Stacks of 1 to 8 different servers with tickets, over 1 only if committed. (Used places come first.)
  unfoldable pub stack_sound : ℕ → Bool
  stack_sound c =
      (used_first (places_of g c) && distinct (calls_of g c))
      && (every (has_ticket g c) (calls_of g c) && (leb (length (calls_of g c)) 1 || committed g c))

  -- The rest is empty.
  unfoldable pub is_empty : ℕ → Bool
  is_empty c = eqb (time_of g c) 0 && (zeros (tickets_of g c) && blank (places_of g c))

  -- so many counts and places
  abbrev pub shaped : ℕ → Bool
  shaped c = eqb (length (tickets_of g c)) max_servers && eqb (length (places_of g c)) max_depth

  unfoldable pub context_sound : ℕ → Bool
  context_sound c =
      shaped c && cond (queued g c) (time_sound c && (few_tickets (tickets_of g c) && stack_sound c)) (is_empty c)

-- so many contexts
abbrev pub eight_contexts : Group → Bool
eight_contexts g =
    eqb (length g.times) max_contexts
    && (eqb (length g.tickets) max_contexts && eqb (length g.stacks) max_contexts)

-- The timestamp of the last entry is 0 if nobody has entered.
unfoldable pub sound_of : Group → Bool
sound_of g = eight_contexts g && ((g.entered || eqb g.last 0) && all_below max_contexts (context_sound g))
