-- The servers that contexts have tickets for, as sets; and who blocks whom by timestamps and these sets.
-- Assumes nothing.
use Rattle.std.specs.Prelude.{ℕ, ◌<◌, ◌≡◌, Bool, true, false, not, ◌&&◌, cond, List, eqb, ltb, get_or}
use Rattle.std.proofs.Math.Option.{Option, some, none}
use Rattle.std.specs.Prelude as code
use Rattle.std.specs.Prelude.{Some, None}
use Rattle.rules.specs.Lists.{highest}
use Rattle.sets.specs.Sets.{set_of, with_of, common_of}
use Rattle.group_rules.specs.declared.Tickets.{Tickets}
use Rattle.group_rules.specs.declared.Stack.{Stack}
use Rattle.group_rules.specs.Limits.{max_contexts, max_servers}
use Rattle.group_rules.specs.Groups.{no_tickets, no_calls, has_call}

-- SETS OF SERVERS

-- a set with server s, if there are n > 0 tickets for it
abbrev pub with_ticket : ℕ → ℕ → ℕ → ℕ
with_ticket set n s = cond (eqb n 0) set (with_of set s)

-- the servers that there are tickets for
unfoldable pub ticket_set : List ℕ → ℕ
ticket_set counts = set_of max_servers (λ (s : ℕ). ltb 0 (get_or counts s 0))

-- the same of a context that is queued; none of one that isn't
abbrev pub queued_set : List ℕ → List ℕ → ℕ
queued_set counts places = cond (has_call places) (ticket_set counts) 0

-- the same of each context, in its place
abbrev pub SetsOf : List Tickets → List Stack → List ℕ → Type 0
SetsOf tickets stacks sets =
    (c : ℕ) → c < max_contexts
    → get_or sets c 0 ≡ queued_set (get_or tickets c no_tickets).counts (get_or stacks c no_calls).places

-- BY TIMESTAMPS AND SETS

module _ (times sets : List ℕ) where
  -- b is earlier than c, and their sets have a server in common
  abbrev pub blocks_in : ℕ → ℕ → Bool
  blocks_in c b =
      ltb (get_or times b 0) (get_or times c 0) && not (eqb (common_of (get_or sets b 0) (get_or sets c 0)) 0)

-- the context that the code has found, if there is one
abbrev pub found_in : code.Option ℕ → Option ℕ
found_in None = none
found_in (Some b) = some b

-- nobody is found
abbrev pub is_nobody : Option ℕ → Bool
is_nobody none = true
is_nobody (some b) = false

-- of b and the one found before it, if there is one, the later
abbrev pub later_of : List ℕ → Option ℕ → ℕ → ℕ
later_of times none b = b
later_of times (some a) b = cond (ltb (get_or times a 0) (get_or times b 0)) b a

-- the latest of those that prevent c from being committed
unfoldable pub blocker_in : List ℕ → List ℕ → ℕ → Option ℕ
blocker_in times sets c =
    highest (λ (a b : ℕ). ltb (get_or times b 0) (get_or times a 0)) (blocks_in times sets c) max_contexts
