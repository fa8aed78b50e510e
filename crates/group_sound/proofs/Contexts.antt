-- The test of a context is the clause of the definition.
-- Assumes nothing.
use Prim.Native.Nat.{ℕ, ◌<◌}
use mathlib.Core.Path.{◌≡◌}
use mathlib.Core.List.{List}
use lib.Dec.{eqb}
use lib.ListN.{length, get_or}
use borrow.Author.Tests.{eqb-true}
use Rattle.rules.proofs.Tests.{by-test, both_true}
use Rattle.group_rules.specs.declared.Tickets.{Tickets}
use Rattle.group_rules.specs.declared.Stack.{Stack}
use Rattle.group_rules.specs.declared.Group.{Group}
use Rattle.group_rules.specs.Limits.{max_contexts, max_servers, max_depth}
use Rattle.group_rules.specs.Groups.{no_tickets, no_calls, tickets_of, places_of, queued}
use Rattle.group_rules.specs.Sound.{is_empty, shaped, context_sound}
use Rattle.blocking.specs.Queue.{SetsOf}
use Rattle.group_sound.specs.Answers.{queue_set, context_fits}
use Rattle.group_sound.proofs.Times.{time-fits}
use Rattle.group_sound.proofs.Stacks.{stack-fits}

context-fits : (g : Group) (sets : List ℕ) → SetsOf g.tickets g.stacks sets → (c : ℕ) → c < max_contexts
    → context_fits g.entered g.last g.times sets (queue_set g.stacks) (tickets_of g c) (places_of g c) c
    ≡ context_sound g c
unfolding is_empty context_fits context_sound
context-fits g sets is c low =
    by-test (shaped g c)
    (λ s.
    let long = eqb-true (length (tickets_of g c)) max_servers
    (both_true (eqb (length (tickets_of g c)) max_servers) (eqb (length (places_of g c)) max_depth) s).0 in
    by-test (queued g c)
    (λ q. rw (s, q, time-fits g c, stack-fits g sets is c low q long))
    (λ q. rw (s, q)))
    (λ s. rw s)

-- the same of what stands for the queue, the tickets and the stack
pub context-is : (g : Group) (sets : List ℕ) → SetsOf g.tickets g.stacks sets → (c : ℕ) → c < max_contexts
    → {queue : ℕ} {t : Tickets} {s : Stack} → queue ≡ queue_set g.stacks → t ≡ get_or g.tickets c no_tickets
    → s ≡ get_or g.stacks c no_calls
    → context_fits g.entered g.last g.times sets queue t.counts s.places c ≡ context_sound g c
context-is g sets is c low p q r = rw (p, q, r) (context-fits g sets is c low)
