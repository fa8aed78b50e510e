-- Of a queued context, timestamps and sets tell what the rules do: who prevents it from being committed, who blocks it
-- directly, and whether it is committed. Assumes nothing.
use Prim.Native.Nat.{ℕ, ◌<◌}
use mathlib.Core.Path.{◌≡◌, sym, ◌∙◌}
use mathlib.Core.Bool.{true, false, and-false}
use mathlib.Core.List.{List}
use lib.Dec.{ltb}
use lib.ListN.{get_or}
use Rattle.rules.proofs.Tests.{by-test}
use Rattle.rules.proofs.Highest.{highest-same}
use Rattle.group_rules.specs.declared.Group.{Group}
use Rattle.group_rules.specs.Limits.{max_contexts}
use Rattle.group_rules.specs.Groups.{time_of, tickets_of, queued}
use Rattle.group_rules.specs.Blocking.{share, blocks, committed, blocker_of}
use Rattle.blocking.specs.Queue.{SetsOf, ticket_set, is_nobody, blocks_in, blocker_in}
use Rattle.blocking.proofs.Tickets.{common-tickets, common-none}
use Rattle.blocking.proofs.Found.{later_by, highest-none}

module _ (g : Group) (sets : List ℕ) (is : SetsOf g.tickets g.stacks sets) where
  -- the set of a context that is queued, and of one that isn't
  set-queued : (c : ℕ) → c < max_contexts → queued g c ≡ true → get_or sets c 0 ≡ ticket_set (tickets_of g c)
  set-queued c l q = is c l ∙ rw q

  set-not : (c : ℕ) → c < max_contexts → queued g c ≡ false → get_or sets c 0 ≡ 0
  set-not c l q = is c l ∙ rw q

  module _ (c : ℕ) (low : c < max_contexts) (waits : queued g c ≡ true) where
    pub blocks-in : (b : ℕ) → b < max_contexts → blocks_in g.times sets c b ≡ blocks g c b
    unfolding share
    blocks-in b l =
        by-test (queued g b)
        (λ q. rw (set-queued b l q, set-queued c low waits, q, common-tickets (tickets_of g b) (tickets_of g c)))
        (λ q. rw (set-not b l q, q, common-none (get_or sets c 0)) (and-false (ltb (time_of g b) (time_of g c))))

    pub blocker-in : blocker_in g.times sets c ≡ blocker_of g c
    unfolding blocker_in blocker_of
    blocker-in = highest-same (later_by g.times) (blocks_in g.times sets c) (blocks g c) max_contexts blocks-in

    pub committed-in : committed g c ≡ is_nobody (blocker_in g.times sets c)
    unfolding committed blocker_of
    committed-in = rw (blocker-in, waits) (sym (highest-none (later_by g.times) (blocks g c) max_contexts))
