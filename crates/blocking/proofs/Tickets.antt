-- The servers that there are tickets for, as sets: one server more, and two such sets. A stack with a call.
-- Assumes nothing.
use Prim.Native.Nat.{ℕ, zero, suc, ◌+◌, ◌<◌}
use mathlib.Core.Path.{◌≡◌, refl, ◌∙◌}
use mathlib.Core.Bool.{Bool, not, ◌&&◌, cond}
use mathlib.Core.List.{List, [], ◌∷◌}
use native.Mathlib.Omega.{arith}
use lib.Dec.{eqb, ltb}
use lib.ListN.{length, get_or}
use borrow.Author.Tests.{ne_eqb, lt-ltb}
use Rattle.rules.specs.Limits.{max_clients, unused_place}
use Rattle.rules.specs.Lists.{some_below}
use Rattle.rules.proofs.Tests.{by-test}
use Rattle.sets.specs.Sets.{member, set_of, with_of, common_of}
use Rattle.sets.proofs.Bits.{member-none}
use Rattle.sets.proofs.Laws.{common-set_of, set_of-next, set_of-none, set_of-some}
use Rattle.places.specs.Places.{unpad}
use Rattle.group_rules.specs.Limits.{max_servers}
use Rattle.group_rules.specs.Groups.{has_call}
use Rattle.blocking.specs.Queue.{with_ticket, ticket_set}

-- a context is queued if the first place of its stack is used
pub queued-first : (q : List ℕ) → 0 < length q → not (eqb (get_or q 0 0) unused_place) ≡ has_call q
unfolding unpad
queued-first [] h = absurd (omega arith)
queued-first (x ∷ q) h =
    by-test (eqb x unused_place) (λ e. rw e) (λ e. rw (e, lt-ltb 0 (suc (length (unpad q))) (omega arith)))

-- the test of a server
abbrev pub ticket_for : List ℕ → ℕ → Bool
ticket_for counts s = ltb 0 (get_or counts s 0)

-- the servers below s that there are tickets for, and s
pub ticket-more : (counts : List ℕ) (s : ℕ) → s < max_clients
    → with_ticket (set_of s (ticket_for counts)) (get_or counts s 0) s ≡ set_of (s + 1) (ticket_for counts)
ticket-more counts s h = turned (get_or counts s 0) ∙ set_of-next s (ticket_for counts) h
  where
    turned : (n : ℕ)
        → let set = set_of s (ticket_for counts) in with_ticket set n s ≡ cond (ltb 0 n) (with_of set s) set
    turned zero = refl
    turned (suc n) = rw (ne_eqb (suc n) 0 (λ f. omega arith), lt-ltb 0 (suc n) (omega arith))

-- two such sets have a server in common
pub common-tickets : (s t : List ℕ)
    → not (eqb (common_of (ticket_set s) (ticket_set t)) 0)
    ≡ some_below (λ (j : ℕ). ticket_for s j && ticket_for t j) max_servers
unfolding ticket_set
common-tickets s t =
    rw (common-set_of max_servers (ticket_for s) (ticket_for t) (omega arith))
    (set_of-some max_servers (λ (j : ℕ). ticket_for s j && ticket_for t j))

-- an empty set has nothing in common with any
pub common-none : (t : ℕ) → common_of 0 t ≡ 0
common-none t = set_of-none max_clients (λ (j : ℕ). member 0 j && member t j) (λ j l. rw (member-none j))
