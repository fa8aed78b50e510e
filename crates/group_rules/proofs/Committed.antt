-- Who is committed: what that says, what makes it so, and that no two who are have tickets for the same server.
-- Assumes nothing.
use Prim.Native.Nat.{ℕ, ◌<◌}
use mathlib.Core.Path.{◌≡◌}
use mathlib.Core.Bool.{true, false, not, ◌&&◌}
use native.Mathlib.Omega.{arith}
use lib.Dec.{eqb, ltb}
use borrow.Author.Tests.{eqb-true, eqb-false, ltb-true, ltb-false, lt-ltb, not-true}
use Rattle.rules.specs.Lists.{has, some_below}
use Rattle.rules.proofs.Tests.{by-test, clash, not_so, both_true}
use Rattle.rules.proofs.Counts.{none_below, some_is, some-not}
use Rattle.group_rules.specs.declared.Group.{Group}
use Rattle.group_rules.specs.Limits.{max_contexts, max_servers}
use Rattle.group_rules.specs.Groups.{time_of, has_ticket, calls_of, queued}
use Rattle.group_rules.specs.Blocking.{share, blocks, committed}
use Rattle.group_rules.proofs.Searches.{some-found}
use Rattle.group_rules.proofs.Facts.{Facts, queued-low, ticket-low}

module _ (g : Group) (c : ℕ) where
  pub committed-queued : committed g c ≡ true → queued g c ≡ true
  unfolding committed
  committed-queued e = (both_true (queued g c) (not (some_below (blocks g c) max_contexts)) e).0

  -- nobody prevents it
  pub committed-free : committed g c ≡ true → (b : ℕ) → b < max_contexts → blocks g c b ≡ false
  unfolding committed
  committed-free e b h =
      let x = both_true (queued g c) (not (some_below (blocks g c) max_contexts)) e in
      none_below (blocks g c) max_contexts b (not-true (some_below (blocks g c) max_contexts) x.1) h

  pub free-committed : queued g c ≡ true → ((b : ℕ) → b < max_contexts → blocks g c b ≡ true → ⊥) → committed g c ≡ true
  unfolding committed
  free-committed q f =
      rw (q, some-not (blocks g c) max_contexts (λ b h. not_so (blocks g c b) (f b h)))

-- TICKETS FOR THE SAME SERVER

module _ (g : Group) (b c : ℕ) where
  pub share-has {ℓ} : {X : Type ℓ} → share g b c ≡ true
      → ((s : ℕ) → s < max_servers → has_ticket g b s ≡ true → has_ticket g c s ≡ true → X) → X
  unfolding share
  share-has e f =
      some-found (λ (s : ℕ). has_ticket g b s && has_ticket g c s) max_servers e
      (λ s h x. let y = both_true (has_ticket g b s) (has_ticket g c s) x in f s h y.0 y.1)

  pub has-share : (s : ℕ) → s < max_servers → has_ticket g b s ≡ true → has_ticket g c s ≡ true → share g b c ≡ true
  unfolding share
  has-share s h x y = some_is (λ (s : ℕ). has_ticket g b s && has_ticket g c s) max_servers s h (rw (x, y))

  -- an earlier context with a ticket for the same server
  pub earlier-blocks : (s : ℕ) → s < max_servers → queued g b ≡ true → time_of g b < time_of g c
      → has_ticket g b s ≡ true → has_ticket g c s ≡ true → blocks g c b ≡ true
  earlier-blocks s h q l x y = rw (q, lt-ltb (time_of g b) (time_of g c) l) (has-share s h x y)

-- EACH SERVER FOR ONE

module _ (g : Group) (f : Facts g) where
  -- an earlier one leaves a later one uncommitted
  only-earlier : (a b s : ℕ) → committed g a ≡ true → committed g b ≡ true → has_ticket g a s ≡ true
      → has_ticket g b s ≡ true → time_of g a < time_of g b → ⊥
  only-earlier a b s x y p q l =
      let low = queued-low g a f.stacks (committed-queued g a x) in
      let server = ticket-low g a s (f.each a low).counts p in
      clash (earlier-blocks g a b s server (committed-queued g a x) l p q) (committed-free g b y a low)

  -- No two committed contexts have tickets for the same server.
  pub exclusive : (a b s : ℕ) → committed g a ≡ true → committed g b ≡ true → has_ticket g a s ≡ true
      → has_ticket g b s ≡ true → a ≡ b
  exclusive a b s x y p q =
      by-test (eqb a b)
      (λ e. eqb-true a b e)
      (λ e. by-test (ltb (time_of g a) (time_of g b))
      (λ l. absurd (only-earlier a b s x y p q (ltb-true (time_of g a) (time_of g b) l)))
      (λ l. let low = queued-low g b f.stacks (committed-queued g b y) in
      let here = queued-low g a f.stacks (committed-queued g a x) in
      let inside = (f.each b low).inside (committed-queued g b y) in
      by-test (ltb (time_of g b) (time_of g a))
      (λ m. absurd (only-earlier b a s y x q p (ltb-true (time_of g b) (time_of g a) m)))
      (λ m. absurd (inside.apart a here (eqb-false a b e) (committed-queued g a x)
      (omega (arith, ltb-false (time_of g a) (time_of g b) l, ltb-false (time_of g b) (time_of g a) m))))))

  -- No two have calls to the same server on their stacks.
  pub one-stack : (a b s : ℕ) → committed g a ≡ true → committed g b ≡ true → has s (calls_of g a) ≡ true
      → has s (calls_of g b) ≡ true → a ≡ b
  one-stack a b s x y p q =
      let low = queued-low g a f.stacks (committed-queued g a x) in
      let low' = queued-low g b f.stacks (committed-queued g b y) in
      exclusive a b s x y
      (((f.each a low).inside (committed-queued g a x)).held s p)
      (((f.each b low').inside (committed-queued g b y)).held s q)
