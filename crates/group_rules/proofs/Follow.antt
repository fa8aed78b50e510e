-- Who blocks a context directly: a queued one that is earlier, and of these the latest. Following that from any queued
-- context ends at a committed one.
-- Assumes nothing.
use Prim.Native.Nat.{ℕ, zero, suc, ◌≤◌, ◌<◌}
use mathlib.Core.Path.{◌≡◌, refl, ap, ◌∙◌, subst}
use mathlib.Core.Bool.{true, false}
use mathlib.Core.Option.{Option, some, none}
use native.Mathlib.Omega.{arith}
use lib.Dec.{ltb}
use borrow.Author.Tests.{ltb-true, lt-ltb}
use Rattle.rules.specs.Lists.{count_below}
use Rattle.rules.proofs.Tests.{clash, both_true, not_so}
use Rattle.group_rules.specs.declared.Group.{Group}
use Rattle.group_rules.specs.Limits.{max_contexts}
use Rattle.group_rules.specs.Groups.{time_of, queued}
use Rattle.group_rules.specs.Blocking.{earlier, share, blocks, committed, blocker_of}
use Rattle.group_rules.specs.History.{steps_to, follow}
use Rattle.group_rules.proofs.Searches.{Latest, latest-is, count_less, count_none}
use Rattle.group_rules.proofs.Committed.{committed-free, free-committed}

module _ (g : Group) where
  -- THE ONE THAT BLOCKS DIRECTLY

  -- it prevents c from being committed, and of those that do none is later; or nobody does
  pub blocker-is : (c : ℕ) → Latest (time_of g) (blocks g c) max_contexts (blocker_of g c)
  unfolding blocker_of
  blocker-is c = latest-is (time_of g) (blocks g c) max_contexts

  -- nobody, exactly if c is committed
  pub unblocked : (c : ℕ) → queued g c ≡ true → blocker_of g c ≡ none → committed g c ≡ true
  unblocked c q e =
      free-committed g c q
      (subst (λ (o : Option ℕ). Latest (time_of g) (blocks g c) max_contexts o) e (blocker-is c))

  pub committed-none : (c : ℕ) → committed g c ≡ true → blocker_of g c ≡ none
  committed-none c e = go (blocker_of g c) (blocker-is c)
    where
      go : (o : Option ℕ) → Latest (time_of g) (blocks g c) max_contexts o → o ≡ none
      go none l = refl
      go (some b) l = clash l.1 (committed-free g c e b l.0)

  -- STEP BY STEP

  -- how many queued contexts are earlier
  abbrev before : ℕ → ℕ
  before c = count_below (λ (b : ℕ). earlier g b c) max_contexts

  is-earlier : (c b : ℕ) → blocks g c b ≡ true → earlier g b c ≡ true
  is-earlier c b e = (both_true (earlier g b c) (share g b c) e).0

  not_itself : (c : ℕ) → earlier g c c ≡ false
  not_itself c =
      not_so (earlier g c c) λ e.
      let x = both_true (queued g c) (ltb (time_of g c) (time_of g c)) e in
      omega (arith, ltb-true (time_of g c) (time_of g c) x.1)

  earlier-still : (a b c : ℕ) → earlier g a b ≡ true → earlier g b c ≡ true → earlier g a c ≡ true
  earlier-still a b c x y =
      let p = both_true (queued g a) (ltb (time_of g a) (time_of g b)) x in
      let q = both_true (queued g b) (ltb (time_of g b) (time_of g c)) y in
      rw p.0 (lt-ltb (time_of g a) (time_of g c) (omega (
        arith,
        ltb-true (time_of g a) (time_of g b) p.1,
        ltb-true (time_of g b) (time_of g c) q.1,
      )))

  -- fewer are before the one that blocks
  fewer : (c b : ℕ) → b < max_contexts → blocks g c b ≡ true → before b < before c
  fewer c b h e =
      count_less (λ (a : ℕ). earlier g a b) (λ (a : ℕ). earlier g a c) max_contexts b
      (λ a l x. earlier-still a b c x (is-earlier c b e)) h (not_itself b) (is-earlier c b e)

  -- and at most 7 are before any
  few : (c : ℕ) → c < max_contexts → before c ≤ 7
  few c h =
      let all : count_below (λ (b : ℕ). true) max_contexts ≡ 8 = refl in
      let l = count_less (λ (b : ℕ). earlier g b c) (λ (b : ℕ). true) max_contexts c (λ b x y. refl) h (not_itself c)
      refl in
      omega arith

  stays : (n c : ℕ) → blocker_of g c ≡ none → follow g n c ≡ c
  stays zero c e = refl
  stays (suc n) c e = ap (λ (o : Option ℕ). follow g n (steps_to c o)) e ∙ stays n c e

  ends : (n c : ℕ) → queued g c ≡ true → before c ≤ n → committed g (follow g n c) ≡ true
  ends zero c q h =
      free-committed g c q
      (λ b l e. count_none (λ (a : ℕ). earlier g a c) max_contexts b (omega arith) l (is-earlier c b e))
  ends (suc n) c q h = go (λ b. ends n b) (blocker_of g c) refl (blocker-is c)
    where
      go :
          ((b : ℕ) → queued g b ≡ true → before b ≤ n → committed g (follow g n b) ≡ true)
          → (o : Option ℕ) → blocker_of g c ≡ o → Latest (time_of g) (blocks g c) max_contexts o
          → committed g (follow g n (steps_to c o)) ≡ true
      go then none e l = ap (λ (d : ℕ). committed g d) (stays n c e) ∙ unblocked c q e
      go then (some b) e l =
          let x = both_true (queued g b) (ltb (time_of g b) (time_of g c)) (is-earlier c b l.1) in
          then b x.0 (omega (arith, fewer c b l.0 l.1))

  -- From any queued context, 7 steps end at a committed one.
  pub follow-ends : (c : ℕ) → c < max_contexts → queued g c ≡ true → committed g (follow g 7 c) ≡ true
  follow-ends c h q = ends 7 c q (few c h)
