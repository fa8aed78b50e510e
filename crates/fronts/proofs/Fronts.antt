-- The fronts of the lines as a set, and those of them that are to be in the global queue.
-- Assumes nothing.
use Prim.Native.Nat.{ℕ, ◌+◌, ◌<◌}
use mathlib.Core.Path.{◌≡◌, refl, sym, ap, ◌∙◌}
use mathlib.Core.Bool.{Bool, true, false, not, ◌&&◌, cond, and-true}
use mathlib.Core.List.{List, [], ◌∷◌}
use native.Mathlib.Numerals.{add-one}
use native.Mathlib.Omega.{arith}
use lib.Dec.{eqb, ltb}
use lib.ListN.{length, get_or}
use borrow.Author.Tests.{eqb-true, ne_eqb, ltb-true, lt-ltb}
use Rattle.rules.specs.Limits.{max_clusters, max_clients, unused_place}
use Rattle.rules.specs.Lists.{heads, some_below}
use Rattle.rules.specs.Setup as rules
use Rattle.rules.specs.State.{Server, idle, front, best, spent, tidying, is_front, blocks}
use Rattle.rules.proofs.Tests.{by-test, clash, same_test, not_so, both_true}
use Rattle.rules.proofs.Lists.{heads-has}
use Rattle.rules.proofs.Counts.{none_below, some-not}
use Rattle.sets.specs.Sets.{member, set_of, with_of}
use Rattle.sets.proofs.Laws.{set_of-none, set_of-upd, set_of-same}
use Rattle.places.specs.Places.{unpad}
use Rattle.gate.specs.declared.Line.{Line}
use Rattle.gate.specs.declared.Setup.{Setup}
use Rattle.gate.specs.Shown.{setup_of, blank_line}
use Rattle.parts.specs.Shows.{Fine}
use Rattle.soundness.specs.Clauses.{of_cluster, lines_sound}
use Rattle.soundness.proofs.Facts.{OfCluster, lines-facts}
use Rattle.soundness.proofs.Sets.{members}
use Rattle.standing.specs.Answers.{lines_in}
use Rattle.seen.proofs.Once.{flip}
use Rattle.fronts.specs.Answers.{firsts_of, queued_of}
use Rattle.setup_check.proofs.Members.{clients, own_is}

-- ONE LINE AFTER THE OTHER

module _ (ls : List Line) where
  -- c is at the first place of line k
  abbrev first : ℕ → ℕ → Bool
  first c k = eqb (get_or (get_or ls k blank_line).places 0 0) c

  pub firsts-none : firsts_of ls 0 ≡ 0
  unfolding firsts_of
  firsts-none = set_of-none max_clients (λ c. false) (λ c b. refl)

  pub firsts_more : (k : ℕ) → with_of (firsts_of ls k) (get_or (get_or ls k blank_line).places 0 0) ≡ firsts_of ls (k + 1)
  unfolding firsts_of
  firsts_more k =
      let x : ℕ = get_or (get_or ls k blank_line).places 0 0 in
      rw (add-one k)
      (set_of-upd max_clients (λ c. some_below (first c) k) x true
      ∙ set_of-same max_clients _ _ (λ c b. rw (flip c x) (by-test (eqb x c) (λ e. rw e) (λ e. rw e))))

-- THE FRONTS OF SOUND LINES

-- 255 is nobody's number
heads-is : (c : ℕ) → c < max_clients → (q : List ℕ) → 0 < length q → eqb (get_or q 0 0) c ≡ heads c (unpad q)
unfolding unpad
heads-is c b [] l = absurd (omega arith)
heads-is c b (x ∷ q) l =
    by-test (eqb x unused_place)
    (λ e. rw e (ne_eqb x c (λ f. omega (arith, eqb-true x unused_place e))))
    (λ e. rw e)

module _ (v : Setup) (fine : Fine v) (ls : List Line) (sound : lines_sound (setup_of v) ls ≡ true) where
  abbrev u : rules.Setup
  u = setup_of v

  -- c is below N and the front of its line
  abbrev pub is_first : ℕ → Bool
  is_first c = ltb c u.clients && heads c (lines_in ls (u.cluster c))

  own : (k c : ℕ) → k < max_clusters → heads c (lines_in ls k) ≡ true → OfCluster u k c
  own k c b e = ((lines-facts u ls sound).1 k b).own c (heads-has c (lines_in ls k) e)

  at : (k c : ℕ) → k < max_clusters → c < max_clients → first ls c k ≡ heads c (lines_in ls k)
  at k c b l =
      heads-is c l (get_or ls k blank_line).places (omega (arith, ((lines-facts u ls sound).1 k b).size))

  firsts-are : firsts_of ls max_clusters ≡ set_of max_clients is_first
  unfolding firsts_of
  firsts-are =
      set_of-same max_clients _ _ (λ c l. same_test (some_below (first ls c) max_clusters) (is_first c)
      (λ e. by-test (is_first c) (λ q. q) (λ q. clash e (some-not (first ls c) max_clusters (λ k b.
      not_so (first ls c k) (λ f.
      let h = sym (at k c b l) ∙ f in
      let o = own k c b h in
      clash (rw (lt-ltb c u.clients o.known, o.home) h) q)))))
      (λ e. by-test (some_below (first ls c) max_clusters) (λ q. q) (λ q.
      clash (at (u.cluster c) c (fine.homes c) l ∙ (both_true (ltb c u.clients) _ e).1)
      (none_below (first ls c) max_clusters (u.cluster c) q (fine.homes c)))))

  known : (c : ℕ) → is_first c ≡ true → c < max_clients
  known c e = omega (arith, ltb-true c u.clients (both_true (ltb c u.clients) _ e).0, fine.clients)

  pub first-is : (c : ℕ) → member (firsts_of ls max_clusters) c ≡ is_first c
  first-is c = ap (λ w. member w c) firsts-are ∙ members is_first known c

  -- a front is of its own cluster
  first-own : (k c : ℕ) → is_first c ≡ true → of_cluster u k c ≡ eqb k (u.cluster c)
  first-own k c e =
      let o = own (u.cluster c) c (fine.homes c) (both_true (ltb c u.clients) _ e).1 in
      rw (lt-ltb c u.clients o.known, o.real) (flip (u.cluster c) k)

  pub queued-is : (x : Server)
      → queued_of v.homes (clients v fine).own x (firsts_of ls max_clusters)
      ≡ set_of max_clients (λ c. is_first c && (not (is_front x c) && not (blocks u x (u.cluster c))))
  queued-is idle = firsts-are ∙ set_of-same max_clients _ _ (λ c l. sym (and-true (is_first c)))
  queued-is (best d) = firsts-are ∙ set_of-same max_clients _ _ (λ c l. sym (and-true (is_first c)))
  queued-is tidying = firsts-are ∙ set_of-same max_clients _ _ (λ c l. sym (and-true (is_first c)))
  queued-is (front d) =
      set_of-same max_clients _ _ (λ c l. rw (first-is c, flip c d) (out (eqb d c) (is_first c)))
    where
      out : (a b : Bool) → cond a false b ≡ b && (not a && true)
      out true true = refl
      out true false = refl
      out false true = refl
      out false false = refl
  queued-is (spent d) =
      set_of-same max_clients _ _ (λ c l.
      rw (first-is c, ap (λ f. f (u.cluster d) c) (own_is v fine))
      (by-test (is_first c) (λ e. rw (first-own (u.cluster d) c e)) (λ e. rw e)))
