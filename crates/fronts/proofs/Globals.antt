-- The global queue: who is seen there, and that these are the fronts that belong there.
-- Assumes nothing.
use Prim.Native.Nat.{ℕ, ◌<◌}
use mathlib.Core.Path.{◌≡◌, refl, sym, ap, ◌∙◌, fun_ext}
use mathlib.Core.Bool.{Bool, true, false, ◌&&◌}
use mathlib.Core.List.{List, [], ◌∷◌}
use native.Mathlib.Omega.{arith}
use lib.Dec.{eqb, ltb}
use lib.ListN.{length}
use borrow.Author.Tests.{eqb-true, eq-eqb, ltb-true, lt-ltb}
use Rattle.rules.specs.Limits.{max_clusters, max_clients}
use Rattle.rules.specs.Lists.{has, heads}
use Rattle.rules.specs.Setup as rules
use Rattle.rules.specs.State.{State}
use Rattle.rules.specs.Sound.{queued}
use Rattle.rules.proofs.Tests.{by-test, both_true, same_test}
use Rattle.rules.proofs.Lists.{heads-cons, heads-has}
use Rattle.rules.proofs.Setups.{Allowed}
use Rattle.sets.specs.Sets.{member, set_of}
use Rattle.sets.proofs.Laws.{set_of-same}
use Rattle.places.specs.Places.{unpad, used_first}
use Rattle.gate.specs.declared.Gate.{Gate}
use Rattle.gate.specs.Shown.{setup_of, server_of, state_of}
use Rattle.parts.specs.Shows.{Fine}
use Rattle.places.specs.Tests.{every, all_below, distinct}
use Rattle.soundness.specs.Tests.{set_in, first_in}
use Rattle.soundness.specs.Clauses.{laid, lines_sound, global_sound}
use Rattle.places.proofs.Tests.{every-has, all-at, at_all}
use Rattle.soundness.proofs.Facts.{lines-facts}
use Rattle.soundness.proofs.Sets.{members, set-has}
use Rattle.seen.specs.Seen.{queue_seen}
use Rattle.standing.proofs.Once.{seen-once}
use Rattle.fronts.specs.Answers.{firsts_of, queued_of, global_fits}
use Rattle.setup_check.proofs.Members.{clients}
use Rattle.fronts.proofs.Fronts.{queued-is}

first-in : (p : ℕ → Bool) (set : ℕ) (l : List ℕ)
    → ((x : ℕ) → heads x l ≡ true → p x ≡ true → member set x ≡ true) → first_in p set l ≡ true
unfolding first_in
first-in p set [] h = refl
first-in p set (x ∷ l) h = by-test (p x) (λ e. rw (e, h x (eq-eqb x x refl) e)) (λ e. rw e)

module _ (g : Gate) (fine : Fine g.setup) (ok : Allowed (setup_of g.setup))
    (sound : lines_sound (setup_of g.setup) g.lines ≡ true) where
  abbrev u : rules.Setup
  u = setup_of g.setup

  abbrev s : State
  s = state_of g

  -- c is below N and a front that belongs there
  abbrev belongs : ℕ → Bool
  belongs c = ltb c u.clients && queued u s c

  known : (c : ℕ) → belongs c ≡ true → c < max_clients
  known c e = omega (arith, ltb-true c u.clients (both_true (ltb c u.clients) _ e).0, fine.clients)

  -- of a list of such clients, each front is there if the two sets are the same
  there : (l : List ℕ) → every belongs l ≡ true
      → eqb (set_in l) (set_of max_clients belongs)
      ≡ all_below u.clusters (λ k. first_in (queued u s) (set_in l) (s.lines k))
  unfolding set_in first_in state_of
  there l e =
      let in-queue : ℕ → Bool = λ k. first_in (queued u s) (set_in l) (s.lines k) in
      same_test (eqb (set_in l) (set_of max_clients belongs)) (all_below u.clusters in-queue)
      (λ q. at_all u.clusters in-queue (λ k b.
      first-in (queued u s) (set_in l) (s.lines k) (λ x h p.
      let f = (lines-facts u g.lines sound).1 k (omega (arith, ok.few-clusters)) in
      ap (λ w. member w x) (eqb-true (set_in l) (set_of max_clients belongs) q) ∙ members belongs known x
      ∙ rw (lt-ltb x u.clients (f.own x (heads-has x (s.lines k) h)).known) p)))
      (λ q. eq-eqb (set_in l) (set_of max_clients belongs) (set_of-same max_clients (λ c. has c l) belongs (λ c b.
      same_test (has c l) (belongs c) (every-has belongs l c e) (λ m.
      let w = both_true (ltb c u.clients) (queued u s c) m in
      let line = s.lines (u.cluster c) in
      let h : heads c line ≡ true = (both_true (heads c line) _ (both_true (heads c line && _) _ w.1).0).0 in
      let z = rw (heads-cons c line h) at
      (all-at u.clusters in-queue q (u.cluster c) (ok.homes c (ltb-true c u.clients w.0))) in
      sym (set-has l (λ x i. known x (every-has belongs l x e i)) c) ∙ rw w.1 at z))))

  module _ (q : List ℕ) (n : length q ≡ max_clusters) where
    by-set : global_fits (set_of max_clients belongs) q ≡ global_sound u s q
    unfolding global_sound queue_seen laid
    by-set =
        rw (fun_ext (members belongs known), eq-eqb (length q) max_clusters n)
        (by-test (used_first q && every belongs (unpad q))
        (λ e.
        let all = (both_true (used_first q) (every belongs (unpad q)) e).1 in
        rw (e, seen-once (unpad q) (λ x h. known x (every-has belongs (unpad q) x all h)))
        (by-test (distinct (unpad q)) (λ d. rw d (there (unpad q) all)) (λ d. rw d)))
        (λ e. rw e))

    pub global-is :
        global_fits (queued_of g.setup.homes (clients g.setup fine).own (server_of g.server)
        (firsts_of g.lines max_clusters)) q
        ≡ global_sound u s q
    unfolding state_of
    global-is =
        ap (λ w. global_fits w q) (queued-is g.setup fine g.lines sound (server_of g.server)
        ∙ set_of-same max_clients _ belongs (λ c l. regroup (ltb c u.clients) _ _ _))
        ∙ by-set
      where
        regroup : (a h f b : Bool) → (a && h) && (f && b) ≡ a && ((h && f) && b)
        regroup true true f b = refl
        regroup true false f b = refl
        regroup false h f b = refl
