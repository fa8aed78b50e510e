-- A waiting room as a word: an empty one, and the clause of the definition. A line's length by its used places.
-- Assumes nothing.
use Prim.Native.Nat.{ℕ, suc, ◌^◌, ◌≤◌, ◌<◌}
use mathlib.Core.Path.{◌≡◌, refl, sym, ap, ◌∙◌}
use mathlib.Core.Bool.{Bool, true, false, not, ◌&&◌}
use mathlib.Core.List.{List, [], ◌∷◌}
use native.Mathlib.Nat.{lt_of_lt_of_le}
use native.Mathlib.Omega.{arith}
use lib.Dec.{eqb, ltb}
use lib.ListN.{length}
use lib.Pow.{pow_mono}
use borrow.Author.Tests.{eqb-true, ltb-true, lt-ltb, not-false}
use Rattle.rules.specs.Limits.{max_clients, unused_place}
use Rattle.rules.specs.Setup as rules
use Rattle.rules.proofs.Tests.{by-test, same_test, both_true, not_so}
use Rattle.sets.specs.Sets.{member, less_of}
use Rattle.sets.proofs.Bits.{member-none}
use Rattle.sets.proofs.Laws.{member-set_of, set_of-none, set_of-cut, set_of-below, set_of-member}
use Rattle.places.specs.Places.{unpad, place_of, used_of}
use Rattle.places.specs.Tests.{all_below}
use Rattle.soundness.specs.Clauses.{of_cluster, may_wait, room_sound}
use Rattle.places.proofs.Tests.{at_all}
use Rattle.soundness.proofs.Facts.{of-cluster, in-cluster, room-facts}
use Rattle.standing.specs.Answers.{room_fits}

-- the used places are as many as the list that they hold is long
pub used-unpad : (q : List ℕ) → used_of q ≡ length (unpad q)
unfolding place_of unpad
used-unpad [] = refl
used-unpad (x ∷ q) = by-test (eqb x unused_place) (λ e. rw e) (λ e. rw e (ap suc (used-unpad q)))

pub room-empty : (m own standing : ℕ) (line : List ℕ) → room_fits m own standing line 0 ≡ true
unfolding room_fits
room-empty m own standing line =
    rw (
      lt-ltb 0 (2 ^ max_clients) (omega arith),
      set_of-none max_clients (λ c. member 0 c && not (member (less_of own standing) c)) (λ c b. rw (member-none c)),
    )

-- The room of k, by the set of those of its cluster.
module _ (u : rules.Setup) (few : u.clients ≤ max_clients) (k own : ℕ)
    (is : (c : ℕ) → member own c ≡ of_cluster u k c) (standing : ℕ) (line : List ℕ) (room : ℕ) where
  abbrev free : ℕ → Bool
  free c = of_cluster u k c && not (member standing c)

  free-is : (c : ℕ) → c < max_clients → member (less_of own standing) c ≡ free c
  free-is c b = member-set_of max_clients (λ x. member own x && not (member standing x)) c b ∙ rw (is c)

  -- nobody in the room is left without those that may wait there
  waits : less_of room (less_of own standing) ≡ 0 → (c : ℕ) → c < max_clients → member room c ≡ true → free c ≡ true
  waits e c b m =
      let z : (member room c && not (member (less_of own standing) c)) ≡ false =
      sym (member-set_of max_clients (λ x. member room x && not (member (less_of own standing) x)) c b)
      ∙ ap (λ w. member w c) e ∙ member-none c in
      not-false (free c) (rw (m, free-is c b) at z)

  left : ((c : ℕ) → member room c ≡ true → free c ≡ true) → less_of room (less_of own standing) ≡ 0
  left h =
      set_of-none max_clients (λ x. member room x && not (member (less_of own standing) x)) (λ c b.
      by-test (member room c) (λ e. rw (e, free-is c b, h c e)) (λ e. rw e))

  pub room-is : room_fits (u.size k) own standing line room ≡ room_sound u standing k line room
  unfolding room_fits room_sound
  room-is =
      same_test _ _
      (λ e.
      let a = both_true (ltb room (2 ^ max_clients)) _ e in
      let b = both_true (eqb (less_of room (less_of own standing)) 0) _ a.1 in
      let w = waits (eqb-true (less_of room (less_of own standing)) 0 b.0) in
      rw (
        lt-ltb room (2 ^ u.clients) (below (ltb-true room (2 ^ max_clients) a.0) w),
        at_all u.clients (may_wait u k room standing) (λ c l.
            by-test (member room c) (λ m. rw (m, w c (omega arith) m)) (λ m. rw m)),
      ) b.1)
      (λ e.
      let f = room-facts u standing k line room e in
      rw (
        lt-ltb room (2 ^ max_clients) (lt_of_lt_of_le f.below (pow_mono few)),
        left (λ c m. rw (in-cluster u k c (f.own c m).0, (f.own c m).1)),
      ) (both_true (all_below u.clients (may_wait u k room standing)) _
      (both_true (ltb room (2 ^ u.clients)) _ e).1).1)
    where
      below : room < 2 ^ max_clients → ((c : ℕ) → c < max_clients → member room c ≡ true → free c ≡ true)
          → room < 2 ^ u.clients
      below b w =
          rw (sym (set_of-member max_clients room b)
          ∙ sym (set_of-cut u.clients max_clients (member room) (member room) few (λ c l. refl) (λ c l past.
          not_so (member room c) (λ m.
          omega (arith, (of-cluster u k c (both_true (of_cluster u k c) _ (w c l m)).0).known)))))
          (set_of-below u.clients (member room))
