-- The charged clients of a sound state, from the lines and the rooms that show it.
-- Assumes nothing.
use Prim.Native.Nat.{◌<◌, ◌≤◌, suc, zero, ℕ}
use mathlib.Core.Bool.{Bool, ◌&&◌, ◌||◌, false, true, and-false, and-true}
use mathlib.Core.List.{List}
use mathlib.Core.Path.{◌∙◌, ◌≡◌, ap, ap₂, refl, sym}
use native.Mathlib.Omega.{arith}
use lib.Dec.{eqb, ltb}
use lib.ListN.{get_or}
use borrow.Author.Tests.{eqb-false, eqb-true}
use Rattle.rules.specs.Events.{charged, precedes}
use Rattle.rules.specs.Limits.{max_clients, max_clusters}
use Rattle.rules.specs.Lists.{count_below, has}
use Rattle.rules.specs.Queues.{in_room, waits}
use Rattle.rules.specs.Rank.{outranks}
use Rattle.rules.specs.Setup.{real_time}
use Rattle.rules.specs.Sound.{Sound}
use Rattle.rules.specs.State.{State}
use Rattle.rules.proofs.Setups.{allowed}
use Rattle.rules.proofs.Tests.{both_true, by-test, either_true, not_so}
use Rattle.sets.specs.Sets.{count_of, member, set_of, union_of}
use Rattle.sets.proofs.Counts.{count_cut}
use Rattle.sets.proofs.Laws.{member-set_of, set_of-same}
use Rattle.sets.proofs.Words.{count_of-set_of}
use Rattle.places.specs.Places.{unpad}
use Rattle.gate.specs.Shown.{setup_of, show_rooms}
use Rattle.parts.specs.Shows.{ShowsKeys, ShowsLines}
use Rattle.gate.specs.declared.Line.{Line}
use Rattle.gate.specs.declared.Setup.{Setup}
use Rattle.parts.proofs.Parts.{line_at, room_at}
use Rattle.parts.proofs.Reading.{list_back}
use Rattle.ranks.specs.Ranks.{best_in, outranking_in, rank_by}
use Rattle.ranks.proofs.Ranks.{rank-shown}
use Rattle.charging.specs.Charged.{waiting_in}
use Rattle.charging.proofs.Building.{union-all, union-next, union-none}

-- those of the clusters below k, as the code makes the set
abbrev pub charged_below : Line → List Line → List ℕ → List ℕ → List ℕ → ℕ → ℕ
charged_below d ls rs ms ks zero = 0
charged_below d ls rs ms ks (suc k) =
    union_of (charged_below d ls rs ms ks k)
    (set_of max_clients (best_in ks (waiting_in (get_or ls k d).places (get_or rs k 0)) (get_or ms k 0)))

module _ (v : Setup) {s : State} (sound : Sound (setup_of v) s) where
  abbrev pub is_charged : ℕ → Bool
  is_charged = charged (setup_of v) (outranks (setup_of v) s) s

  -- who waits is real-time and below N
  waits-real : (c : ℕ) → waits (setup_of v) s c ≡ true → real_time (setup_of v) c ≡ true
  waits-real c e =
      either_true (has c (s.lines ((setup_of v).cluster c))) (s.room c) e
      ((sound.lines ((setup_of v).cluster c)).real c) (λ q. (sound.room c q).real)

  waits-known : (c : ℕ) → waits (setup_of v) s c ≡ true → c < v.clients
  waits-known c e =
      either_true (has c (s.lines ((setup_of v).cluster c))) (s.room c) e
      ((sound.lines ((setup_of v).cluster c)).known c) (λ q. (sound.room c q).known)

  pub charged-known : (c : ℕ) → is_charged c ≡ true → c < v.clients
  charged-known c e =
      waits-known c (both_true (waits (setup_of v) s c) _ (both_true (real_time (setup_of v) c) _ e).1).0

  -- who is in the line or the room of k waits, and k is its cluster
  waits-in : (k c : ℕ)
      → has c (s.lines k) || in_room (setup_of v) s k c ≡ waits (setup_of v) s c && eqb ((setup_of v).cluster c) k
  waits-in k c =
      by-test (eqb ((setup_of v).cluster c) k)
      (λ e. rw (
        e,
        eqb-true ((setup_of v).cluster c) k e,
        and-true (s.room c),
        and-true (has c (s.lines k) || s.room c),
      ))
      (λ e.
      let out : has c (s.lines k) ≡ false =
      not_so (has c (s.lines k)) (λ q. eqb-false ((setup_of v).cluster c) k e ((sound.lines k).home c q)) in
      rw (e, out) (and-false (s.room c) ∙ sym (and-false (waits (setup_of v) s c))))

  module _ {ks : List ℕ} (keys : ShowsKeys v s ks) {ls : List Line} {rs : List ℕ} (lines : ShowsLines s.lines ls)
      (rooms : rs ≡ show_rooms (setup_of v).cluster s.room) (d : Line) where
    module _ (k : ℕ) (low : k < max_clusters) where
      abbrev waiting : ℕ
      waiting = waiting_in (get_or ls k d).places (get_or rs k 0)

      member-waiting : (c : ℕ) → c < max_clients
          → member waiting c ≡ waits (setup_of v) s c && eqb ((setup_of v).cluster c) k
      member-waiting c b =
          member-set_of max_clients (λ x. has x (unpad (get_or ls k d).places) || member (get_or rs k 0) x) c b
          ∙ ap₂ (λ x y. x || y) (ap (has c) (list_back (line_at lines k low d)))
          (ap (λ x. member x c) (room_at (setup_of v).cluster s.room rooms low 0)
          ∙ member-set_of max_clients (in_room (setup_of v) s k) c b)
          ∙ waits-in k c

      -- those who outrank c are as many among all numbers as among the clients
      outranking-is : (c : ℕ) → (setup_of v).cluster c ≡ k
          → count_of (outranking_in ks waiting c)
          ≡ count_below (precedes (setup_of v) (outranks (setup_of v) s) s c) v.clients
      outranking-is c e =
          count_of-set_of max_clients (λ x. member waiting x && rank_by ks x c) (omega arith)
          ∙ sym (count_cut (precedes (setup_of v) (outranks (setup_of v) s) s c)
          (λ x. member waiting x && rank_by ks x c) v.clients max_clients
          (allowed (setup_of v) sound.setup).few-clients
          (λ x l. rw (← rank-shown keys, member-waiting x (known x l), e))
          (λ x l past. rw (
            member-waiting x l,
            not_so (waits (setup_of v) s x)
                (λ z. omega (arith, waits-known x z)),
          )))
        where
          known : (x : ℕ) → x < v.clients → x < max_clients
          known x l = omega (arith, (allowed (setup_of v) sound.setup).few-clients)

      charged-is : (c : ℕ) → c < max_clients
          → best_in ks waiting ((setup_of v).size k) c ≡ is_charged c && eqb ((setup_of v).cluster c) k
      unfolding best_in
      charged-is c b =
          rw (member-waiting c b)
          (go (real_time (setup_of v) c) (waits (setup_of v) s c) (eqb ((setup_of v).cluster c) k) _ _ (waits-real c)
          (λ t.
          let e = eqb-true ((setup_of v).cluster c) k t in
          ap₂ (λ x y. ltb x y) (outranking-is c e) (ap (setup_of v).size (sym e))))
        where
          go : (r x e y z : Bool) → (x ≡ true → r ≡ true) → (e ≡ true → y ≡ z)
              → (x && e) && y ≡ (r && (x && z)) && e
          go r true true y z f g = rw (f refl, g refl) (sym (and-true z))
          go r true false y z f g = sym (and-false (r && z))
          go r false e y z f g = rw (and-false r)

    -- the charged clients of the clusters below k
    charged-below : (k : ℕ) → k ≤ max_clusters
        → charged_below d ls rs v.sizes ks k
        ≡ set_of max_clients (λ c. is_charged c && ltb ((setup_of v).cluster c) k)
    charged-below zero h = union-none is_charged (setup_of v).cluster
    charged-below (suc k) h =
        rw (
          charged-below k (omega arith),
          set_of-same max_clients (best_in ks (waiting k (omega arith)) ((setup_of v).size k))
              (λ c. is_charged c && eqb ((setup_of v).cluster c) k) (charged-is k (omega arith)),
        ) (union-next is_charged (setup_of v).cluster k)

    -- and of all
    pub charged-all : charged_below d ls rs v.sizes ks v.clusters ≡ set_of max_clients is_charged
    charged-all =
        let a = allowed (setup_of v) sound.setup in
        charged-below v.clusters a.few-clusters
        ∙ union-all is_charged (setup_of v).cluster v.clusters (λ c e. a.homes c (charged-known c e))
