-- The set of those in a line and a room, place by place.
-- Assumes nothing.
use Prim.Native.Nat.{◌+◌, ◌<◌, ◌^◌, ◌≤◌, suc, ℕ}
use mathlib.Core.Bool.{Bool, ◌||◌, cond, true, or-true}
use mathlib.Core.List.{List}
use mathlib.Core.Path.{◌≡◌, sym}
use native.Mathlib.Numerals.{add-one}
use lib.Dec.{eqb}
use lib.ListN.{drop, drop_of_length-le, get_or, length}
use lib.Seq.{drop-cons}
use borrow.Author.Tests.{eq-eqb, eqb-false, eqb-true, ne_eqb}
use Rattle.rules.specs.Limits.{max_clients, unused_place}
use Rattle.rules.specs.Lists.{has, upd}
use Rattle.rules.proofs.Tests.{by-test}
use Rattle.sets.specs.Sets.{member, with_of}
use Rattle.sets.proofs.Laws.{member-set_of, set_of-member, set_of-same}
use Rattle.places.specs.Places.{unpad}
use Rattle.charging.specs.Charged.{waiting_in}

-- who stands at place i has joined
pub waiting-turn : (q : List ℕ) (s i : ℕ) → i < length q → (get_or q i 0 ≡ unused_place → ⊥)
    → waiting_in (drop (i + 1) q) (with_of s (get_or q i 0)) ≡ waiting_in (drop i q) s
unfolding unpad
waiting-turn q s i h someone =
    set_of-same max_clients _ _ (λ c l.
    rw (
      add-one i,
      drop-cons q i 0 h,
      ne_eqb (get_or q i 0) unused_place someone,
      member-set_of max_clients (upd (member s) (get_or q i 0) true) c l,
    ) (go (get_or q i 0) (has c (unpad (drop (suc i) q))) (member s c) c))
  where
    go : (x : ℕ) (a b : Bool) (c : ℕ) → a || cond (eqb c x) true b ≡ (eqb x c || a) || b
    go x a b c =
        by-test (eqb x c)
        (λ e. rw (e, eq-eqb c x (sym (eqb-true x c e))) (or-true a))
        (λ e. rw (e, ne_eqb c x (λ q. eqb-false x c e (sym q))))

-- all have: the place is unused, or there is none
pub waiting-stop : (q : List ℕ) (s i : ℕ) → i < length q → get_or q i 0 ≡ unused_place → s < 2 ^ max_clients
    → s ≡ waiting_in (drop i q) s
unfolding unpad
waiting-stop q s i h e w =
    rw (drop-cons q i 0 h, eq-eqb (get_or q i 0) unused_place e) (sym (set_of-member max_clients s w))

pub waiting-end : (q : List ℕ) (s i : ℕ) → length q ≤ i → s < 2 ^ max_clients → s ≡ waiting_in (drop i q) s
unfolding unpad
waiting-end q s i h w = rw (drop_of_length-le q {i = i} h) (sym (set_of-member max_clients s w))
