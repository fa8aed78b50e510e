-- Loops over the used places of a queue: one turn, the ways out, and the end. For any test and any number of places.
-- Assumes nothing.
use Prim.Native.Nat.{ℕ, suc, ◌+◌, ◌≤◌, ◌<◌}
use mathlib.Core.Path.{◌≡◌, refl}
use mathlib.Core.Bool.{Bool, true, false, ◌&&◌, cond, and-false}
use mathlib.Core.List.{List, [], ◌∷◌}
use mathlib.Core.Option.{Option, some, none}
use native.Mathlib.Numerals.{add-one}
use lib.ListN.{length, get_or, drop, drop_of_length-le}
use lib.Seq.{drop-cons}
use borrow.Author.Tests.{eq-eqb, ne_eqb}
use Rattle.rules.specs.Limits.{unused_place}
use Rattle.rules.proofs.Tests.{by-test}
use Rattle.sets.specs.Sets.{member, with_of}
use Rattle.places.specs.Places.{unpad, holds_only, used_first}
use Rattle.places.specs.Tests.{every}
use Rattle.seen.specs.Seen.{seen_from, queue_seen}

-- WHERE THE USED PLACES END

pub record Ended (q : List ℕ) : Type 0 where
  pub nobody : unpad q ≡ []
  pub rest : used_first q ≡ holds_only unused_place q

pub ended_here : (q : List ℕ) (i : ℕ) → i < length q → get_or q i 0 ≡ unused_place → Ended (drop i q)
unfolding unpad used_first holds_only
ended_here q i b e =
    record {
      nobody = rw (drop-cons q i 0, eq-eqb (get_or q i 0) unused_place e);
      rest = rw (drop-cons q i 0, eq-eqb (get_or q i 0) unused_place e);
    }

pub ended-past : (q : List ℕ) (i : ℕ) → length q ≤ i → Ended (drop i q)
unfolding unpad used_first holds_only
ended-past q i b = rw (drop_of_length-le q {i = i} b) (record { nobody = refl; rest = refl })

-- NONE

pub none-if : (b : Bool) {x : Option ℕ} → x ≡ none → cond b x none ≡ none
none-if true e = e
none-if false e = refl

-- A QUEUE OF ANY TEST

module _ (p : ℕ → Bool) (s : ℕ) (q : List ℕ) {i x : ℕ} (e : x ≡ get_or q i 0) (b : i < length q)
    (u : get_or q i 0 ≡ unused_place → ⊥) where
  pub queue-turn : p x ≡ true → member s x ≡ false
      → queue_seen p (drop i q) s ≡ queue_seen p (drop (i + 1) q) (with_of s x)
  unfolding queue_seen unpad used_first every seen_from
  queue-turn t n = rw (add-one, drop-cons q i 0, ne_eqb (get_or q i 0) unused_place u, ← e, t, n)

  pub queue-bad : p x ≡ false → queue_seen p (drop i q) s ≡ none
  unfolding queue_seen unpad used_first every
  queue-bad t =
      rw (drop-cons q i 0, ne_eqb (get_or q i 0) unused_place u, ← e, t, and-false (used_first (drop (suc i) q)))

  pub queue-twice : member s x ≡ true → queue_seen p (drop i q) s ≡ none
  unfolding queue_seen unpad used_first seen_from
  queue-twice m =
      rw (drop-cons q i 0, ne_eqb (get_or q i 0) unused_place u, ← e, m)
      (none-if (used_first (drop (suc i) q) && every p (x ∷ unpad (drop (suc i) q))) refl)

pub queue-end : (p : ℕ → Bool) (q : List ℕ) (s : ℕ) → Ended q
    → queue_seen p q s ≡ cond (holds_only unused_place q) (some s) none
unfolding queue_seen every seen_from
queue-end p q s h = rw (h.nobody, h.rest) (by-test (holds_only unused_place q) (λ e. rw e) (λ e. rw e))

-- past the last place nobody is left
pub queue-past : (p : ℕ → Bool) (q : List ℕ) (s i : ℕ) → length q ≤ i → queue_seen p (drop i q) s ≡ some s
unfolding queue_seen unpad used_first every seen_from
queue-past p q s i b = rw (drop_of_length-le q {i = i} b)
