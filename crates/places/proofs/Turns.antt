-- One turn of the loops: what is left to search, to test or to close up from a place on. For any places.
-- Assumes nothing.
use Prim.Native.Nat.{ℕ, zero, suc, ◌+◌, ◌-◌, ◌≤◌, ◌<◌}
use mathlib.Core.Path.{◌≡◌, refl, sym, ap, ◌∙◌}
use mathlib.Core.Bool.{true, false, or-true}
use mathlib.Core.List.{List, [], ◌∷◌, ◌++◌}
use native.Mathlib.Nat.{add-zero, add-suc, suc-add, not-suc-le-zero, le_of_suc-le-suc}
use native.Mathlib.Numerals.{add-one}
use native.Mathlib.Omega.{arith}
use borrow.Author.Tests.{eq-eqb, ne_eqb}
use lib.Dec.{eqb}
use lib.ListN.{length, get_or, take, drop, set, drop_of_length-le}
use lib.Seq.{drop-cons}
use Rattle.std.proofs.Common.{length-drop, length-append, append_assoc}
use Rattle.std.proofs.lemmas.List.{drop_all, take_all, set_at, length-take-le}
use Rattle.std.specs.List.{copy_within}
use Rattle.rules.specs.Limits.{unused_place}
use Rattle.places.specs.Places.{holds_only, place_of, place_for, close_up_of}

-- the search for x from place i on: found here, found further on, or nowhere
module _ (x : ℕ) (q : List ℕ) (i : ℕ) where
  pub place_here : i < length q → get_or q i 0 ≡ x → i + place_of x (drop i q) ≡ i
  unfolding place_of
  place_here h e = rw (drop-cons q i 0, eq-eqb (get_or q i 0) x e) (add-zero i)

  pub place_next :
      i < length q → (get_or q i 0 ≡ x → ⊥) → i + place_of x (drop i q) ≡ i + 1 + place_of x (drop (i + 1) q)
  unfolding place_of
  place_next h e = rw (add-one i, drop-cons q i 0, ne_eqb (get_or q i 0) x e) (add-suc i _ ∙ sym (suc-add i _))

  pub place_end : length q ≤ i → i + place_of x (drop i q) ≡ i
  unfolding place_of
  place_end h = rw (drop_of_length-le q {i = i} h) (add-zero i)

-- the search for where x stands or would join, from place i on: it is here, here is unused, further on, or nowhere
module _ (x : ℕ) (q : List ℕ) (i : ℕ) where
  pub for_here : i < length q → get_or q i 0 ≡ x → i + place_for x (drop i q) ≡ i
  unfolding place_for
  for_here h e = rw (drop-cons q i 0, eq-eqb (get_or q i 0) x e) (add-zero i)

  pub for_unused : i < length q → get_or q i 0 ≡ unused_place → i + place_for x (drop i q) ≡ i
  unfolding place_for
  for_unused h e =
      rw (drop-cons q i 0, eq-eqb (get_or q i 0) unused_place e, or-true (eqb (get_or q i 0) x)) (add-zero i)

  pub for_next :
      i < length q → (get_or q i 0 ≡ x → ⊥) → (get_or q i 0 ≡ unused_place → ⊥)
      → i + place_for x (drop i q) ≡ i + 1 + place_for x (drop (i + 1) q)
  unfolding place_for
  for_next h d e =
      rw (add-one i, drop-cons q i 0, ne_eqb (get_or q i 0) x d, ne_eqb (get_or q i 0) unused_place e)
      (add-suc i _ ∙ sym (suc-add i _))

  pub for_end : length q ≤ i → i + place_for x (drop i q) ≡ i
  unfolding place_for
  for_end h = rw (drop_of_length-le q {i = i} h) (add-zero i)

-- x everywhere from place i on: here and further on, not here, or nothing is left
module _ (x : ℕ) (q : List ℕ) (i : ℕ) where
  pub same_turn : i < length q → get_or q i 0 ≡ x → holds_only x (drop i q) ≡ holds_only x (drop (i + 1) q)
  unfolding holds_only
  same_turn b e = rw (add-one, drop-cons q i 0, eq-eqb (get_or q i 0) x e)

  pub same_stop : i < length q → (get_or q i 0 ≡ x → ⊥) → holds_only x (drop i q) ≡ false
  unfolding holds_only
  same_stop b e = rw (drop-cons q i 0, ne_eqb (get_or q i 0) x e)

  pub same_end : length q ≤ i → holds_only x (drop i q) ≡ true
  unfolding holds_only
  same_end b = rw (drop_of_length-le q {i = i} b)

-- no such place: nothing to close up
pub close-none : (q : List ℕ) (at : ℕ) → length q ≤ at → close_up_of at q ≡ q
unfolding close_up_of
close-none [] at h = refl
close-none (y ∷ q) zero h = absurd (not-suc-le-zero h)
close-none (y ∷ q) (suc at) h = ap (λ l. y ∷ l) (close-none q at (le_of_suc-le-suc h))

-- the places before and behind, and an unused one
closed : (q : List ℕ) (at : ℕ) → at < length q
    → close_up_of at q ≡ take at q ++ (drop (suc at) q ++ (unused_place ∷ []))
unfolding close_up_of
closed [] at h = absurd (not-suc-le-zero h)
closed (y ∷ q) zero h = refl
closed (y ∷ q) (suc at) h = ap (λ l. y ∷ l) (closed q at (le_of_suc-le-suc h))

-- what stands behind a place is copied onto it, and the last place becomes unused
pub close-copied : (q : List ℕ) (at : ℕ) → at < length q
    → set (copy_within q (at + 1) (length q) at) (length q - 1) unused_place ≡ close_up_of at q
close-copied q at h =
    let n = length q in
    let i : at + 1 ≡ suc at = omega arith in
    let b : take (n - suc at) (drop (suc at) q) ≡ drop (suc at) q =
    take_all (n - suc at) (drop (suc at) q) (omega (arith, length-drop (suc at) q)) in
    let e : at + (n - suc at) ≡ n - 1 = omega arith in
    let w : suc (n - 1) ≡ n = omega arith in
    let z : drop (n - 1) q ≡ get_or q (n - 1) 0 ∷ [] =
    drop-cons q (n - 1) 0 (omega arith) ∙ rw w (ap (λ l. get_or q (n - 1) 0 ∷ l) (drop_all n q (omega arith))) in
    let m : length (take at q ++ drop (suc at) q) ≡ n - 1 =
    omega (arith, length-append (take at q) (drop (suc at) q), length-take-le at q (omega arith), length-drop (suc at) q) in
    rw (i, b, e, z)
    (set_at (take at q ++ drop (suc at) q) (get_or q (n - 1) 0) [] unused_place (n - 1) m
    ∙ append_assoc (take at q) (drop (suc at) q) (unused_place ∷ [])
    ∙ sym (closed q at h))
