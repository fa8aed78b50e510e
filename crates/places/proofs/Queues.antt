-- The laws of what the functions do: on any places, and on the places of a list, in the list's terms.
-- For any number n of places. Assumes nothing.
use Prim.Native.Nat.{ℕ, zero, suc, ◌≤◌, ◌<◌}
use mathlib.Core.Path.{◌≡◌, refl, ap, ◌∙◌}
use mathlib.Core.Bool.{false, not, or-true}
use mathlib.Core.List.{List, [], ◌∷◌, ◌++◌}
use mathlib.Core.Logic.{by_cases}
use native.Mathlib.Decide.{ℕ_discrete}
use native.Mathlib.Nat.{not-suc-le-zero, le_of_suc-le-suc}
use native.Mathlib.Omega.{arith}
use borrow.Author.Tests.{eq-eqb, ne_eqb, lt-ltb, ltb-false}
use lib.Dec.{eqb, ltb, leb-suc-suc}
use lib.ListN.{length, get_or}
use Rattle.rules.specs.Limits.{unused_place}
use Rattle.rules.specs.Lists.{has, remove}
use Rattle.rules.proofs.Tests.{by-test, both_false}
use Rattle.places.specs.Places.{pad, unpad, place_of, place_for, used_of, append_of, join_of, close_up_of, take_out_of}
use Rattle.places.proofs.Turns.{close-none}
use Rattle.places.proofs.Pads.{used-cons, has-pad}

-- FIND

module _ (x : ℕ) where
  -- a place is found exactly where x is there
  pub place-has : (q : List ℕ) → ltb (place_of x q) (length q) ≡ has x q
  unfolding place_of
  place-has [] = refl
  place-has (y ∷ q) =
      by_cases (ℕ_discrete y x)
      (λ e. rw (eq-eqb y x e) (lt-ltb 0 (suc (length q)) (omega arith)))
      (λ d. rw (ne_eqb y x d) (leb-suc-suc (suc (place_of x q)) (length q) ∙ place-has q))

  pub place-fits : (q : List ℕ) → place_of x q ≤ length q
  unfolding place_of
  place-fits [] = omega arith
  place-fits (y ∷ q) =
      by_cases (ℕ_discrete y x)
      (λ e. rw (eq-eqb y x e) (omega arith))
      (λ d. rw (ne_eqb y x d) (omega (arith, place-fits q)))

  pub place_none : (q : List ℕ) → has x q ≡ false → place_of x q ≡ length q
  place_none q u = omega (arith, place-fits q, ltb-false (place_of x q) (length q) (place-has q ∙ u))

-- the used places of a list are as many as the list is long
pub used-pad : (n : ℕ) (l : List ℕ) → has unused_place l ≡ false → length l ≤ n → used_of (pad n l) ≡ length l
unfolding pad place_of
used-pad zero [] u h = refl
used-pad zero (x ∷ l) u h = absurd (not-suc-le-zero h)
used-pad (suc n) [] u h = refl
used-pad (suc n) (x ∷ l) u h =
    let v = used-cons x l u in rw v.0 (ap suc (used-pad n l v.1 (le_of_suc-le-suc h)))

-- the used places are as many as the list that they hold is long
pub used-unpad : (q : List ℕ) → used_of q ≡ length (unpad q)
unfolding place_of unpad
used-unpad [] = refl
used-unpad (x ∷ q) = by-test (eqb x unused_place) (λ e. rw e) (λ e. rw e (ap suc (used-unpad q)))

-- WHERE X STANDS, OR WOULD JOIN

module _ (x : ℕ) where
  -- a used place is found exactly where x is in the queue
  pub stands_at :
      (q : List ℕ) (d : ℕ) → place_for x q < length q
      → not (eqb (get_or q (place_for x q) d) unused_place) ≡ has x (unpad q)
  unfolding place_for unpad
  stands_at [] d h = absurd (not-suc-le-zero h)
  stands_at (y ∷ q) d h =
      by_cases (ℕ_discrete y unused_place)
      (λ e. rw (eq-eqb y unused_place e, or-true (eqb y x), eq-eqb y unused_place e))
      (λ e. by_cases (ℕ_discrete y x)
      (λ f. rw (eq-eqb y x f, ne_eqb y unused_place e, eq-eqb y x f))
      (λ f. rw (ne_eqb y x f, ne_eqb y unused_place e, ne_eqb y x f)
      (stands_at q d (le_of_suc-le-suc (rw (ne_eqb y x f, ne_eqb y unused_place e) at h)))))

  -- x is not in the queue if no place is found
  pub stands-none : (q : List ℕ) → length q ≤ place_for x q → has x (unpad q) ≡ false
  unfolding place_for unpad
  stands-none [] h = refl
  stands-none (y ∷ q) h =
      by_cases (ℕ_discrete y unused_place)
      (λ e. rw (eq-eqb y unused_place e))
      (λ e. by_cases (ℕ_discrete y x)
      (λ f. absurd (not-suc-le-zero (rw (eq-eqb y x f) at h)))
      (λ f. rw (ne_eqb y unused_place e, ne_eqb y x f)
      (stands-none q (le_of_suc-le-suc (rw (ne_eqb y x f, ne_eqb y unused_place e) at h)))))

  -- the list with x at its end, if it is not in the list
  pub join-pad :
      (n : ℕ) (l : List ℕ) → has unused_place l ≡ false → has x l ≡ false → join_of x (pad n l) ≡ pad n (l ++ (x ∷ []))
  unfolding pad place_for join_of
  join-pad zero [] u a = refl
  join-pad zero (y ∷ l) u a = refl
  join-pad (suc n) [] u a = rw (or-true (eqb unused_place x))
  join-pad (suc n) (y ∷ l) u a =
      let v = used-cons y l u in
      let b = both_false (eqb y x) (has x l) a in
      rw (v.0, b.0) (ap (λ l. y ∷ l) (join-pad n l v.1 b.1))

-- APPEND

-- the list with x at its end; full places take no more, and neither does the list that is cut to them
pub append-pad : (x n : ℕ) (l : List ℕ) → has unused_place l ≡ false → append_of x (pad n l) ≡ pad n (l ++ (x ∷ []))
unfolding pad place_of append_of
append-pad x zero [] u = refl
append-pad x zero (y ∷ l) u = refl
append-pad x (suc n) [] u = refl
append-pad x (suc n) (y ∷ l) u = let v = used-cons y l u in rw v.0 (ap (λ l. y ∷ l) (append-pad x n l v.1))

-- TAKE OUT

-- one place more, an unused one
pad-more : (n : ℕ) (l : List ℕ) → length l ≤ n → pad n l ++ (unused_place ∷ []) ≡ pad (suc n) l
unfolding pad
pad-more zero [] h = refl
pad-more zero (x ∷ l) h = absurd (not-suc-le-zero h)
pad-more (suc n) [] h = ap (λ l. unused_place ∷ l) (pad-more n [] (omega arith))
pad-more (suc n) (x ∷ l) h = ap (λ l. x ∷ l) (pad-more n l (le_of_suc-le-suc h))

-- who is not there leaves the places as they are
pub take_out-none : (x : ℕ) (q : List ℕ) → has x q ≡ false → take_out_of x q ≡ q
unfolding take_out_of
take_out-none x q u = close-none q (place_of x q) (omega (arith, place_none x q u))

-- the list without x
pub take_out-pad :
    (x n : ℕ) (l : List ℕ) → (x ≡ unused_place → ⊥) → length l ≤ n → take_out_of x (pad n l) ≡ pad n (remove x l)
unfolding pad place_of close_up_of take_out_of
take_out-pad x n [] d h = take_out-none x (pad n []) (has-pad x d n [] h)
take_out-pad x zero (y ∷ l) d h = absurd (not-suc-le-zero h)
take_out-pad x (suc n) (y ∷ l) d h =
    by_cases (ℕ_discrete y x)
    (λ e. rw (eq-eqb y x e) (pad-more n l (le_of_suc-le-suc h)))
    (λ e. rw (ne_eqb y x e) (ap (λ l. y ∷ l) (take_out-pad x n l d (le_of_suc-le-suc h))))

-- the list without its first
pub close-first : (x n : ℕ) (l : List ℕ) → length l < n → close_up_of 0 (pad n (x ∷ l)) ≡ pad n l
unfolding pad close_up_of
close-first x zero l h = absurd (not-suc-le-zero h)
close-first x (suc n) l h = pad-more n l (le_of_suc-le-suc h)
