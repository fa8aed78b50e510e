-- The laws of places that hold a list: how many, which list, which places are a list's, who is there, who is first.
-- For any number n of places. Assumes nothing.
use Prim.Native.Nat.{ℕ, zero, suc, ◌≤◌, ◌<◌}
use mathlib.Core.Path.{◌≡◌, refl, sym, ap, ap₂}
use mathlib.Core.Bool.{Bool, true, false, ◌||◌}
use mathlib.Core.List.{List, [], ◌∷◌}
use mathlib.Core.Logic.{by_cases}
use native.Mathlib.Decide.{ℕ_discrete}
use native.Mathlib.Nat.{not-suc-le-zero, le_of_suc-le-suc}
use native.Mathlib.Omega.{arith}
use borrow.Author.Tests.{eq-eqb, ne_eqb, eqb-true}
use lib.Dec.{eqb}
use lib.ListN.{length, get_or}
use Rattle.rules.specs.Limits.{unused_place}
use Rattle.rules.specs.Lists.{has, heads}
use Rattle.rules.proofs.Tests.{not_so, both_false, both_true}
use Rattle.places.specs.Places.{pad, unpad, holds_only, blank, used_first}

-- HOW MANY

pub length-pad : (n : ℕ) (l : List ℕ) → length (pad n l) ≡ n
unfolding pad
length-pad zero l = refl
length-pad (suc n) [] = ap suc (length-pad n [])
length-pad (suc n) (x ∷ l) = ap suc (length-pad n l)

-- WHICH LIST

-- numbers below 255 leave no place of a list unused
pub no-unused : (l : List ℕ) → ((x : ℕ) → has x l ≡ true → x < unused_place) → has unused_place l ≡ false
no-unused l h = not_so (has unused_place l) (λ e. omega (arith, h unused_place e))

-- no unused place in a list: its first is used, and the others are
pub used-cons :
    (x : ℕ) (l : List ℕ) → has unused_place (x ∷ l) ≡ false
    → (eqb x unused_place ≡ false) × (has unused_place l ≡ false)
used-cons x l u = both_false (eqb x unused_place) (has unused_place l) u

-- the places of a list hold that list
pub unpad-pad : (n : ℕ) (l : List ℕ) → has unused_place l ≡ false → length l ≤ n → unpad (pad n l) ≡ l
unfolding pad unpad
unpad-pad zero [] u h = refl
unpad-pad zero (x ∷ l) u h = absurd (not-suc-le-zero h)
unpad-pad (suc n) [] u h = refl
unpad-pad (suc n) (x ∷ l) u h =
    let v = used-cons x l u in rw v.0 (ap (λ l. x ∷ l) (unpad-pad n l v.1 (le_of_suc-le-suc h)))

-- WHICH PLACES

blank-pad : (n : ℕ) → blank (pad n []) ≡ true
unfolding pad holds_only
blank-pad zero = refl
blank-pad (suc n) = blank-pad n

pad-blank : (q : List ℕ) → blank q ≡ true → pad (length q) [] ≡ q
unfolding pad holds_only
pad-blank [] b = refl
pad-blank (x ∷ q) b =
    let v = both_true (eqb x unused_place) (blank q) b in
    ap₂ (λ x l. x ∷ l) (sym (eqb-true x unused_place v.0)) (pad-blank q v.1)

-- in the places of a list used places come first
pub used_first-pad : (n : ℕ) (l : List ℕ) → has unused_place l ≡ false → used_first (pad n l) ≡ true
unfolding pad used_first
used_first-pad zero l u = refl
used_first-pad (suc n) [] u = blank-pad n
used_first-pad (suc n) (x ∷ l) u = let v = used-cons x l u in rw v.0 (used_first-pad n l v.1)

-- and where they do, the places are those of the list that they hold
pub pad-unpad : (q : List ℕ) → used_first q ≡ true → pad (length q) (unpad q) ≡ q
unfolding pad unpad used_first
pad-unpad [] u = refl
pad-unpad (x ∷ q) u =
    by_cases (ℕ_discrete x unused_place)
    (λ e. rw e (ap (λ l. unused_place ∷ l) (pad-blank q (rw (eq-eqb x unused_place e) at u))))
    (λ d. rw (ne_eqb x unused_place d) (ap (λ l. x ∷ l) (pad-unpad q (rw (ne_eqb x unused_place d) at u))))

-- that list is no longer than there are places
pub unpad-fits : (q : List ℕ) → length (unpad q) ≤ length q
unfolding unpad
unpad-fits [] = omega arith
unpad-fits (x ∷ q) =
    by_cases (ℕ_discrete x unused_place)
    (λ e. rw (eq-eqb x unused_place e) (omega arith))
    (λ d. rw (ne_eqb x unused_place d) (omega (arith, unpad-fits q)))

-- WHO IS THERE

-- who is in the places of a list is in the list; 255 stands for nobody
module _ (x : ℕ) (someone : x ≡ unused_place → ⊥) where
  pub has-pad : (n : ℕ) (l : List ℕ) → length l ≤ n → has x (pad n l) ≡ has x l
  unfolding pad
  has-pad zero [] h = refl
  has-pad zero (y ∷ l) h = absurd (not-suc-le-zero h)
  has-pad (suc n) [] h = rw (ne_eqb unused_place x (λ e. someone (sym e))) (has-pad n [] (omega arith))
  has-pad (suc n) (y ∷ l) h = ap (λ (b : Bool). eqb y x || b) (has-pad n l (le_of_suc-le-suc h))

  -- and who is first is first
  pub heads-pad : (n : ℕ) (l : List ℕ) (d : ℕ) → 0 < n → eqb (get_or (pad n l) 0 d) x ≡ heads x l
  unfolding pad
  heads-pad zero l d h = absurd (not-suc-le-zero h)
  heads-pad (suc n) [] d h = ne_eqb unused_place x (λ e. someone (sym e))
  heads-pad (suc n) (y ∷ l) d h = refl
