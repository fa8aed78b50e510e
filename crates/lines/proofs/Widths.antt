-- Numbers beside their widths, as the code compares them.
-- Assumes nothing.
use Prim.Native.Nat.{ℕ, zero, suc, ◌+◌, ◌≤◌, ◌<◌}
use native.Mathlib.Numerals.{add-one}
use native.Mathlib.Omega.{arith}
use mathlib.Core.Path.{◌≡◌, refl}
use mathlib.Core.Bool.{true, false}
use mathlib.Core.List.{List, [], ◌∷◌}
use lib.Dec.{leb}
use lib.ListN.{length, get_or, take, drop, set, drop_of_length-le}
use lib.Seq.{drop-cons, take-suc, take-suc-set}
use borrow.Author.Tests.{le-leb, lt-leb, leb-true}
use Rattle.rules.proofs.Tests.{by-test, clash, both_true}
use Rattle.lines.specs.Lines.{fit_in, all_fit}

-- A WIDTH FOR EACH

pub other-count : (ws vs : List ℕ) → (length ws ≡ length vs → ⊥) → fit_in ws vs ≡ false
unfolding fit_in
other-count [] [] n = absurd (n refl)
other-count [] (v ∷ vs) n = refl
other-count (w ∷ ws) [] n = refl
other-count (w ∷ ws) (v ∷ vs) n =
    by-test (leb v w) (λ y. rw y (other-count ws vs (λ q. n (omega arith)))) (λ y. rw y)

-- what fits are as many numbers as widths,
pub fit_length : (ws vs : List ℕ) → fit_in ws vs ≡ true → length ws ≡ length vs
unfolding fit_in
fit_length [] [] e = refl
fit_length [] (v ∷ vs) e = clash e refl
fit_length (w ∷ ws) [] e = clash e refl
fit_length (w ∷ ws) (v ∷ vs) e = omega (arith, fit_length ws vs (both_true (leb v w) (fit_in ws vs) e).1)

-- and each is at most its width
pub fit_at : (ws vs : List ℕ) → fit_in ws vs ≡ true → (j : ℕ) → get_or vs j 0 ≤ get_or ws j 0
unfolding fit_in
fit_at [] [] e j = omega arith
fit_at [] (v ∷ vs) e j = clash e refl
fit_at (w ∷ ws) [] e j = omega arith
fit_at (w ∷ ws) (v ∷ vs) e zero = leb-true v w (both_true (leb v w) (fit_in ws vs) e).0
fit_at (w ∷ ws) (v ∷ vs) e (suc j) = fit_at ws vs (both_true (leb v w) (fit_in ws vs) e).1 j

-- from place i on
module _ (ws vs : List ℕ) (i : ℕ) where
  pub too_wide : i < length ws → i < length vs → get_or ws i 0 < get_or vs i 0 → fit_in (drop i ws) (drop i vs) ≡ false
  unfolding fit_in
  too_wide a b h = rw (drop-cons ws i 0, drop-cons vs i 0, lt-leb (get_or vs i 0) (get_or ws i 0) h)

  pub fits-here : i < length ws → i < length vs → get_or vs i 0 ≤ get_or ws i 0
      → fit_in (drop i ws) (drop i vs) ≡ fit_in (drop (i + 1) ws) (drop (i + 1) vs)
  unfolding fit_in
  fits-here a b h = rw (add-one, drop-cons ws i 0, drop-cons vs i 0, le-leb (get_or vs i 0) (get_or ws i 0) h)

  pub all-passed : length ws ≤ i → length vs ≤ i → fit_in (drop i ws) (drop i vs) ≡ true
  unfolding fit_in
  all-passed a b = rw (drop_of_length-le ws a, drop_of_length-le vs b)

-- ONE WIDTH FOR ALL

pub all-at : (w : ℕ) (vs : List ℕ) → all_fit w vs ≡ true → (j : ℕ) → get_or vs j 0 ≤ w
unfolding all_fit
all-at w [] e j = omega arith
all-at w (v ∷ vs) e zero = leb-true v w (both_true (leb v w) (all_fit w vs) e).0
all-at w (v ∷ vs) e (suc j) = all-at w vs (both_true (leb v w) (all_fit w vs) e).1 j

module _ (w : ℕ) (vs : List ℕ) (i : ℕ) where
  pub one-too-wide : i < length vs → w < get_or vs i 0 → all_fit w (drop i vs) ≡ false
  unfolding all_fit
  one-too-wide a h = rw (drop-cons vs i 0, lt-leb (get_or vs i 0) w h)

  pub one-fits : i < length vs → get_or vs i 0 ≤ w → all_fit w (drop i vs) ≡ all_fit w (drop (i + 1) vs)
  unfolding all_fit
  one-fits a h = rw (add-one, drop-cons vs i 0, le-leb (get_or vs i 0) w h)

  pub all-fit : length vs ≤ i → all_fit w (drop i vs) ≡ true
  unfolding all_fit
  all-fit a = rw (drop_of_length-le vs a)

-- one more number stands in its place
pub one-copied : (vs out : List ℕ) (i : ℕ) → i < length vs → i < length out → take i out ≡ take i vs
    → take (i + 1) (set out i (get_or vs i 0)) ≡ take (i + 1) vs
one-copied vs out i a b e = rw (add-one, take-suc-set out i (get_or vs i 0), take-suc vs i 0, e)
