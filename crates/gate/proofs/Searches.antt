-- A search of a list for the first element that fails a test, as a search of numbers.
-- Assumes nothing.
use Prim.Native.Nat.{ℕ, suc, ◌+◌, ◌≤◌, ◌<◌}
use mathlib.Core.Path.{◌≡◌, refl, sym, ap, ◌∙◌}
use mathlib.Core.Bool.{Bool, true, false, not}
use mathlib.Core.List.{List, [], ◌∷◌}
use native.Mathlib.Omega.{arith}
use lib.ListN.{length, get_or, take}
use lib.Dec.{ltb}
use borrow.Author.Tests.{ltb-true, ltb-false}
use Rattle.std.proofs.Common.{Option, Some, None, is_some, unwrap_or, position}
use Rattle.std.proofs.lemmas.List.{get_or-take, length-take-le}
use Rattle.std.proofs.lemmas.Slice.Zip.{get_or-zip, length-zip}
use Rattle.std.specs.List.{position_or_len, zip}
use Rattle.rules.specs.Lists.{failing_from, first_failing}
use Rattle.rules.specs.Setup.{fit_size, fit_row, size_fits, row_fits, first_bad_size, first_bad_row}
use Rattle.rules.proofs.Tests.{by-test, clash}
use Rattle.gate.specs.declared.Setup.{Setup}
use Rattle.gate.specs.Shown.{setup_of}

twice : (b : Bool) → b ≡ not (not b)
twice true = refl
twice false = refl

-- p fails at the numbers at whose elements q holds
searched-from : {A : Type 0} (q : A → Bool) (l : List A) (d : A) (p : ℕ → Bool) (i : ℕ)
    → ((k : ℕ) → k < length l → p (i + k) ≡ not (q (get_or l k d)))
    → failing_from p i (length l) ≡ i + position_or_len q l
searched-from q [] d p i h = omega arith
searched-from q (x ∷ l) d p i h =
    let z : i + 0 ≡ i = omega arith in
    let e : p i ≡ not (q x) = rw z at (h 0 (omega arith)) in
    let r : failing_from p (suc i) (length l) ≡ suc i + position_or_len q l =
    searched-from q l d p (suc i) (λ k b.
    let s : i + suc k ≡ suc i + k = omega arith in
    rw s at (h (suc k) (omega arith))) in
    by-test (q x) (λ t. rw (e, t) (omega arith)) (λ t. rw (e, t, r) (omega arith))

searched : {A : Type 0} (q : A → Bool) (l : List A) (d : A) (p : ℕ → Bool)
    → ((k : ℕ) → k < length l → p k ≡ not (q (get_or l k d)))
    → first_failing p (length l) ≡ position_or_len q l
searched q l d p h =
    searched-from q l d p 0 (λ k b. let z : 0 + k ≡ k = omega arith in rw z (h k b)) ∙ omega arith

-- The place that is found, or none, where n numbers are searched for the first that fails p.
module _ {A : Type 0} (q : A → Bool) (l : List A) (d : A) (p : ℕ → Bool) (n : ℕ) (w : length l ≡ n)
    (h : (k : ℕ) → k < length l → p k ≡ not (q (get_or l k d))) where
  first : first_failing p n ≡ position_or_len q l
  first = rw (← w) (searched q l d p h)

  pub found : (i : ℕ) → Some i ≡ position q l → (i ≡ first_failing p n) × (first_failing p n < n)
  found i e = by-test (ltb (position_or_len q l) (length l))
      (λ t. let s : Some i ≡ Some (position_or_len q l) = rw t at e in
      (ap (λ (o : Option ℕ). unwrap_or o i) s ∙ sym first, omega (arith, first, ltb-true (position_or_len q l) (length l) t)))
      (λ t. let s : Some i ≡ None = rw t at e in clash refl (ap is_some s))

  pub missed : None ≡ position q l → n ≤ first_failing p n
  missed e = by-test (ltb (position_or_len q l) (length l))
      (λ t. let s : Some (position_or_len q l) ≡ None = sym (rw t at e) in clash refl (ap is_some s))
      (λ t. omega (arith, first, ltb-false (position_or_len q l) (length l) t))

-- The bad sizes and rows of a setup, in the bytes that it has of its clusters and clients.
module _ (s : Setup) where
  size-at : (n k : ℕ) → n ≤ length s.sizes → k < length (take n s.sizes)
      → size_fits (setup_of s) k ≡ not (not (fit_size (get_or (take n s.sizes) k 0)))
  size-at n k f h =
      let b : k < n = omega (arith, h, length-take-le n s.sizes f) in
      rw (get_or-take n s.sizes k 0 b) (twice (fit_size (get_or s.sizes k 0)))

  pub size-found : (n i : ℕ) → n ≤ length s.sizes → n ≡ s.clusters
      → Some i ≡ position (λ m. not (fit_size m)) (take n s.sizes)
      → (i ≡ first_bad_size (setup_of s)) × (first_bad_size (setup_of s) < s.clusters)
  size-found n i f c e = rw c at
      (found (λ m. not (fit_size m)) (take n s.sizes) 0 (size_fits (setup_of s)) n (length-take-le n s.sizes f)
      (λ k h. size-at n k f h) i e)

  pub size-missed : (n : ℕ) → n ≤ length s.sizes → n ≡ s.clusters
      → None ≡ position (λ m. not (fit_size m)) (take n s.sizes)
      → s.clusters ≤ first_bad_size (setup_of s)
  size-missed n f c e = rw c at
      (missed (λ m. not (fit_size m)) (take n s.sizes) 0 (size_fits (setup_of s)) n (length-take-le n s.sizes f)
      (λ k h. size-at n k f h) e)

  abbrev pairs : ℕ → List (ℕ × ℕ)
  pairs n = zip (take n s.kinds) (take n s.homes)

  abbrev misfit : ℕ × ℕ → Bool
  misfit r = not (fit_row s.clusters r.0 r.1)

  length-pairs : (n : ℕ) → n ≤ length s.kinds → n ≤ length s.homes → length (pairs n) ≡ n
  length-pairs n f g =
      length-zip (take n s.kinds) (take n s.homes)
      ∙ rw (length-take-le n s.kinds f, length-take-le n s.homes g) (omega arith)

  row-at : (n k : ℕ) → n ≤ length s.kinds → n ≤ length s.homes → k < length (pairs n)
      → row_fits (setup_of s) k ≡ not (misfit (get_or (pairs n) k (0, 0)))
  row-at n k f g h =
      let b : k < n = omega (arith, h, length-pairs n f g) in
      rw (
        get_or-zip (take n s.kinds) (take n s.homes) k (0, 0)
            (omega (arith, b, length-take-le n s.kinds f)) (omega (arith, b, length-take-le n s.homes g)),
        get_or-take n s.kinds k 0 b,
        get_or-take n s.homes k 0 b,
      )
      (twice (fit_row s.clusters (get_or s.kinds k 0) (get_or s.homes k 0)))

  pub row-found : (n i : ℕ) → n ≤ length s.kinds → n ≤ length s.homes → n ≡ s.clients
      → Some i ≡ position misfit (pairs n)
      → (i ≡ first_bad_row (setup_of s)) × (first_bad_row (setup_of s) < s.clients)
  row-found n i f g c e = rw c at
      (found misfit (pairs n) (0, 0) (row_fits (setup_of s)) n (length-pairs n f g) (λ k h. row-at n k f g h) i e)

  pub row-missed : (n : ℕ) → n ≤ length s.kinds → n ≤ length s.homes → n ≡ s.clients
      → None ≡ position misfit (pairs n)
      → s.clients ≤ first_bad_row (setup_of s)
  row-missed n f g c e = rw c at
      (missed misfit (pairs n) (0, 0) (row_fits (setup_of s)) n (length-pairs n f g) (λ k h. row-at n k f g h) e)
