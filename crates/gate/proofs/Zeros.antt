-- Laws of a list with zeros from a place on.
-- Assumes nothing.
use Prim.Native.Nat.{ℕ, zero, suc, ◌-◌, ◌≤◌, min}
use mathlib.Core.Path.{◌≡◌, refl, sym, ap, ◌∙◌}
use mathlib.Core.Bool.{Bool, true, false, cond}
use mathlib.Core.List.{List, [], ◌∷◌, ◌++◌}
use native.Mathlib.Omega.{arith}
use lib.ListN.{length, get_or, take, drop, replicate}
use lib.Dec.{ltb}
use borrow.Author.Tests.{ltb-true, ltb-false, lt-ltb, le-ltb}
use borrow.Rule.Slice.PartMut.{post_of}
use Rattle.std.proofs.Common.{length-drop, append-nil}
use Rattle.std.proofs.lemmas.List.{drop_all, take_all}
use Rattle.rules.specs.Setup.{up_to}
use Rattle.rules.proofs.Tests.{by-test}
use Rattle.gate.specs.Made.{zero_past}

-- the first n places, and then zeros
zeros-all : (q : List ℕ) → replicate (length q) 0 ≡ zero_past 0 q
unfolding zero_past
zeros-all [] = refl
zeros-all (x ∷ q) = ap (λ l. 0 ∷ l) (zeros-all q)

zeros_past : (n : ℕ) (q : List ℕ) → take n q ++ replicate (length q - n) 0 ≡ zero_past n q
unfolding zero_past
zeros_past zero q = let h : length q - 0 ≡ length q = omega arith in rw h (zeros-all q)
zeros_past (suc n) [] = let h : 0 - suc n ≡ 0 = omega arith in ap (λ (m : ℕ). replicate m 0) h
zeros_past (suc n) (x ∷ q) =
    let h : suc (length q) - suc n ≡ length q - n = omega arith in
    rw h (ap (λ l. x ∷ l) (zeros_past n q))

-- no place stands past the end
zeros-end : (n : ℕ) (q : List ℕ) → length q ≤ n → zero_past n q ≡ q
unfolding zero_past
zeros-end n [] h = refl
zeros-end zero (x ∷ q) h = absurd (omega arith)
zeros-end (suc n) (x ∷ q) h = ap (λ l. x ∷ l) (zeros-end n q (omega arith))

zeros-within : (n : ℕ) (q : List ℕ) → zero_past (min n (length q)) q ≡ zero_past n q
zeros-within n q = by-test (ltb n (length q))
    (λ e. let h : min n (length q) ≡ n = omega (arith, ltb-true n (length q) e) in rw h)
    (λ e. let h : min n (length q) ≡ length q = omega (arith, ltb-false n (length q) e) in
    rw (h, zeros-end (length q) q (omega arith), zeros-end n q (omega (arith, ltb-false n (length q) e))))

-- zeros written over what stands from place k on, which is n or the length
pub zeros-over : (k n w : ℕ) (q z : List ℕ) → k ≡ min n w → w ≡ length q
    → z ≡ replicate (length (take (length q - k) (drop k q))) 0
    → take k q ++ (z ++ post_of k (length q - k) q) ≡ zero_past n q
zeros-over k n w q z e f h =
    let r : length (drop k q) ≡ length q - k = length-drop k q in
    let p : post_of k (length q - k) q ≡ [] = drop_all (length q - k) (drop k q) (omega (arith, r)) in
    let t : take (length q - k) (drop k q) ≡ drop k q = take_all (length q - k) (drop k q) (omega (arith, r)) in
    rw (h, p, t, r, append-nil {A = ℕ} (replicate (length q - k) 0), zeros_past k q, e, f) (zeros-within n q)

pub length-zeros : (n : ℕ) (q : List ℕ) → length (zero_past n q) ≡ length q
unfolding zero_past
length-zeros n [] = refl
length-zeros zero (x ∷ q) = ap suc (length-zeros zero q)
length-zeros (suc n) (x ∷ q) = ap suc (length-zeros n q)

-- read at any place
pub zeros-at : (n : ℕ) (q : List ℕ) (i : ℕ) → get_or (zero_past n q) i 0 ≡ up_to n (λ (j : ℕ). get_or q j 0) i
unfolding zero_past
zeros-at n [] i = by-test (ltb i n) (λ e. rw e) (λ e. rw e)
zeros-at zero (x ∷ q) zero = refl
zeros-at zero (x ∷ q) (suc i) = zeros-at zero q i ∙ rw (le-ltb i 0 (omega arith), le-ltb (suc i) 0 (omega arith))
zeros-at (suc n) (x ∷ q) zero = rw (lt-ltb 0 (suc n) (omega arith))
zeros-at (suc n) (x ∷ q) (suc i) = zeros-at n q i ∙ ap (λ b. cond b (get_or q i 0) 0) (same (ltb i n) refl)
  where
    same : (b : Bool) → ltb i n ≡ b → ltb i n ≡ ltb (suc i) (suc n)
    same true e = e ∙ sym (lt-ltb (suc i) (suc n) (omega (arith, ltb-true i n e)))
    same false e = e ∙ sym (le-ltb (suc i) (suc n) (omega (arith, ltb-false i n e)))
