-- The loop over the used places of a line: one turn, the ways out, and the end. For any test and any number of places.
-- Assumes nothing.
use Prim.Native.Nat.{ℕ, suc, ◌+◌, ◌≤◌, ◌<◌}
use mathlib.Core.Path.{◌≡◌}
use mathlib.Core.Bool.{Bool, true, false, ◌&&◌, and-false}
use mathlib.Core.List.{List, ◌∷◌, ◌++◌}
use mathlib.Core.Option.{none}
use native.Mathlib.Numerals.{add-one}
use native.Mathlib.Omega.{arith}
use lib.Dec.{ltb, leb}
use lib.ListN.{length, get_or, drop}
use lib.Seq.{drop-cons}
use borrow.Author.Tests.{eq-eqb, ne_eqb, le-leb, lt-leb, ltb-true, ltb-false}
use Rattle.rules.specs.Limits.{max_size, unused_place}
use Rattle.rules.proofs.Tests.{by-test, both_true}
use Rattle.sets.specs.Sets.{member, with_of}
use Rattle.places.specs.Places.{unpad, used_first}
use Rattle.places.specs.Tests.{every}
use Rattle.soundness.specs.Clauses.{laid}
use Rattle.places.specs.Places.{holds_only}
use Rattle.seen.specs.Seen.{seen_from}
use Rattle.seen.proofs.Queues.{Ended}
use Rattle.standing.specs.Answers.{line_fits}

-- A LINE

-- a line of m from its place j on
unfoldable pub line_rest : ℕ → (ℕ → Bool) → ℕ → List ℕ → Bool
line_rest m p j q = used_first q && (leb (j + length (unpad q)) m && every p (unpad q))

-- all of it
pub line-start : (m : ℕ) (p : ℕ → Bool) (q : List ℕ) → length q ≡ max_size → line_rest m p 0 q ≡ line_fits m p q
unfolding line_rest line_fits laid
line-start m p q e =
    let n : 0 + length (unpad q) ≡ length (unpad q) = omega arith in rw (eq-eqb (length q) max_size e, n)

pub stands-below : (j m : ℕ) (b : Bool) → (ltb j m && b) ≡ true → j < m
stands-below j m b e = ltb-true j m (both_true (ltb j m) b e).0

module _ (q : List ℕ) {j x : ℕ} (e : x ≡ get_or q j 0) (b : j < length q) (used : get_or q j 0 ≡ unused_place → ⊥) where
  pub stands-new : (s : ℕ) (others : List ℕ) → member s x ≡ false
      → seen_from s (unpad (drop j q) ++ others) ≡ seen_from (with_of s x) (unpad (drop (j + 1) q) ++ others)
  unfolding unpad seen_from
  stands-new s others n = rw (add-one, drop-cons q j 0, ne_eqb (get_or q j 0) unused_place used, ← e, n)

  pub stands-twice : (s : ℕ) (others : List ℕ) → member s x ≡ true → seen_from s (unpad (drop j q) ++ others) ≡ none
  unfolding unpad seen_from
  stands-twice s others f = rw (drop-cons q j 0, ne_eqb (get_or q j 0) unused_place used, ← e, f)

module _ (m : ℕ) (p : ℕ → Bool) (q : List ℕ) {j x : ℕ} (e : x ≡ get_or q j 0) (b : j < length q)
    (used : get_or q j 0 ≡ unused_place → ⊥) where
  pub line-turn : (ltb j m && p x) ≡ true
      → line_rest m p j (drop j q) ≡ line_rest m p (j + 1) (drop (j + 1) q)
  unfolding line_rest unpad used_first every
  line-turn t =
      let w = both_true (ltb j m) (p x) t in
      let l = unpad (drop (suc j) q) in
      let n : j + length (x ∷ l) ≡ j + 1 + length l = omega arith in
      rw (drop-cons q j 0, ne_eqb (get_or q j 0) unused_place used, ← e, w.1, n, add-one j)

  pub line-bad : (ltb j m && p x) ≡ false → line_rest m p j (drop j q) ≡ false
  unfolding line_rest unpad used_first every
  line-bad t =
      rw (drop-cons q j 0, ne_eqb (get_or q j 0) unused_place used, ← e)
      (by-test (ltb j m)
      (λ f.
      let n : p x ≡ false = rw f at t in
      rw (n, and-false (leb (j + length (x ∷ unpad (drop (suc j) q))) m))
      (and-false (used_first (drop (suc j) q))))
      (λ f.
      let n : ℕ = j + length (x ∷ unpad (drop (suc j) q)) in
      let long : leb n m ≡ false = lt-leb n m (omega (arith, ltb-false j m f)) in
      rw long (and-false (used_first (drop (suc j) q)))))

pub line-end : (m : ℕ) (p : ℕ → Bool) (q : List ℕ) (j : ℕ) → j ≤ m → Ended q
    → line_rest m p j q ≡ holds_only unused_place q
unfolding line_rest every
line-end m p q j b h =
    let n : j + 0 ≡ j = omega arith in
    rw (h.nobody, h.rest, n, le-leb j m b) (by-test (holds_only unused_place q) (λ e. rw e) (λ e. rw e))
