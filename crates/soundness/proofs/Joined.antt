-- Lists one after the other: who is in them, and when nobody is there twice.
-- Assumes nothing.
use Prim.Native.Nat.{ℕ, zero, suc, ◌+◌, ◌≤◌, ◌<◌}
use mathlib.Core.Path.{◌≡◌, refl}
use mathlib.Core.Bool.{true, false}
use mathlib.Core.List.{List, [], ◌∷◌, ◌++◌}
use native.Mathlib.Omega.{arith}
use lib.Dec.{eqb}
use borrow.Author.Tests.{eqb-true, eqb-false}
use Rattle.rules.specs.Lists.{has, Distinct}
use Rattle.rules.proofs.Tests.{by-test, clash, not_so, either_true, both_false}
use Rattle.rules.proofs.Lists.{has-head, has-tail, has-append, distinct-right}
use Rattle.soundness.specs.Tests.{joined}

-- TWO LISTS

pub has_left : (x : ℕ) (s t : List ℕ) → has x s ≡ true → has x (s ++ t) ≡ true
has_left x s t h = rw (has-append x s t, h)

pub has_right : (x : ℕ) (s t : List ℕ) → has x t ≡ true → has x (s ++ t) ≡ true
has_right x s t h = rw (has-append x s t, h) (by-test (has x s) (λ e. rw e) (λ e. rw e))

pub not-appended : (x : ℕ) (s t : List ℕ) → has x (s ++ t) ≡ false → (has x s ≡ false) × (has x t ≡ false)
not-appended x s t h = both_false (has x s) (has x t) (rw has-append at h)

pub distinct-left : (s t : List ℕ) → Distinct (s ++ t) → Distinct s
distinct-left [] t h = tt
distinct-left (x ∷ s) t h = ((not-appended x s t h.0).0, distinct-left s t h.1)

pub distinct_append : (s t : List ℕ) → Distinct s → Distinct t
    → ((x : ℕ) → has x s ≡ true → has x t ≡ true → ⊥) → Distinct (s ++ t)
distinct_append [] t a b h = b
distinct_append (x ∷ s) t a b h = (
  not_so (has x (s ++ t)) (λ e. either_true (has x s) (has x t) (rw has-append at e)
      (λ p. clash p a.0) (λ p. h x (has-head x s) p)),
  distinct_append s t a.1 b (λ y p q. h y (has-tail y x s p) q),
)

-- MANY

module _ (f : ℕ → List ℕ) where
  pub joined-has {ℓ} : {X : Type ℓ} (k n x : ℕ) → has x (joined f k n) ≡ true
      → ((j : ℕ) → k ≤ j → j < k + n → has x (f j) ≡ true → X) → X
  unfolding joined
  joined-has k zero x h g = clash h refl
  joined-has k (suc n) x h g =
      either_true (has x (f k)) (has x (joined f (suc k) n)) (rw has-append at h)
      (λ e. g k (omega arith) (omega arith) e)
      (λ e. joined-has (suc k) n x e (λ j a b i. g j (omega arith) (omega arith) i))

  pub has-joined : (k n j x : ℕ) → k ≤ j → j < k + n → has x (f j) ≡ true → has x (joined f k n) ≡ true
  unfolding joined
  has-joined k zero j x a b h = absurd (omega arith)
  has-joined k (suc n) j x a b h =
      by-test (eqb j k)
      (λ e. has_left x (f k) (joined f (suc k) n) (rw (eqb-true j k e) at h))
      (λ e. has_right x (f k) (joined f (suc k) n)
      (has-joined (suc k) n j x (omega (arith, eqb-false j k e)) (omega arith) h))

  pub joined-distinct : (k n j : ℕ) → k ≤ j → j < k + n → Distinct (joined f k n) → Distinct (f j)
  unfolding joined
  joined-distinct k zero j a b h = absurd (omega arith)
  joined-distinct k (suc n) j a b h =
      by-test (eqb j k)
      (λ e. rw (eqb-true j k e) (distinct-left (f k) (joined f (suc k) n) h))
      (λ e. joined-distinct (suc k) n j (omega (arith, eqb-false j k e)) (omega arith)
      (distinct-right (f k) (joined f (suc k) n) h))

  -- lists that have nobody twice, and nobody in common
  pub distinct-joined : (k n : ℕ) → ((j : ℕ) → Distinct (f j))
      → ((i j x : ℕ) → has x (f i) ≡ true → has x (f j) ≡ true → i ≡ j) → Distinct (joined f k n)
  unfolding joined
  distinct-joined k zero d h = tt
  distinct-joined k (suc n) d h =
      distinct_append (f k) (joined f (suc k) n) (d k) (distinct-joined (suc k) n d h) (λ x p q.
      joined-has (suc k) n x q (λ j a b i. omega (arith, h k j x p i)))
