-- Clients ranked by a number for each, ties by client number: a strict total order. So is the gate's own rank.
-- Assumes nothing.
use Prim.Native.Nat.{ℕ, ◌<◌}
use mathlib.Core.Path.{◌≡◌}
use mathlib.Core.Bool.{true, false, ◌&&◌}
use native.Mathlib.Omega.{arith}
use lib.Dec.{eqb, ltb}
use borrow.Author.Tests.{eqb-true, eq-eqb, ltb-true, ltb-false, lt-ltb, le-ltb}
use Rattle.rules.specs.Setup.{Setup}
use Rattle.rules.specs.State.{State}
use Rattle.rules.specs.Rank.{Rank, before, level, outranks}
use Rattle.rules.proofs.Tests.{by-test, clash, either_true, both_true}
use Rattle.rules.proofs.Highest.{StrictTotal}

module _ (f : ℕ → ℕ) where
  abbrev pub by_number : Rank
  by_number a b = before (f a) a (f b) b

  less : (a b : ℕ) → f a < f b → by_number a b ≡ true
  less a b h = rw (lt-ltb (f a) (f b) h)

  tie : (a b : ℕ) → f a ≡ f b → a < b → by_number a b ≡ true
  tie a b e h = rw (le-ltb (f a) (f b) (omega arith), eq-eqb (f a) (f b) e, lt-ltb a b h)

  by-number-cases {ℓ} : {X : Type ℓ} (a b : ℕ) → by_number a b ≡ true
      → (f a < f b → X) → (f a ≡ f b → a < b → X) → X
  by-number-cases a b e g k =
      either_true (ltb (f a) (f b)) (eqb (f a) (f b) && ltb a b) e
      (λ h. g (ltb-true _ _ h)) λ h.
      let z = both_true (eqb (f a) (f b)) (ltb a b) h in
      k (eqb-true (f a) (f b) z.0) (ltb-true a b z.1)

  never-itself : (a : ℕ) → by_number a a ≡ false
  never-itself a =
      rw (le-ltb (f a) (f a) (omega arith), le-ltb a a (omega arith))
      (by-test (eqb (f a) (f a)) (λ e. rw e) (λ e. rw e))

  transitive : (a b c : ℕ) → by_number a b ≡ true → by_number b c ≡ true → by_number a c ≡ true
  transitive a b c e g =
      by-number-cases a b e
      (λ h. by-number-cases b c g
      (λ i. less a c (omega arith))
      (λ i k. less a c (omega arith)))
      (λ h k. by-number-cases b c g
      (λ i. less a c (omega arith))
      (λ i j. tie a c (omega arith) (omega arith)))

  total : (a b : ℕ) → (a ≡ b → ⊥) → by_number a b ≡ false → by_number b a ≡ true
  total a b n e =
      by-test (ltb (f b) (f a)) (λ h. less b a (ltb-true _ _ h)) λ h.
      by-test (ltb (f a) (f b)) (λ g. clash (less a b (ltb-true _ _ g)) e) λ g.
      by-test (ltb b a) (λ k. tie b a (omega (arith, ltb-false)) (ltb-true b a k))
      (λ k. clash (tie a b (omega (arith, ltb-false)) (omega (arith, ltb-false))) e)

  pub by-number-total : StrictTotal by_number
  by-number-total = record { irreflexive = never-itself; transitive = transitive; total = total }

pub own-order : (u : Setup) (s : State) → StrictTotal (outranks u s)
unfolding outranks
own-order u s = by-number-total (level u s)
