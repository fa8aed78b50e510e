-- Searches and counts below a number, and the latest of those that pass a test.
-- Assumes nothing.
use Prim.Native.Nat.{ℕ, zero, suc, ◌≤◌, ◌<◌}
use mathlib.Core.Path.{◌≡◌, refl}
use mathlib.Core.Bool.{Bool, true, false}
use mathlib.Core.Option.{Option, some, none}
use native.Mathlib.Omega.{arith}
use lib.Dec.{eqb, ltb}
use borrow.Author.Tests.{eqb-true, eqb-false, ltb-true, ltb-false}
use Rattle.rules.specs.Lists.{count_below, some_below, higher, highest}
use Rattle.rules.proofs.Tests.{by-test, clash, either_true}

-- SEARCHES

pub some-found {ℓ} : {X : Type ℓ} (p : ℕ → Bool) (n : ℕ) → some_below p n ≡ true → ((x : ℕ) → x < n → p x ≡ true → X) → X
some-found p zero e f = clash e refl
some-found p (suc n) e f =
    either_true (p n) (some_below p n) e
    (λ y. f n (omega arith) y)
    (λ y. some-found p n y (λ x h z. f x (omega arith) z))

-- COUNTS

-- whoever passes the one passes the other
pub count-le : (p q : ℕ → Bool) (n : ℕ) → ((x : ℕ) → x < n → p x ≡ true → q x ≡ true) → count_below p n ≤ count_below q n
count-le p q zero h = omega arith
count-le p q (suc n) h =
    let i = count-le p q n (λ x b e. h x (omega arith) e) in
    by-test (p n)
    (λ e. rw (e, h n (omega arith) e) (omega arith))
    (λ e. by-test (q n) (λ f. rw (e, f) (omega arith)) (λ f. rw (e, f) i))

-- and x passes the other alone
pub count_less : (p q : ℕ → Bool) (n x : ℕ) → ((y : ℕ) → y < n → p y ≡ true → q y ≡ true)
    → x < n → p x ≡ false → q x ≡ true → count_below p n < count_below q n
count_less p q zero x h b e f = absurd (omega arith)
count_less p q (suc n) x h b e f =
    by-test (eqb x n)
    (λ y. let s : x ≡ n = eqb-true x n y in
    let pn : p n ≡ false = rw (← s) e in
    let qn : q n ≡ true = rw (← s) f in
    let i = count-le p q n (λ z c w. h z (omega arith) w) in rw (pn, qn) (omega arith))
    (λ y. let i = count_less p q n x (λ z c w. h z (omega arith) w) (omega (arith, eqb-false x n y)) e f in
    by-test (p n)
    (λ z. rw (z, h n (omega arith) z) (omega arith))
    (λ z. by-test (q n) (λ w. rw (z, w) (omega arith)) (λ w. rw (z, w) i)))

-- nobody is counted who fails
pub count_none : (p : ℕ → Bool) (n x : ℕ) → count_below p n ≡ 0 → x < n → p x ≡ true → ⊥
count_none p zero x e b f = omega arith
count_none p (suc n) x e b f =
    by-test (p n)
    (λ y. let z : suc (count_below p n) ≡ 0 = rw y at e in omega arith)
    (λ y. let z : count_below p n ≡ 0 = rw y at e in
    by-test (eqb x n)
    (λ w. clash (rw (← eqb-true x n w) f) y)
    (λ w. count_none p n x z (omega (arith, eqb-false x n w)) f))

-- THE LATEST

module _ (f : ℕ → ℕ) (p : ℕ → Bool) where
  abbrev later : ℕ → ℕ → Bool
  later a b = ltb (f b) (f a)

  -- what a search below n comes to: nobody passes, or d does and none that passes is later
  abbrev pub Latest : ℕ → Option ℕ → Type 0
  Latest n none = (x : ℕ) → x < n → p x ≡ true → ⊥
  Latest n (some d) = (d < n) × (p d ≡ true) × ((x : ℕ) → x < n → p x ≡ true → f x ≤ f d)

  joins : (n : ℕ) → p n ≡ true → (o : Option ℕ) → Latest n o → Latest (suc n) (some (higher later n o))
  joins n e none h = (
    omega arith,
    e,
    λ x b y. by-test (eqb x n)
        (λ z. rw (eqb-true x n z) (omega arith))
        (λ z. absurd (h x (omega (arith, eqb-false x n z)) y)),
  )
  joins n e (some d) h =
      by-test (ltb (f d) (f n))
      (λ y. rw y (
        omega arith,
        e,
        λ x b z. by-test (eqb x n)
            (λ w. rw (eqb-true x n w) (omega arith))
            (λ w. let i = h.2 x (omega (arith, eqb-false x n w)) z in omega (arith, ltb-true (f d) (f n) y)),
      ))
      (λ y. rw y (
        omega (arith, h.0),
        h.1,
        λ x b z. by-test (eqb x n)
            (λ w. rw (eqb-true x n w) (ltb-false (f d) (f n) y))
            (λ w. h.2 x (omega (arith, eqb-false x n w)) z),
      ))

  wider : (n : ℕ) → p n ≡ false → (o : Option ℕ) → Latest n o → Latest (suc n) o
  wider n e none h = λ x b y.
      by-test (eqb x n)
      (λ z. clash (rw (← eqb-true x n z) y) e)
      (λ z. h x (omega (arith, eqb-false x n z)) y)
  wider n e (some d) h = (
    omega (arith, h.0),
    h.1,
    λ x b y. by-test (eqb x n)
        (λ z. clash (rw (← eqb-true x n z) y) e)
        (λ z. h.2 x (omega (arith, eqb-false x n z)) y),
  )

  pub latest-is : (n : ℕ) → Latest n (highest later p n)
  latest-is zero = λ x b e. omega arith
  latest-is (suc n) =
      by-test (p n)
      (λ e. rw e (joins n e (highest later p n) (latest-is n)))
      (λ e. rw e (wider n e (highest later p n) (latest-is n)))
