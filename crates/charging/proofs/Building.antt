-- Searches over fewer numbers, and sets that are built cluster by cluster.
-- Assumes nothing.
use Prim.Native.Nat.{◌<◌, ◌≤◌, suc, zero, ℕ}
use mathlib.Core.Bool.{Bool, ◌&&◌, ◌||◌, false, true, and-false, or_comm}
use mathlib.Core.Path.{◌∙◌, ◌≡◌, refl, sym}
use native.Mathlib.Omega.{arith}
use lib.Dec.{eqb, ltb}
use borrow.Author.Tests.{eqb-false, eqb-true, le-ltb, lt-ltb, ltb-false, ltb-true}
use Rattle.rules.specs.Limits.{max_clients}
use Rattle.rules.specs.Lists.{some_below}
use Rattle.rules.proofs.Counts.{some_same}
use Rattle.rules.proofs.Tests.{by-test}
use Rattle.sets.specs.Sets.{set_of, union_of}
use Rattle.sets.proofs.Laws.{member-set_of, set_of-none, set_of-same}

-- tests that agree below n, of which one fails from there on
pub some-cut : (p q : ℕ → Bool) (n w : ℕ) → n ≤ w → ((x : ℕ) → x < n → p x ≡ q x)
    → ((x : ℕ) → x < w → n ≤ x → p x ≡ false) → some_below p w ≡ some_below q n
some-cut p q n zero l h past = let e : n ≡ 0 = omega arith in rw e
some-cut p q n (suc w) l h past =
    by-test (eqb n (suc w))
    (λ e. rw (eqb-true n (suc w) e) (some_same p q (suc w) (λ x b. h x (omega (arith, eqb-true n (suc w) e)))))
    (λ e. rw (past w (omega arith) (omega (arith, eqb-false n (suc w) e)))
    (some-cut p q n w (omega (arith, eqb-false n (suc w) e)) h (λ x b m. past x (omega arith) m)))

-- ONE CLUSTER MORE

below_next : (x k : ℕ) → ltb x (suc k) ≡ eqb x k || ltb x k
below_next x k =
    by-test (eqb x k)
    (λ e. rw (e, lt-ltb x (suc k) (omega (arith, eqb-true x k e))))
    (λ e. by-test (ltb x k)
    (λ f. rw (e, f, lt-ltb x (suc k) (omega (arith, ltb-true x k f))))
    (λ f. rw (e, f, le-ltb x (suc k) (omega (arith, ltb-false x k f, eqb-false x k e)))))

-- those of the clusters below k that pass, and those of k
pub union-next : (p : ℕ → Bool) (home : ℕ → ℕ) (k : ℕ)
    → union_of (set_of max_clients (λ c. p c && ltb (home c) k)) (set_of max_clients (λ c. p c && eqb (home c) k))
    ≡ set_of max_clients (λ c. p c && ltb (home c) (suc k))
union-next p home k =
    set_of-same max_clients _ _ (λ c l.
    rw (
      member-set_of max_clients (λ x. p x && ltb (home x) k) c l,
      member-set_of max_clients (λ x. p x && eqb (home x) k) c l,
    ) (go (p c) c))
  where
    go : (b : Bool) (c : ℕ) → (b && ltb (home c) k) || (b && eqb (home c) k) ≡ b && ltb (home c) (suc k)
    go true c = or_comm (ltb (home c) k) (eqb (home c) k) ∙ sym (below_next (home c) k)
    go false c = refl

pub union-none : (p : ℕ → Bool) (home : ℕ → ℕ) → 0 ≡ set_of max_clients (λ c. p c && ltb (home c) 0)
union-none p home =
    sym (set_of-none max_clients (λ c. p c && ltb (home c) 0)
    (λ c l. rw (le-ltb (home c) 0 (omega arith)) (and-false (p c))))

pub union-all : (p : ℕ → Bool) (home : ℕ → ℕ) (k : ℕ) → ((c : ℕ) → p c ≡ true → home c < k)
    → set_of max_clients (λ c. p c && ltb (home c) k) ≡ set_of max_clients p
union-all p home k h =
    set_of-same max_clients _ _ (λ c l. by-test (p c) (λ e. rw (e, lt-ltb (home c) k (h c e))) (λ e. rw e))
