-- The digits of a number: those of its tenth and the last, and at most as many as hold it.
-- Assumes nothing.
use Prim.Native.Nat.{ℕ, zero, suc, ◌+◌, ◌*◌, ◌/◌, ◌%◌, ◌^◌, ◌≤◌, ◌<◌}
use native.Mathlib.Nat.{pow-suc}
use native.Mathlib.Omega.{arith}
use mathlib.Core.Path.{◌≡◌, sym, ap, ◌∙◌}
use mathlib.Core.List.{[], ◌∷◌, ◌++◌}
use lib.Dec.{ltb}
use lib.ListN.{length, length-append}
use borrow.Author.Tests.{lt-ltb, le-ltb, ltb-true, ltb-false}
use Rattle.rules.proofs.Tests.{by-test}
use Rattle.text.specs.Text.{first_digit, decimal_in, decimal}

-- one digit less holds a tenth
tenth : (k n : ℕ) → n < 10 ^ suc k → n / 10 < 10 ^ k
tenth k n h = let most : n < 10 ^ k * 10 = rw (pow-suc 10 k) at h in omega arith

-- a number below 10^k has at most k digits, and more room changes none
short-in : (f k n : ℕ) → n < 10 ^ suc k → length (decimal_in f n) ≤ suc k
short-in zero k n h = omega arith
short-in (suc f) zero n h = rw (lt-ltb n 10 (omega arith)) (omega arith)
short-in (suc f) (suc k) n h =
    by-test (ltb n 10)
    (λ y. rw y (omega arith))
    (λ y. rw y (omega (
      arith,
      short-in f k (n / 10) (tenth (suc k) n h),
      length-append (decimal_in f (n / 10)) ((first_digit + n % 10) ∷ []),
    )))

room_in : (f n : ℕ) → n < 10 ^ suc f → decimal_in (suc f) n ≡ decimal_in (suc (suc f)) n
room_in zero n h = rw (lt-ltb n 10 (omega arith))
room_in (suc f) n h = rw (room_in f (n / 10) (tenth (suc f) n h))

pub decimal-short : (k n : ℕ) → n < 10 ^ suc k → length (decimal n) ≤ suc k
unfolding decimal
decimal-short k n h = short-in 20 k n h

pub decimal_digit : (n : ℕ) → n < 10 → (first_digit + n) ∷ [] ≡ decimal n
unfolding decimal
decimal_digit n h = rw (lt-ltb n 10 h)

pub decimal-more : (n : ℕ) → n < 2 ^ 64 → 10 ≤ n → decimal (n / 10) ++ ((first_digit + n % 10) ∷ []) ≡ decimal n
unfolding decimal
decimal-more n h big = rw (le-ltb n 10 big, room_in 18 (n / 10) (omega arith))

-- how many there are: one, or one more than its tenth has
pub length-digit : (n : ℕ) → n < 10 → length (decimal n) ≡ 1
length-digit n h = ap length (sym (decimal_digit n h))

pub length_more : (n : ℕ) → n < 2 ^ 64 → 10 ≤ n → length (decimal n) ≡ length (decimal (n / 10)) + 1
length_more n h big =
    ap length (sym (decimal-more n h big)) ∙ length-append (decimal (n / 10)) ((first_digit + n % 10) ∷ [])

pow-above : (k : ℕ) → 1 ≤ 10 ^ k
pow-above zero = omega arith
pow-above (suc k) = rw (pow-suc 10 k) (omega (arith, pow-above k))

-- a number from 10^k on has k + 1 digits at least, and so those many where it is below 10^(k + 1)
long : (k n : ℕ) → n < 2 ^ 64 → 10 ^ k ≤ n → suc k ≤ length (decimal n)
long zero n h least =
    by-test (ltb n 10) (λ y. omega (arith, length-digit n (ltb-true n 10 y)))
    (λ y. omega (arith, length_more n h (ltb-false n 10 y)))
long (suc k) n h least =
    let more : 10 ^ k * 10 ≤ n = rw (pow-suc 10 k) at least in
    let some : 1 ≤ 10 ^ k = pow-above k in
    omega (arith, length_more n h (omega arith), long k (n / 10) (omega arith) (omega arith))

pub length_between : (k n : ℕ) → n < 2 ^ 64 → 10 ^ k ≤ n → n < 10 * 10 ^ k → suc k ≡ length (decimal n)
length_between k n h least most =
    omega (arith, long k n h least, decimal-short k n (rw (pow-suc 10 k) (omega arith)))
