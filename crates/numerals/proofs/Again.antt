-- Writing undoes reading: a plain number that was read is written by the very same digits.
-- Assumes nothing.
use Prim.Native.Nat.{ℕ, ◌+◌, ◌-◌, ◌*◌, ◌/◌, ◌%◌, ◌^◌, ◌≤◌, ◌<◌}
use native.Mathlib.Omega.{arith}
use mathlib.Core.Path.{◌≡◌, sym, ap, ◌∙◌}
use mathlib.Core.Bool.{true, false}
use mathlib.Core.List.{List, [], ◌∷◌, ◌++◌, append_assoc, append-nil}
use mathlib.Core.Option.{Option, some, none}
use lib.Dec.{leb}
use borrow.Author.Tests.{leb-true, eqb-false}
use Rattle.rules.proofs.Tests.{by-test, both_true}
use Rattle.text.specs.Text.{first_digit, decimal}
use Rattle.text.proofs.Decimal.{decimal_digit, decimal-more}
use Rattle.numerals.specs.Numbers.{is_digit, spelt, digits}
use Rattle.numerals.specs.Plain.{zero_first, no_plain, narrowed, plain, plain_of}

-- no number is some number
none-some : {X : Type 0} (n : ℕ) → ◌≡◌ {A = Option ℕ} none (some n) → X
none-some n e = let w : ◌≡◌ {A = ℕ} 0 1 = cc in absurd (omega arith)

same_some : (m n : ℕ) → ◌≡◌ {A = Option ℕ} (some m) (some n) → m ≡ n
same_some m n e = cc

-- a digit is one of ten
pub digit-in : (b : ℕ) → is_digit b ≡ true → (first_digit ≤ b) × (b ≤ first_digit + 9)
digit-in b y =
    let h = both_true (leb first_digit b) (leb b (first_digit + 9)) y in
    (leb-true first_digit b h.0, leb-true b (first_digit + 9) h.1)

-- one more byte of a text that spells a number
pub spelt-next : (m b : ℕ) (s : List ℕ) (n : ℕ) → spelt m (b ∷ s) ≡ some n
    → (is_digit b ≡ true) × (spelt (m * 10 + (b - first_digit)) s ≡ some n)
spelt-next m b s n e =
    by-test (is_digit b) (λ y. (y, rw y at e)) (λ y. none-some n (rw y at e))

-- digits only make a number larger
spelt-least : (m : ℕ) (s : List ℕ) (n : ℕ) → spelt m s ≡ some n → m ≤ n
spelt-least m [] n e = let k : m ≡ n = same_some m n e in omega arith
spelt-least m (b ∷ s) n e =
    let h = spelt-least (m * 10 + (b - first_digit)) s n (spelt-next m b s n e).1 in omega arith

-- the digits behind those of a number that is not 0
decimal-on : (m : ℕ) (s : List ℕ) (n : ℕ) → 0 < m → n < 2 ^ 64 → spelt m s ≡ some n → decimal m ++ s ≡ decimal n
decimal-on m [] n above h e = append-nil (decimal m) ∙ ap decimal (same_some m n e)
decimal-on m (b ∷ s) n above h e =
    let x = spelt-next m b s n e in
    let d = digit-in b x.0 in
    let k = m * 10 + (b - first_digit) in
    let most = spelt-least k s n x.1 in
    let tenth : k / 10 ≡ m = omega (arith, d.0, d.1) in
    let last : first_digit + k % 10 ≡ b = omega (arith, d.0, d.1) in
    let more : decimal k ≡ decimal m ++ (b ∷ [])
    = sym (decimal-more k (omega arith) (omega arith))
    ∙ ap (λ (t : ℕ). decimal t ++ ((first_digit + k % 10) ∷ [])) tenth
    ∙ ap (λ (t : ℕ). decimal m ++ (t ∷ [])) last in
    sym (append_assoc (decimal m) (b ∷ []) s)
    ∙ ap (λ (t : List ℕ). t ++ s) (sym more)
    ∙ decimal-on k s n (omega arith) h x.1

-- one digit or more, of which the first is not '0' unless it is the only one
from_first : (b : ℕ) (s : List ℕ) (n : ℕ) → n < 2 ^ 64 → zero_first (b ∷ s) ≡ false → spelt 0 (b ∷ s) ≡ some n
    → b ∷ s ≡ decimal n
from_first b [] n h z e =
    let x = spelt-next 0 b [] n e in
    let d = digit-in b x.0 in
    let is = same_some (0 * 10 + (b - first_digit)) n x.1 in
    let last : b ≡ first_digit + n = omega (arith, d.0, is) in
    ap (λ (t : ℕ). t ∷ []) last ∙ decimal_digit n (omega (arith, d.1, is))
from_first b (c ∷ s) n h z e =
    let x = spelt-next 0 b (c ∷ s) n e in
    let d = digit-in b x.0 in
    let k = 0 * 10 + (b - first_digit) in
    let other = eqb-false b first_digit z in
    let above : 0 < k = omega (arith, d.0, other) in
    let first : b ≡ first_digit + k = omega (arith, d.0) in
    ap (λ (t : ℕ). t ∷ c ∷ s) first
    ∙ ap (λ (t : List ℕ). t ++ (c ∷ s)) (decimal_digit k (omega (arith, d.1)))
    ∙ decimal-on k (c ∷ s) n above h x.1

-- what is read as some number
from-digits : (f : List ℕ) (n : ℕ) → n < 2 ^ 64 → zero_first f ≡ false → digits f ≡ some n → f ≡ decimal n
from-digits [] n h z e = none-some n e
from-digits (b ∷ s) n h z e = from_first b s n h z e

from-plain : (f : List ℕ) (n : ℕ) → n < 2 ^ 64 → plain f ≡ some n → f ≡ decimal n
from-plain f n h e =
    by-test (zero_first f) (λ y. none-some n (rw y at e)) (λ y. from-digits f n h y (rw y at e))

-- a number of 32 bits that is read
from-narrowed : (o : Option ℕ) → narrowed o < no_plain → o ≡ some (narrowed o)
from-narrowed none h = absurd (omega arith)
from-narrowed (some n) h = ap some (omega arith)

-- a number that is read and written is the same text
pub decimal-plain : (f : List ℕ) → plain_of f < no_plain → decimal (plain_of f) ≡ f
unfolding plain_of
decimal-plain f h = sym (from-plain f (narrowed (plain f)) (omega arith) (from-narrowed (plain f) h))
