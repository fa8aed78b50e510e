-- The server lines one by one: which of their fields is out of range, and what they burn.
-- Assumes nothing.
use Prim.Native.Nat.{ℕ, zero, suc, ◌+◌, ◌*◌, ◌≤◌, ◌<◌}
use native.Mathlib.Numerals.{add-one}
use native.Mathlib.Omega.{arith}
use mathlib.Core.Path.{◌≡◌, refl}
use mathlib.Core.Bool.{Bool, true, false}
use mathlib.Core.List.{List, [], ◌∷◌}
use lib.IntN.{ℤ, pos, nat_abs}
use lib.ListN.{length, get_or, drop, drop_of_length-le}
use lib.Seq.{drop-cons}
use Rattle.rules.specs.Demands.{worst}
use Rattle.rules.specs.Limits.{max_calls, max_cap, max_tidy}
use Rattle.rules.specs.Quote.{in_range, lines_fit, first_false, burnt, Even}
use Rattle.quote.specs.Steps.{LineIn, AllFit}

-- N of line i, L or W
abbrev pub at : List ℤ → ℕ → ℤ
at column i = get_or column i (pos 0)

-- THE LINES FROM LINE i ON

abbrev fits_from : List ℤ → List ℤ → List ℤ → ℕ → List Bool
fits_from calls caps tidies i = lines_fit (drop i calls) (drop i caps) (drop i tidies)

module _ (calls caps tidies : List ℤ) (i : ℕ) (there : i < length calls) (even : Even calls caps tidies) where
  l-there : i < length caps
  l-there = omega (arith, even.0)

  w-there : i < length tidies
  w-there = omega (arith, even.1)

  line-fits : fits_from calls caps tidies i
      ≡ in_range 0 max_calls (at calls i) ∷ in_range 1 max_cap (at caps i) ∷ in_range 0 max_tidy (at tidies i)
      ∷ fits_from calls caps tidies (i + 1)
  line-fits = rw (
    add-one,
    drop-cons calls i (pos 0) there,
    drop-cons caps i (pos 0) l-there,
    drop-cons tidies i (pos 0) w-there,
  )

  pub calls-out : in_range 0 max_calls (at calls i) ≡ false → first_false (fits_from calls caps tidies i) ≡ 0
  calls-out n = rw (line-fits, n)

  pub cap-out : in_range 0 max_calls (at calls i) ≡ true → in_range 1 max_cap (at caps i) ≡ false
      → first_false (fits_from calls caps tidies i) ≡ 1
  cap-out n l = rw (line-fits, n, l)

  pub tidy-out : in_range 0 max_calls (at calls i) ≡ true → in_range 1 max_cap (at caps i) ≡ true
      → in_range 0 max_tidy (at tidies i) ≡ false → first_false (fits_from calls caps tidies i) ≡ 2
  tidy-out n l w = rw (line-fits, n, l, w)

  pub all-three-in : LineIn (at calls i) (at caps i) (at tidies i)
      → first_false (fits_from calls caps tidies i) ≡ 3 + first_false (fits_from calls caps tidies (i + 1))
  all-three-in f = rw (line-fits, f.calls, f.cap, f.tidy) (omega arith)

  pub line-burnt : (m K : ℕ) → burnt m K (drop i calls) (drop i caps) (drop i tidies)
      ≡ nat_abs (at calls i) * worst m K (nat_abs (at caps i) + nat_abs (at tidies i))
      + burnt m K (drop (i + 1) calls) (drop (i + 1) caps) (drop (i + 1) tidies)
  line-burnt m K = rw (
    add-one,
    drop-cons calls i (pos 0) there,
    drop-cons caps i (pos 0) l-there,
    drop-cons tidies i (pos 0) w-there,
  )

-- past the last line there is nothing
module _ (calls caps tidies : List ℤ) (i : ℕ) (past : length calls ≤ i) where
  pub none_out : first_false (fits_from calls caps tidies i) ≡ 0
  none_out = rw (drop_of_length-le calls past)

  pub none-burnt : (m K : ℕ) → burnt m K (drop i calls) (drop i caps) (drop i tidies) ≡ 0
  none-burnt m K = rw (drop_of_length-le calls past)

-- ALL IN RANGE

-- one field in front of others, all of them in range
pub first-true : (a : Bool) (l : List Bool) {n : ℕ} → suc n ≤ first_false (a ∷ l) → (a ≡ true) × (n ≤ first_false l)
first-true true l h = (refl, omega arith)
first-true false l h = absurd (omega arith)

pub length-lines_fit : (calls caps tidies : List ℤ) → Even calls caps tidies
    → length (lines_fit calls caps tidies) ≡ 3 * length calls
length-lines_fit [] caps tidies e = refl
length-lines_fit (n ∷ calls) [] tidies e = absurd (omega (arith, e.0))
length-lines_fit (n ∷ calls) (l ∷ caps) [] e = absurd (omega (arith, e.1))
length-lines_fit (n ∷ calls) (l ∷ caps) (w ∷ tidies) e =
    omega (arith, length-lines_fit calls caps tidies (omega (arith, e.0), omega (arith, e.1)))

first-in : (n l w : ℤ) (calls caps tidies : List ℤ) → AllFit (n ∷ calls) (l ∷ caps) (w ∷ tidies)
    → LineIn n l w × AllFit calls caps tidies
first-in n l w calls caps tidies f =
    let rest = lines_fit calls caps tidies in
    let k = 3 * length calls in
    let cap = in_range 1 max_cap l in
    let tidy = in_range 0 max_tidy w in
    let a = first-true (in_range 0 max_calls n) (cap ∷ tidy ∷ rest) {n = 2 + k} (omega (arith, f.fit)) in
    let b = first-true cap (tidy ∷ rest) {n = 1 + k} (omega (arith, a.1)) in
    let d = first-true tidy rest {n = k} (omega (arith, b.1)) in (
      record { calls = a.0; cap = b.0; tidy = d.0 },
      record { even = (omega (arith, f.even.0), omega (arith, f.even.1)); fit = d.1 },
    )

pub line-in : (calls caps tidies : List ℤ) (i : ℕ) → i < length calls → AllFit calls caps tidies
    → LineIn (at calls i) (at caps i) (at tidies i)
line-in [] caps tidies i h f = absurd (omega arith)
line-in (n ∷ calls) [] tidies i h f = absurd (omega (arith, f.even.0))
line-in (n ∷ calls) (l ∷ caps) [] i h f = absurd (omega (arith, f.even.1))
line-in (n ∷ calls) (l ∷ caps) (w ∷ tidies) zero h f = (first-in n l w calls caps tidies f).0
line-in (n ∷ calls) (l ∷ caps) (w ∷ tidies) (suc i) h f =
    line-in calls caps tidies i (omega arith) (first-in n l w calls caps tidies f).1
