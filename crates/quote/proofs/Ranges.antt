-- What the range of a field says of a signed number.
-- Assumes nothing.
use Prim.Native.Nat.{ℕ, ◌^◌, ◌<◌, ◌≤◌}
use native.Mathlib.Omega.{arith}
use mathlib.Core.Path.{◌≡◌, refl, sym, ap, ◌∙◌, subst}
use mathlib.Core.Bool.{Bool, true, false, not}
use lib.Dec.{T, leb}
use lib.IntN.{ℤ, pos, negsuc, nat_abs}
use lib.Signed.{lt_z, non_neg, mag}
use mir.Syntax.{w64}
use mir.Val.{to_z, of_z}
use mir.Facts.{to_z-of_z}
use borrow.Author.Tests.{ltb-true, le-leb, lt-leb, leb-true, not-true, not-false}
use Rattle.rules.specs.Quote.{in_range}
use Rattle.rules.proofs.Tests.{both_true}

pub not_negative : (z : ℤ) → lt_z z (pos 0) ≡ false → T (non_neg z)
not_negative (pos n) e = tt
not_negative (negsuc n) e = subst T e tt

pub negative-out : (low high : ℕ) (z : ℤ) → lt_z z (pos 0) ≡ true → false ≡ in_range low high z
negative-out low high (pos n) e = absurd (omega (arith, ltb-true n 0 e))
negative-out low high (negsuc n) e = refl

module _ (low high : ℕ) where
  pub low-out : (z : ℤ) → T (non_neg z) → nat_abs z < low → false ≡ in_range low high z
  low-out (pos n) t h = rw (lt-leb low n h)
  low-out (negsuc n) t h = absurd t

  pub high-test : (z : ℤ) → T (non_neg z) → low ≤ nat_abs z → leb (nat_abs z) high ≡ in_range low high z
  high-test (pos n) t h = rw (le-leb low n h)
  high-test (negsuc n) t h = absurd t

-- what a field's range tells of a field that is in it
pub record Within (low high : ℕ) (z : ℤ) : Type 0 where
  pub sign : T (non_neg z)
  pub least : low ≤ nat_abs z
  pub most : nat_abs z ≤ high

pub within : (low high : ℕ) (z : ℤ) → in_range low high z ≡ true → Within low high z
within low high (pos n) e =
    let h = both_true (leb low n) (leb n high) e in
    record { sign = tt; least = leb-true low n h.0; most = leb-true n high h.1 }
within low high (negsuc n) e = absurd (subst T (sym e) tt)

-- A NUMBER THAT WAS PASSED ON

-- the number that the machine reads back from x's bits
abbrev pub read : ℤ → ℤ
read x = to_z w64 (of_z w64 x)

pub read_back : (x : ℤ) → mag x < 2 ^ 63 → read x ≡ x
read_back x fits = to_z-of_z {w = w64} {z = x} (record { sfits = fits })

module _ (low high : ℕ) (x : ℤ) (fits : mag x < 2 ^ 63) where
  pub same-range : in_range low high (read x) ≡ in_range low high x
  same-range = ap (in_range low high) (read_back x fits)

  -- what a test `!in_range(x, low, high)` tells where it holds, and where it doesn't
  pub told-out : (r : Bool) → r ≡ in_range low high (read x) → not r ≡ true → in_range low high x ≡ false
  told-out r e t = sym same-range ∙ sym e ∙ not-true r t

  pub told-in : (r : Bool) → r ≡ in_range low high (read x) → not r ≡ false → in_range low high x ≡ true
  told-in r e t = sym same-range ∙ sym e ∙ not-false r t
