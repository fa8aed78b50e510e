-- The number of a field from its size, without a sign and with one.
-- Assumes nothing.
use Rattle.std.specs.Prelude as code
use Rattle.std.specs.Prelude.{unwrap_or, SomeIff, FitsSigned}
use Prim.Native.Nat.{ℕ, zero, suc, ◌^◌}
use native.Mathlib.Omega.{arith}
use mathlib.Core.Path.{◌≡◌, refl, sym, ap, ◌∙◌, subst}
use mathlib.Core.Option.{Option, some, none}
use lib.Dec.{ltb, leb}
use lib.IntN.{ℤ, pos, negsuc, ◌+ℤ◌, ◌-ℤ◌, +ℤ_idl}
use lib.Signed.{mag}
use mir.Syntax.{w64}
use borrow.Author.Tests.{lt-ltb, le-ltb, ltb-true, leb-false}
use Rattle.rules.proofs.Tests.{by-test}
use Rattle.text.specs.Text.{max_count}
use Rattle.numerals.specs.Numbers.{signed, negated, out_of_range, fitting}
use Rattle.numerals.specs.Plain.{up_to}

-- a number that is kept where it fits
kept : (z y : ℤ) (r : code.Option ℤ) → y ≡ z → SomeIff r (FitsSigned w64 y) y
    → unwrap_or r out_of_range ≡ fitting (some z)
kept z y code.None e out =
    by-test (ltb (mag z) (2 ^ 63))
    (λ t. absurd (out (subst (FitsSigned w64) (sym e) (record { sfits = ltb-true (mag z) (2 ^ 63) t }))))
    (λ t. rw t refl)
kept z y (code.Some x) e h =
    let fits = subst (FitsSigned w64) e h.0 in rw (lt-ltb (mag z) (2 ^ 63) fits.sfits) (h.1 ∙ e)

zero-less : (n : ℕ) → pos 0 -ℤ pos n ≡ negated n
zero-less zero = refl
zero-less (suc k) = +ℤ_idl (negsuc k)

zero-more : (n : ℕ) → pos 0 +ℤ pos n ≡ pos n
zero-more n = ap pos (omega arith)

-- what was read of the digits is what they spell
read : (o : Option ℕ) (n : ℕ) → some n ≡ up_to max_count o → o ≡ some n
read none n e = let z : ◌≡◌ {A = ℕ} 0 1 = cc in absurd (omega arith)
read (some m) n e =
    by-test (leb m max_count)
    (λ y. let q : ◌≡◌ {A = Option ℕ} (some n) (some m) = rw y at e in sym q)
    (λ y. let q : ◌≡◌ {A = Option ℕ} (some n) none = rw y at e in
    let z : ◌≡◌ {A = ℕ} 0 1 = cc in absurd (omega arith))

pub plain-field : (o : Option ℕ) (n : ℕ) (r : code.Option ℤ) → some n ≡ up_to max_count o
    → SomeIff r (FitsSigned w64 (pos 0 +ℤ pos n)) (pos 0 +ℤ pos n)
    → unwrap_or r out_of_range ≡ fitting (signed pos o)
plain-field o n r e h = rw (read o n e) (kept (pos n) (pos 0 +ℤ pos n) r (zero-more n) h)

pub minus-field : (o : Option ℕ) (n : ℕ) (r : code.Option ℤ) → some n ≡ up_to max_count o
    → SomeIff r (FitsSigned w64 (pos 0 -ℤ pos n)) (pos 0 -ℤ pos n)
    → unwrap_or r out_of_range ≡ fitting (signed negated o)
minus-field o n r e h = rw (read o n e) (kept (negated n) (pos 0 -ℤ pos n) r (zero-less n) h)

-- digits that spell no number, or one that is too large, are out of range with either sign
pub no_plain-field : (o : Option ℕ) → none ≡ up_to max_count o → out_of_range ≡ fitting (signed pos o)
no_plain-field none e = refl
no_plain-field (some n) e =
    by-test (leb n max_count)
    (λ y. let q : ◌≡◌ {A = Option ℕ} none (some n) = rw y at e in
    let z : ◌≡◌ {A = ℕ} 0 1 = cc in absurd (omega arith))
    (λ y. rw (le-ltb n (2 ^ 63) (omega (arith, leb-false n max_count y))) refl)

pub no_minus-field : (o : Option ℕ) → none ≡ up_to max_count o → out_of_range ≡ fitting (signed negated o)
no_minus-field none e = refl
no_minus-field (some zero) e = let z : ◌≡◌ {A = ℕ} 0 1 = cc in absurd (omega arith)
no_minus-field (some (suc k)) e =
    by-test (leb (suc k) max_count)
    (λ y. let q : ◌≡◌ {A = Option ℕ} none (some (suc k)) = rw y at e in
    let z : ◌≡◌ {A = ℕ} 0 1 = cc in absurd (omega arith))
    (λ y. rw (le-ltb k (2 ^ 63) (omega (arith, leb-false (suc k) max_count y))) refl)
