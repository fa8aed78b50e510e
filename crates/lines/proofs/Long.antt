-- A line that is too long: of it no more need be looked at than shows that it is.
-- Assumes nothing.
use Prim.Native.Nat.{ℕ, suc, ◌<◌}
use native.Mathlib.Omega.{arith}
use mathlib.Core.Path.{◌≡◌, refl, sym, ap, ◌∙◌}
use mathlib.Core.Bool.{Bool, true, false, ◌&&◌}
use mathlib.Core.List.{List, [], ◌∷◌}
use lib.Dec.{leb}
use lib.ListN.{length, take}
use lib.Seq.{take_all, length-take-le}
use borrow.Author.Tests.{leb-true, leb-false, lt-leb}
use Rattle.rules.proofs.Tests.{by-test}
use Rattle.numerals.specs.Plain.{no_plain}
use Rattle.lines.specs.Lines.{max_line, begins, values_of}
use Rattle.lines.proofs.Values.{begins-otherwise}

never : (b : Bool) → b && false ≡ false
never true = refl
never false = refl

pub too_long : (letter separator : ℕ) (s : List ℕ) → max_line < length s → values_of letter separator s ≡ no_plain ∷ []
too_long letter separator s h =
    let other : begins letter separator s ≡ false
    = rw (lt-leb (length s) max_line h, never (leb 1 (length s))) in
    begins-otherwise letter separator s other

pub first-enough : (letter separator : ℕ) (s : List ℕ)
    → values_of letter separator (take (suc max_line) s) ≡ values_of letter separator s
first-enough letter separator s =
    by-test (leb (length s) (suc max_line))
    (λ y. ap (values_of letter separator) (take_all (suc max_line) s (leb-true (length s) (suc max_line) y)))
    (λ n. let h = leb-false (length s) (suc max_line) n in
    too_long letter separator (take (suc max_line) s) (omega (arith, length-take-le (suc max_line) s (omega arith)))
    ∙ sym (too_long letter separator s (omega arith)))
