-- The first bytes of a list, as many as there are.
-- Assumes nothing.
use Prim.Native.Nat.{ℕ, min}
use native.Mathlib.Omega.{arith}
use mathlib.Core.Path.{◌≡◌, sym, ap, ◌∙◌}
use mathlib.Core.List.{List, ◌++◌}
use lib.Dec.{ltb}
use lib.ListN.{length, take}
use lib.Seq.{take_all, take_at, take-append-le, length-take-le}
use borrow.Author.Tests.{ltb-true, ltb-false}
use Rattle.rules.proofs.Tests.{by-test}

pub take-least : (n : ℕ) (s : List ℕ) → take (min n (length s)) s ≡ take n s
take-least n s =
    by-test (ltb n (length s))
    (λ y. let m : min n (length s) ≡ n = omega (arith, ltb-true n (length s) y) in rw m)
    (λ f. let h = ltb-false n (length s) f in
    let m : min n (length s) ≡ length s = omega arith in
    rw (m, take_all n s h, take_all (length s) s (omega arith)))

-- the first bytes of what is held with more are the first bytes of all
pub held_on : (n : ℕ) (s t : List ℕ) → take n (take n s ++ t) ≡ take n (s ++ t)
held_on n s t =
    by-test (ltb n (length s))
    (λ y. let h = ltb-true n (length s) y in
    take_at (take n s) t n (length-take-le n s (omega arith)) ∙ sym (take-append-le n s t (omega arith)))
    (λ f. ap (λ (u : List ℕ). take n (u ++ t)) (take_all n s (ltb-false n (length s) f)))
