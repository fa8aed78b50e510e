-- A column of the server lines: every third field from one on.
-- Assumes nothing.
use Prim.Native.Nat.{ℕ, zero, suc, ◌+◌, ◌*◌, ◌/◌, ◌≤◌, ◌<◌}
use native.Mathlib.Omega.{arith}
use mathlib.Core.Path.{◌≡◌, refl, sym, ◌∙◌}
use mathlib.Core.List.{List, [], ◌∷◌}
use lib.IntN.{ℤ, pos}
use lib.Dec.{eqb}
use lib.ListN.{length, get_or, take, drop, set, length-drop}
use lib.Seq.{ext_get_or, get_or-take, get_or-drop, get_or-set_same, get_or-set_other, length-take-le}
use borrow.Author.Tests.{eqb-true, eqb-false}
use Rattle.rules.proofs.Tests.{by-test}
use Rattle.fields.proofs.Placed.{get_d_any}
use Rattle.numerals.specs.Numbers.{out_of_range}
use Rattle.order.specs.Orders.{every_third}
use Rattle.order.specs.Steps.{in_column}

length-every_third : (l : List ℤ) → length (every_third l) ≡ (length l + 2) / 3
length-every_third [] = refl
length-every_third (x ∷ []) = refl
length-every_third (x ∷ y ∷ []) = refl
length-every_third (x ∷ y ∷ z ∷ l) = omega (arith, length-every_third l)

three-on : (i : ℕ) → 3 * suc i ≡ suc (suc (suc (3 * i)))
three-on i = omega arith

get_d-every_third : (l : List ℤ) (i : ℕ) (d : ℤ) → get_or (every_third l) i d ≡ get_or l (3 * i) d
get_d-every_third [] i d = refl
get_d-every_third (x ∷ []) zero d = refl
get_d-every_third (x ∷ []) (suc i) d = rw (three-on i)
get_d-every_third (x ∷ y ∷ []) zero d = refl
get_d-every_third (x ∷ y ∷ []) (suc i) d = rw (three-on i)
get_d-every_third (x ∷ y ∷ z ∷ l) zero d = refl
get_d-every_third (x ∷ y ∷ z ∷ l) (suc i) d = rw (three-on i) (get_d-every_third l i d)

-- a list that holds f below i holds it below i + 1, once f i is stored there
pub stored : (f : ℕ → ℤ) (out : List ℤ) (i : ℕ) (v : ℤ) → i < length out → v ≡ f i
    → ((q : ℕ) → q < i → get_or out q (pos 0) ≡ f q) → (q : ℕ) → q < i + 1 → get_or (set out i v) q (pos 0) ≡ f q
stored f out i v there e each q h =
    by-test (eqb q i)
    (λ y. let k = eqb-true q i y in rw k (get_or-set_same out i v (pos 0) there ∙ e))
    (λ n. let k = eqb-false q i n in get_or-set_other out i q v (pos 0) k ∙ each q (omega arith))

module _ (vs : List ℤ) (from : ℕ) where
  pub length-column : length (every_third (drop from vs)) ≡ in_column (length vs) from
  length-column = length-every_third (drop from vs) ∙ rw length-drop

  -- the part of the sixteen that are there
  pub column-is : (out : List ℤ) → in_column (length vs) from ≤ length out
      → ((i : ℕ) → i < length out → get_or out i (pos 0) ≡ get_or vs (from + 3 * i) out_of_range)
      → take (in_column (length vs) from) out ≡ every_third (drop from vs)
  column-is out h each =
      let n = in_column (length vs) from in
      ext_get_or out_of_range (take n out) (every_third (drop from vs)) (length-take-le n out h ∙ sym length-column)
      (λ i under.
      let k : i < n = omega (arith, length-take-le n out h) in
      get_or-take n out i out_of_range k
      ∙ get_d_any out i out_of_range (pos 0) (omega arith)
      ∙ each i (omega arith)
      ∙ sym (get_d-every_third (drop from vs) i out_of_range ∙ get_or-drop from vs (3 * i) out_of_range))
