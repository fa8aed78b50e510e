-- Two texts, as the library compares them.
-- Assumes nothing.
use Prim.Native.Nat.{ℕ}
use mathlib.Core.Path.{◌≡◌, refl, ap}
use mathlib.Core.Bool.{Bool, ◌&&◌}
use mathlib.Core.List.{List, [], ◌∷◌}
use lib.Dec.{eqb}
use lib.Pointwise.{pointwise}
use Rattle.group_says.specs.Says.{same}

pub same-is : (s t : List ℕ) → pointwise eqb s t ≡ same s t
unfolding same
same-is [] [] = refl
same-is [] (y ∷ t) = refl
same-is (x ∷ s) [] = refl
same-is (x ∷ s) (y ∷ t) = ap (λ (b : Bool). eqb x y && b) (same-is s t)
