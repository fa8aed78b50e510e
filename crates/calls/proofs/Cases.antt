-- What becomes of the keys, tried on columns that are written out: each case computes.
-- Assumes nothing.
use Prim.Native.Nat.{ℕ}
use mathlib.Core.Path.{◌≡◌, refl}
use mathlib.Core.Bool.{true, false}
use mathlib.Core.List.{List, [], ◌∷◌}
use mathlib.Core.Option.{some, none}
use Rattle.std.specs.Prelude.{Some, None}
use Rattle.rules.specs.State.{idle, front, best, spent, tidying}
use Rattle.calls.specs.Due.{form_in, due_in, replied_in}

abbrev ks : List ℕ
ks = 5 ∷ 9 ∷ 2 ∷ []

-- 0 is a deadline too
form-cases : (form_in (Some 7) ≡ some 7) × (form_in (Some 0) ≡ some 0) × (form_in None ≡ none)
form-cases = (refl, refl, refl)

-- under deadlines one client's key, and no other; under priorities none
due-cases : (due_in true 1 7 ks ≡ 5 ∷ 7 ∷ 2 ∷ []) × (due_in true 0 0 ks ≡ 0 ∷ 9 ∷ 2 ∷ []) × (due_in false 1 7 ks ≡ ks)
due-cases = (refl, refl, refl)

-- a reply of a front ends its wait; a best-effort and a spent client have no deadline
replied-cases :
    (replied_in true (front 1) ks ≡ 5 ∷ 0 ∷ 2 ∷ []) × (replied_in false (front 1) ks ≡ ks)
    × (replied_in true (best 1) ks ≡ ks) × (replied_in true (spent 1) ks ≡ ks) × (replied_in true idle ks ≡ ks)
    × (replied_in true tidying ks ≡ ks)
replied-cases = (refl, refl, refl, refl, refl, refl)
