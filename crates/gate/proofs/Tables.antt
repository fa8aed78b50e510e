-- Laws of a function written out as a list.
-- Assumes nothing.
use Prim.Native.Nat.{ℕ, zero, suc, ◌≤◌, ◌<◌}
use mathlib.Core.Path.{◌≡◌, refl, ap, ap₂, ◌∙◌}
use mathlib.Core.List.{List, [], ◌∷◌, ◌++◌}
use native.Mathlib.Omega.{arith}
use lib.Dec.{eqb-zero-suc, eqb-suc-zero, eqb-suc-suc}
use lib.ListN.{length, get_or, set, take}
use lib.Seq.{take-suc}
use Rattle.rules.specs.Lists.{upd}
use Rattle.rules.specs.Replay.{charges_below}
use Rattle.gate.specs.Shown.{table}

pub length-table : {A : Type 0} (n : ℕ) (f : ℕ → A) → length (table n f) ≡ n
unfolding table
length-table zero f = refl
length-table (suc n) f = ap suc (length-table n (λ i. f (suc i)))

-- what stands at a place, and past the end
pub table_at : {A : Type 0} (n : ℕ) (f : ℕ → A) (i : ℕ) (d : A) → i < n → get_or (table n f) i d ≡ f i
unfolding table
table_at zero f i d h = absurd (omega arith)
table_at (suc n) f zero d h = refl
table_at (suc n) f (suc i) d h = table_at n (λ j. f (suc j)) i d (omega arith)

pub table-past : {A : Type 0} (n : ℕ) (f : ℕ → A) (i : ℕ) (d : A) → n ≤ i → get_or (table n f) i d ≡ d
unfolding table
table-past zero f i d h = refl
table-past (suc n) f zero d h = absurd (omega arith)
table-past (suc n) f (suc i) d h = table-past n (λ j. f (suc j)) i d (omega arith)

-- functions that agree below n
pub table_same : {A : Type 0} (n : ℕ) (f g : ℕ → A) → ((i : ℕ) → i < n → f i ≡ g i) → table n f ≡ table n g
unfolding table
table_same zero f g h = refl
table_same (suc n) f g h =
    ap₂ (λ x l. x ∷ l) (h 0 (omega arith))
    (table_same n (λ i. f (suc i)) (λ i. g (suc i)) (λ i b. h (suc i) (omega arith)))

-- a store is the function changed at one number
pub set-table : {A : Type 0} (n : ℕ) (f : ℕ → A) (i : ℕ) (v : A) → set (table n f) i v ≡ table n (upd f i v)
unfolding table
set-table zero f i v = refl
set-table (suc n) f zero v =
    ap (λ l. v ∷ l) (table_same n (λ j. f (suc j)) (λ j. upd f 0 v (suc j)) (λ j b. rw (eqb-suc-zero j)))
set-table (suc n) f (suc i) v =
    ap₂ (λ x l. x ∷ l) (rw (eqb-zero-suc i))
    (set-table n (λ j. f (suc j)) i v
    ∙ table_same n (upd (λ j. f (suc j)) i v) (λ j. upd f (suc i) v (suc j)) (λ j b. rw (eqb-suc-suc j i)))

-- a list is the table of what it holds
pub list-table : {A : Type 0} (l : List A) (d : A) → l ≡ table (length l) (λ (i : ℕ). get_or l i d)
unfolding table
list-table [] d = refl
list-table (x ∷ l) d = ap (λ t. x ∷ t) (list-table l d)

-- one place more at the end
pub table-snoc : {A : Type 0} (n : ℕ) (f : ℕ → A) → table (suc n) f ≡ table n f ++ (f n ∷ [])
unfolding table
table-snoc zero f = refl
table-snoc (suc n) f = ap (λ l. f 0 ∷ l) (table-snoc n (λ i. f (suc i)))

-- the charges of the first n clients of w
pub charges-first : (f : ℕ → ℕ) (w n : ℕ) → n ≤ w → take n (table w f) ≡ charges_below f n
charges-first f w zero h = refl
charges-first f w (suc n) h =
    take-suc (table w f) n 0 (omega (arith, length-table w f))
    ∙ ap₂ (λ (x : List ℕ) (y : ℕ). x ++ (y ∷ [])) (charges-first f w n (omega arith)) (table_at w f n 0 (omega arith))
