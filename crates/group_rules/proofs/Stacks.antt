-- Stacks with a call more or less, and tickets filled in or used up.
-- Assumes nothing.
use Prim.Native.Nat.{ℕ, zero, suc, ◌-◌, ◌≤◌, ◌<◌}
use mathlib.Core.Path.{◌≡◌, refl, sym, ap, ◌∙◌}
use mathlib.Core.Bool.{true, false}
use mathlib.Core.List.{List, [], ◌∷◌, ◌++◌}
use native.Mathlib.Nat.{le_of_suc-le-suc}
use native.Mathlib.Omega.{arith}
use lib.Dec.{eqb, ltb, leb}
use lib.ListN.{length, get_or, set, take}
use lib.Seq.{take_all, take-suc}
use borrow.Author.Tests.{eqb-true, ltb-true, leb-true, le-leb}
use Rattle.rules.specs.Limits.{unused_place}
use Rattle.rules.specs.Lists.{has, Distinct}
use Rattle.rules.proofs.Tests.{by-test, clash, both_true, both_false}
use Rattle.rules.proofs.Lists.{has-append, snoc-has}
use Rattle.places.specs.Places.{pad}
use Rattle.places.specs.Tests.{every}
use Rattle.places.proofs.Tests.{and_both}
use Rattle.group_rules.specs.Limits.{max_tickets}
use Rattle.group_rules.specs.Blocking.{last_of}
use Rattle.group_rules.specs.Sound.{few_tickets}
use Rattle.group_rules.specs.Events.{filled}

-- THE LAST CALL

-- a list that isn't empty is what stands before its last, and its last
pub before_last : (l : List ℕ) → 0 < length l → take (length l - 1) l ++ (last_of l ∷ []) ≡ l
before_last l h =
    sym (take-suc l (length l - 1) 0 (omega arith)) ∙ take_all (suc (length l - 1)) l (omega arith)

pub last_has : (l : List ℕ) → ltb 0 (length l) ≡ true → has (last_of l) l ≡ true
last_has l q =
    ap (has (last_of l)) (sym (before_last l (ltb-true 0 (length l) q)))
    ∙ snoc-has (last_of l) (take (length l - 1) l)

pub distinct-left : (s t : List ℕ) → Distinct (s ++ t) → Distinct s
distinct-left [] t h = tt
distinct-left (x ∷ s) t h =
    ((both_false (has x s) (has x t) (sym (has-append x s t) ∙ h.0)).0, distinct-left s t h.1)

-- the last is new
pub last-new : (s : List ℕ) (x : ℕ) → Distinct (s ++ (x ∷ [])) → has x s ≡ false
last-new [] x h = refl
last-new (y ∷ s) x h =
    by-test (eqb y x)
    (λ e. clash (ap (λ (z : ℕ). has z (s ++ (x ∷ []))) (eqb-true y x e) ∙ snoc-has x s) h.0)
    (λ e. rw e (last-new s x h.1))

-- its place unused again
pub pop-pad : (n : ℕ) (l : List ℕ) (x : ℕ) → set (pad n (l ++ (x ∷ []))) (length l) unused_place ≡ pad n l
unfolding pad
pop-pad zero [] x = refl
pop-pad zero (y ∷ l) x = refl
pop-pad (suc n) [] x = refl
pop-pad (suc n) (y ∷ l) x = ap (λ (q : List ℕ). y ∷ q) (pop-pad n l x)

-- TICKETS

pub length-filled : (n : ℕ) (l : List ℕ) → length (filled n l) ≡ n
unfolding filled
length-filled zero l = refl
length-filled (suc n) [] = ap suc (length-filled n [])
length-filled (suc n) (x ∷ l) = ap suc (length-filled n l)

pub filled_at : (n : ℕ) (l : List ℕ) (s : ℕ) → s < n → get_or (filled n l) s 0 ≡ get_or l s 0
unfolding filled
filled_at zero l s h = absurd (omega arith)
filled_at (suc n) [] zero h = refl
filled_at (suc n) [] (suc s) h = filled_at n [] s (le_of_suc-le-suc h)
filled_at (suc n) (x ∷ l) zero h = refl
filled_at (suc n) (x ∷ l) (suc s) h = filled_at n l s (le_of_suc-le-suc h)

-- a list of that length as it is
pub filled-all : (l : List ℕ) → filled (length l) l ≡ l
unfolding filled
filled-all [] = refl
filled-all (x ∷ l) = ap (λ (q : List ℕ). x ∷ q) (filled-all l)

pub filled-few : (n : ℕ) (l : List ℕ) → few_tickets l ≡ true → few_tickets (filled n l) ≡ true
unfolding filled few_tickets every
filled-few zero l e = refl
filled-few (suc n) [] e = filled-few n [] e
filled-few (suc n) (x ∷ l) e =
    let w = both_true (leb x max_tickets) (few_tickets l) e in
    and_both (leb x max_tickets) (few_tickets (filled n l)) w.0 (filled-few n l w.1)

-- no more than before at one place
pub few-set : (l : List ℕ) (s n : ℕ) → n ≤ get_or l s 0 → few_tickets l ≡ true → few_tickets (set l s n) ≡ true
unfolding few_tickets every
few-set [] s n h e = refl
few-set (x ∷ l) zero n h e =
    let w = both_true (leb x max_tickets) (few_tickets l) e in
    and_both (leb n max_tickets) (few_tickets l)
    (le-leb n max_tickets (omega (arith, leb-true x max_tickets w.0))) w.1
few-set (x ∷ l) (suc s) n h e =
    let w = both_true (leb x max_tickets) (few_tickets l) e in
    and_both (leb x max_tickets) (few_tickets (set l s n)) w.0 (few-set l s n h w.1)
