-- The laws of sets: their members, when two are the same, one member more or less, none or some, those of two sets.
-- For any width n.
-- Assumes nothing.
use Prim.Native.Nat.{ℕ, zero, suc, ◌+◌, ◌*◌, ◌/◌, ◌%◌, ◌^◌, ◌≤◌, ◌<◌}
use mathlib.Core.Path.{◌≡◌, refl, sym, ap, ap₂, ◌∙◌}
use mathlib.Core.Bool.{Bool, true, false, not, ◌&&◌, cond}
use mathlib.Core.Logic.{◌⊎◌, inl, inr, ⊎_elim, by_cases}
use native.Mathlib.Nat.{div-add-mod', eq-or-lt_of_le, le_of_suc-le-suc, lt_of_lt_of_le, not-suc-le-zero}
use native.Mathlib.Nat.{pow-suc, zero-add, zero-lt-suc}
use native.Mathlib.Decide.{dec_lt}
use native.Mathlib.Numerals.{add-one}
use native.Mathlib.Omega.{arith}
use borrow.Author.Tests.{eq-eqb, eqb-true, eqb-false, ne_eqb}
use lib.Dec.{eqb}
use lib.Pow.{pow_mono, pow_pos}
use Rattle.rules.specs.Limits.{max_clients}
use Rattle.rules.specs.Lists.{upd, some_below}
use Rattle.rules.proofs.Counts.{none_below, some-not}
use Rattle.rules.proofs.Tests.{by-test, clash}
use Rattle.sets.specs.Sets.{member, set_of, with_of, common_of}
use Rattle.sets.proofs.Bits.{bit, half-word, member_below, member-low, member-none, member-past, member-suc}
use Rattle.sets.proofs.Bits.{member-top}

-- MEMBERS

-- the set of the numbers below n is a word of n bits
pub set_of-below : (n : ℕ) (p : ℕ → Bool) → set_of n p < 2 ^ n
unfolding set_of
set_of-below zero p = zero-lt-suc zero
set_of-below (suc n) p = go (p n) (set_of-below n p)
  where
    go : (b : Bool) → set_of n p < 2 ^ n → cond b (2 ^ n) 0 + set_of n p < 2 ^ suc n
    go true h = omega (arith, pow-suc 2 n)
    go false h = omega (arith, pow-suc 2 n)

-- below n, its members are those that pass the test
pub member-set_of : (n : ℕ) (p : ℕ → Bool) (j : ℕ) → j < n → member (set_of n p) j ≡ p j
unfolding set_of
member-set_of zero p j h = absurd (not-suc-le-zero h)
member-set_of (suc n) p j h =
    ⊎_elim
    (λ e. rw e (member-top (p n) n (set_of n p) (set_of-below n p)))
    (λ l. member_below (p n) n (set_of n p) j l ∙ member-set_of n p j l)
    (eq-or-lt_of_le (le_of_suc-le-suc h))

-- from n on, it has none
pub member-set_of-past : (n : ℕ) (p : ℕ → Bool) (j : ℕ) → n ≤ j → member (set_of n p) j ≡ false
member-set_of-past n p j h = member-past n (set_of n p) j (set_of-below n p) h

-- SAMENESS

-- two words of n bits with the same members are the same
pub same_set : (n s t : ℕ) → s < 2 ^ n → t < 2 ^ n → ((j : ℕ) → j < n → member s j ≡ member t j) → s ≡ t
same_set zero s t hs ht all = let x : s < 1 = hs in let y : t < 1 = ht in omega arith
same_set (suc n) s t hs ht all =
    let lo : s % 2 ≡ t % 2 = lowest (bit s) (bit t) (sym (member-low s) ∙ all 0 (zero-lt-suc n) ∙ member-low t) in
    let hi : s / 2 ≡ t / 2 =
    same_set n (s / 2) (t / 2) (half-word n s hs) (half-word n t ht)
    (λ (j : ℕ) (h : j < n). sym (member-suc s j) ∙ all (suc j) (omega arith) ∙ member-suc t j) in
    sym (div-add-mod' s 2) ∙ ap₂ (λ (x y : ℕ). x * 2 + y) hi lo ∙ div-add-mod' t 2
  where
    lowest : {a b : ℕ} → (a ≡ 0) ⊎ (a ≡ 1) → (b ≡ 0) ⊎ (b ≡ 1) → eqb a 1 ≡ eqb b 1 → a ≡ b
    lowest (inl x) (inl y) e = cc
    lowest (inr x) (inr y) e = cc
    lowest (inl x) (inr y) e = let z : false ≡ true = rw (x, y) at e in cc
    lowest (inr x) (inl y) e = let z : true ≡ false = rw (x, y) at e in cc

-- a word of n bits whose members pass the test, and no others below n, is the set of the test
pub is-set_of : (n s : ℕ) (p : ℕ → Bool) → s < 2 ^ n → ((j : ℕ) → j < n → member s j ≡ p j) → s ≡ set_of n p
is-set_of n s p h all =
    same_set n s (set_of n p) h (set_of-below n p) (λ (j : ℕ) (l : j < n). all j l ∙ sym (member-set_of n p j l))

-- a word of n bits is the set of its own members
pub set_of-member : (n s : ℕ) → s < 2 ^ n → set_of n (member s) ≡ s
set_of-member n s h = sym (is-set_of n s (member s) h (λ j l. refl))

-- tests that agree below n have the same set
pub set_of-same : (n : ℕ) (p q : ℕ → Bool) → ((j : ℕ) → j < n → p j ≡ q j) → set_of n p ≡ set_of n q
set_of-same n p q h = is-set_of n (set_of n p) q (set_of-below n p) (λ j l. member-set_of n p j l ∙ h j l)

-- a set of numbers below n is a word of w bits
pub set_of-word : (n w : ℕ) (p : ℕ → Bool) → n ≤ w → set_of n p < 2 ^ w
set_of-word n w p h = lt_of_lt_of_le (set_of-below n p) (pow_mono h)

-- tests that agree below n, of which one fails from there on, have the same set
pub set_of-cut : (n w : ℕ) (p q : ℕ → Bool) → n ≤ w → ((j : ℕ) → j < n → p j ≡ q j)
    → ((j : ℕ) → j < w → n ≤ j → q j ≡ false) → set_of n p ≡ set_of w q
set_of-cut n w p q h same past =
    is-set_of w (set_of n p) q (set_of-word n w p h) λ j l.
    by_cases (dec_lt j n)
    (λ b. member-set_of n p j b ∙ same j b)
    (λ b. member-set_of-past n p j (omega arith) ∙ sym (past j l (omega arith)))

-- ONE MEMBER MORE OR LESS

-- a set with c in it or out of it, as b says
pub set_of-upd :
    (n : ℕ) (p : ℕ → Bool) (c : ℕ) (b : Bool) → set_of n (upd (member (set_of n p)) c b) ≡ set_of n (upd p c b)
set_of-upd n p c b = set_of-same n _ _ (λ j l. ap (λ (x : Bool). cond (eqb j c) b x) (member-set_of n p j l))

-- a number from n on changes nothing
pub set_of-upd-past : (n : ℕ) (p : ℕ → Bool) (c : ℕ) (b : Bool) → n ≤ c → set_of n (upd p c b) ≡ set_of n p
set_of-upd-past n p c b h = set_of-same n _ _ (λ j l. rw (ne_eqb j c (λ e. omega arith)))

pub member-upd-past : (n s c : ℕ) (b : Bool) → s < 2 ^ n → n ≤ c → set_of n (upd (member s) c b) ≡ s
member-upd-past n s c b h l = set_of-upd-past n (member s) c b l ∙ set_of-member n s h

-- the numbers below n that pass the test, and n if it does
pub set_of-next : (n : ℕ) (p : ℕ → Bool) → n < max_clients
    → cond (p n) (with_of (set_of n p) n) (set_of n p) ≡ set_of (n + 1) p
unfolding set_of
set_of-next n p h =
    rw (add-one n)
    (by-test (p n)
    (λ e. rw e (sym (set_of-cut (suc n) max_clients p (upd (member (set_of n p)) n true) (omega arith)
    (λ j l. by-test (eqb j n)
    (λ f. rw (f, eqb-true j n f) e)
    (λ f. rw f (sym (member-set_of n p j (omega (arith, eqb-false j n f))))))
    (λ j l b. rw (ne_eqb j n (λ f. omega arith)) (member-set_of-past n p j (omega arith))))
    ∙ rw e))
    (λ e. rw e (sym (zero-add (set_of n p)))))

-- NONE OR SOME

-- a set is empty if no number below n passes the test
pub set_of-none : (n : ℕ) (p : ℕ → Bool) → ((j : ℕ) → j < n → p j ≡ false) → set_of n p ≡ 0
set_of-none n p h = sym (is-set_of n 0 p (pow_pos n) (λ j l. member-none j ∙ sym (h j l)))

-- a set has a member if some number below n passes the test
pub set_of-some : (n : ℕ) (p : ℕ → Bool) → not (eqb (set_of n p) 0) ≡ some_below p n
set_of-some n p =
    by-test (eqb (set_of n p) 0)
    (λ e. rw e (sym (some-not p n (λ j l.
    sym (member-set_of n p j l) ∙ ap (λ (s : ℕ). member s j) (eqb-true (set_of n p) 0 e) ∙ member-none j))))
    (λ e. rw e (by-test (some_below p n) (λ f. sym f) (λ f.
    clash (eq-eqb (set_of n p) 0 (set_of-none n p (λ j l. none_below p n j f l))) e)))

-- THOSE OF TWO SETS

-- two sets have a member in common if some client is in both
pub common-some : (s t : ℕ) → not (eqb (common_of s t) 0) ≡ some_below (λ (j : ℕ). member s j && member t j) max_clients
common-some s t = set_of-some max_clients (λ (j : ℕ). member s j && member t j)

-- those in both of two sets of numbers below n pass both tests
pub common-set_of : (n : ℕ) (p q : ℕ → Bool) → n ≤ max_clients
    → common_of (set_of n p) (set_of n q) ≡ set_of n (λ (j : ℕ). p j && q j)
common-set_of n p q h =
    sym (set_of-cut n max_clients (λ (j : ℕ). p j && q j) _ h
    (λ j l. sym (rw (member-set_of n p j l, member-set_of n q j l)))
    (λ j l b. rw (member-set_of-past n p j b)))
