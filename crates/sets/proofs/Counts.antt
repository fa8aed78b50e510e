-- How many numbers below n pass a test: tests that agree, one test within another, one number more or less; and what
-- that says of a set's count. Assumes nothing.
use Prim.Native.Nat.{ℕ, zero, suc, ◌+◌, ◌≤◌, ◌<◌}
use mathlib.Core.Bool.{Bool, true, false, not, ◌&&◌}
use mathlib.Core.Path.{◌≡◌, refl, sym, ap, subst, ◌∙◌}
use native.Mathlib.Nat.{not-suc-le-zero, zero-lt-suc}
use native.Mathlib.Omega.{arith}
use lib.Dec.{eqb}
use borrow.Author.Tests.{eqb-true, eqb-false}
use Rattle.rules.specs.Limits.{max_clients}
use Rattle.rules.specs.Lists.{upd, count_below}
use Rattle.rules.proofs.Tests.{by-test, clash, upd_same, upd_other, upd-at}
use Rattle.sets.specs.Sets.{member, set_of, count_of, less_of, with_of, without_of}
use Rattle.sets.proofs.Bits.{member-none}
use Rattle.sets.proofs.Laws.{member-set_of}

-- TESTS

pub count_same : (p q : ℕ → Bool) (n : ℕ) → ((x : ℕ) → x < n → p x ≡ q x) → count_below p n ≡ count_below q n
count_same p q zero h = refl
count_same p q (suc n) h = rw (h n (omega arith), count_same p q n (λ x l. h x (omega arith)))

-- of which one fails from n on
pub count_cut : (p q : ℕ → Bool) (n w : ℕ) → n ≤ w → ((x : ℕ) → x < n → p x ≡ q x)
    → ((x : ℕ) → x < w → n ≤ x → q x ≡ false) → count_below p n ≡ count_below q w
count_cut p q n zero l h past = let e : n ≡ 0 = omega arith in rw e
count_cut p q n (suc w) l h past =
    by-test (eqb n (suc w))
    (λ e. rw (eqb-true n (suc w) e) (count_same p q (suc w) (λ x b. h x (omega (arith, eqb-true n (suc w) e)))))
    (λ e. rw (past w (omega arith) (omega (arith, eqb-false n (suc w) e)))
    (count_cut p q n w (omega (arith, eqb-false n (suc w) e)) h (λ x b m. past x (omega arith) m)))

-- who passes the one test passes the other
pub count-within : (p q : ℕ → Bool) (n : ℕ) → ((x : ℕ) → x < n → p x ≡ true → q x ≡ true)
    → count_below p n ≤ count_below q n
count-within p q zero h = omega arith
count-within p q (suc n) h =
    let i : count_below p n ≤ count_below q n = count-within p q n (λ x b. h x (omega arith)) in
    by-test (p n)
    (λ e. rw (e, h n (omega arith) e) (omega arith))
    (λ e. by-test (q n) (λ f. rw (e, f) (omega arith)) (λ f. rw (e, f) i))

-- one number more passes, and one less
pub count-joined : (p : ℕ → Bool) (n c : ℕ) → c < n → p c ≡ false
    → count_below (upd p c true) n ≡ suc (count_below p n)
count-joined p zero c b e = absurd (omega arith)
count-joined p (suc n) c b e =
    by-test (eqb c n)
    (λ f.
    let same : c ≡ n = eqb-true c n f in
    let out : p n ≡ false = rw (← same) e in
    let i : count_below (upd p c true) n ≡ count_below p n =
    count_same (upd p c true) p n (λ x l. upd_other p c true x (λ q. omega arith)) in
    rw (upd_same p c true n (sym same), out, i))
    (λ f.
    let other : n ≡ c → ⊥ = λ q. eqb-false c n f (sym q) in
    let i : count_below (upd p c true) n ≡ suc (count_below p n) =
    count-joined p n c (omega (arith, eqb-false c n f)) e in
    by-test (p n)
    (λ g. rw (upd_other p c true n other, g, i))
    (λ g. rw (upd_other p c true n other, g, i)))

pub count_left : (p : ℕ → Bool) (n c : ℕ) → c < n → p c ≡ true → suc (count_below (upd p c false) n) ≡ count_below p n
count_left p n c b e =
    sym (count-joined (upd p c false) n c b (upd_same p c false c refl))
    ∙ count_same (upd (upd p c false) c true) p n (λ x l.
    upd-at (λ y. y ≡ p x) (upd p c false) c true x (λ q. rw q (sym e)) (λ q. upd_other p c false x q))

-- who passes the one test passes the other, and c passes the other alone
pub count_less : (p q : ℕ → Bool) (n c : ℕ) → ((x : ℕ) → x < n → p x ≡ true → q x ≡ true) → c < n → p c ≡ false
    → q c ≡ true → count_below p n < count_below q n
count_less p q n c h b e f =
    let more : count_below (upd p c true) n ≤ count_below q n =
    count-within (upd p c true) q n (λ x l.
    upd-at (λ y. y ≡ true → q x ≡ true) p c true x (λ z g. rw z f) (λ z g. h x l g)) in
    let one = count-joined p n c b e in
    omega (arith, more, one)

-- those who pass the one test and not the other, which is within it, and those who pass the other
count-parts : (p q : ℕ → Bool) (n : ℕ) → ((x : ℕ) → x < n → q x ≡ true → p x ≡ true)
    → count_below (λ x. p x && not (q x)) n + count_below q n ≡ count_below p n
count-parts p q zero h = refl
count-parts p q (suc n) h =
    let i : count_below (λ x. p x && not (q x)) n + count_below q n ≡ count_below p n =
    count-parts p q n (λ x b. h x (omega arith)) in
    by-test (q n)
    (λ e. rw (e, h n (omega arith) e) (omega (arith, i)))
    (λ e. by-test (p n) (λ f. rw (e, f) (omega (arith, i))) (λ f. rw (e, f) i))

-- SETS

-- a set has one client less without one of its own
fewer : (n s c : ℕ) → c < n → member s c ≡ true
    → suc (count_below (member (set_of n (upd (member s) c false))) n) ≡ count_below (member s) n
fewer n s c b e =
    ap suc (count_same (member (set_of n (upd (member s) c false))) (upd (member s) c false) n
    (λ x l. member-set_of n (upd (member s) c false) x l))
    ∙ count_left (member s) n c b e

pub count-without : (s c : ℕ) → c < max_clients → member s c ≡ true → suc (count_of (without_of s c)) ≡ count_of s
unfolding count_of
count-without = fewer max_clients

-- the empty set has none, so that a set with some is not the empty one
none_in : (n : ℕ) → count_below (member 0) n ≡ 0
none_in zero = refl
none_in (suc n) = rw (member-none n) (none_in n)

count_none : count_of 0 ≡ 0
unfolding count_of
count_none = none_in max_clients

pub some_in : (s m : ℕ) → m < count_of s → 0 < s
some_in zero m h = absurd (not-suc-le-zero (subst (λ x. m < x) count_none h))
some_in (suc s) m h = zero-lt-suc s

-- nor is a set that has a member
has_some : (s c : ℕ) → member s c ≡ true → 0 < s
has_some zero c e = clash e (member-none c)
has_some (suc s) c e = zero-lt-suc s

pub with-some : (s c : ℕ) → c < max_clients → 0 < with_of s c
with-some s c b =
    has_some (with_of s c) c (member-set_of max_clients (upd (member s) c true) c b ∙ upd_same (member s) c true c refl)

-- a set less one within it
apart : (n s t : ℕ) → ((x : ℕ) → x < n → member t x ≡ true → member s x ≡ true)
    → count_below (member (set_of n (λ x. member s x && not (member t x)))) n + count_below (member t) n
    ≡ count_below (member s) n
apart n s t h =
    ap (λ y. y + count_below (member t) n) (count_same _ (λ x. member s x && not (member t x)) n
    (λ x l. member-set_of n (λ x. member s x && not (member t x)) x l))
    ∙ count-parts (member s) (member t) n h

pub count-less_of : (s t : ℕ) → ((x : ℕ) → x < max_clients → member t x ≡ true → member s x ≡ true)
    → count_of (less_of s t) + count_of t ≡ count_of s
unfolding count_of
count-less_of s t h = apart max_clients s t h
