-- What the machine's shifts, ors, ands, xors and counts of bits give, as sets. For any width n.
-- Assumes nothing.
use Prim.Native.Nat.{ℕ, zero, suc, ◌+◌, ◌*◌, ◌%◌, ◌^◌, ◌≤◌, ◌<◌}
use mathlib.Core.Path.{◌≡◌, refl, sym, ap, ap₂, ◌∙◌}
use mathlib.Core.Bool.{Bool, true, false, not, xor, ◌&&◌, ◌||◌, cond}
use native.Mathlib.Nat.{one-mul, zero-add}
use native.Mathlib.Numerals.{one-add}
use native.Mathlib.Omega.{arith}
use lib.Bits.{bit_and, bit_or, bit_xor, and_lt, or_lt, xor_lt}
use lib.Count.{ones, ones_cat}
use lib.Dec.{lit<, eqb}
use lib.Pow.{pow-lt, shl_exact}
use Rattle.rules.specs.Limits.{max_clients}
use Rattle.rules.specs.Lists.{upd, count_below}
use Rattle.sets.specs.Sets.{member, set_of, count_of}
use Rattle.sets.proofs.Bits.{member-and, member-one, member-or, member-xor}
use Rattle.sets.proofs.Laws.{set_of-below, set_of-word, set_of-member, is-set_of}

-- a one, shifted within the word
pub one_shifted : (n c : ℕ) → c < n → (1 * 2 ^ c) % 2 ^ n ≡ 2 ^ c
one_shifted n c h = shl_exact {a = 1} 1 c n (lit< tt) (omega arith) ∙ one-mul (2 ^ c)

module _ (n s c : ℕ) (h : s < 2 ^ n) (l : c < n) where
  -- the bit of c set
  pub or-one : bit_or s (2 ^ c) ≡ set_of n (upd (member s) c true)
  or-one =
      is-set_of n (bit_or s (2 ^ c)) (upd (member s) c true) (or_lt n s (2 ^ c) h (pow-lt l)) λ j m.
      member-or s (2 ^ c) j ∙ ap (λ (b : Bool). member s j || b) (member-one c j) ∙ more (member s j) (eqb j c)
    where
      more : (a b : Bool) → (a || b) ≡ cond b true a
      more true true = refl
      more true false = refl
      more false true = refl
      more false false = refl

  -- the bit of c set, and then turned
  pub or-xor-one : bit_xor (bit_or s (2 ^ c)) (2 ^ c) ≡ set_of n (upd (member s) c false)
  unfolding xor
  or-xor-one =
      is-set_of n (bit_xor (bit_or s (2 ^ c)) (2 ^ c)) (upd (member s) c false)
      (xor_lt n (bit_or s (2 ^ c)) (2 ^ c) (or_lt n s (2 ^ c) h (pow-lt l)) (pow-lt l)) λ j m.
      member-xor (bit_or s (2 ^ c)) (2 ^ c) j
      ∙ ap₂ (λ (x y : Bool). xor x y) (member-or s (2 ^ c) j ∙ ap (λ (b : Bool). member s j || b) (member-one c j))
      (member-one c j)
      ∙ less (member s j) (eqb j c)
    where
      less : (a b : Bool) → xor (a || b) b ≡ cond b false a
      less true true = refl
      less true false = refl
      less false true = refl
      less false false = refl

-- the bits of one word or the other
pub or-both : (n s t : ℕ) → s < 2 ^ n → t < 2 ^ n → bit_or s t ≡ set_of n (λ (j : ℕ). member s j || member t j)
or-both n s t hs ht =
    is-set_of n (bit_or s t) (λ (j : ℕ). member s j || member t j) (or_lt n s t hs ht) (λ j m. member-or s t j)

-- the bits of both
pub and_both : (n s t : ℕ) → s < 2 ^ n → t < 2 ^ n → bit_and s t ≡ set_of n (λ (j : ℕ). member s j && member t j)
and_both n s t hs ht =
    is-set_of n (bit_and s t) (λ (j : ℕ). member s j && member t j) (and_lt n s t hs ht) (λ j m. member-and s t j)

-- the bits of both words, with those of the one turned
pub or-xor-both : (n s t : ℕ) → s < 2 ^ n → t < 2 ^ n
    → bit_xor (bit_or t s) t ≡ set_of n (λ (j : ℕ). member s j && not (member t j))
unfolding xor
or-xor-both n s t hs ht =
    is-set_of n (bit_xor (bit_or t s) t) _ (xor_lt n (bit_or t s) t (or_lt n t s ht hs) ht) λ j m.
    member-xor (bit_or t s) t j ∙ ap (λ (b : Bool). xor b (member t j)) (member-or t s j)
    ∙ less (member s j) (member t j)
  where
    less : (a b : Bool) → xor (b || a) b ≡ a && not b
    less true true = refl
    less true false = refl
    less false true = refl
    less false false = refl

-- the bits of a set are counted as its members
pub ones-set_of : (n : ℕ) (p : ℕ → Bool) → ones (set_of n p) ≡ count_below p n
unfolding set_of ones
ones-set_of zero p = refl
ones-set_of (suc n) p = go (p n) (set_of n p) (set_of-below n p) (ones-set_of n p)
  where
    go :
        (b : Bool) (r : ℕ) → r < 2 ^ n → ones r ≡ count_below p n
        → ones (cond b (2 ^ n) 0 + r) ≡ cond b (suc (count_below p n)) (count_below p n)
    go true r h e =
        ap (λ (x : ℕ). ones (x + r)) (sym (one-mul (2 ^ n))) ∙ ones_cat n 1 r h ∙ ap (λ (x : ℕ). 1 + x) e
        ∙ one-add (count_below p n)
    go false r h e = ap ones (zero-add r) ∙ e

pub ones-count : (n s : ℕ) → s < 2 ^ n → ones s ≡ count_below (member s) n
ones-count n s h = ap ones (sym (set_of-member n s h)) ∙ ones-set_of n (member s)

-- how many are in a set
pub count_of-set_of : (n : ℕ) (p : ℕ → Bool) → n ≤ max_clients → count_of (set_of n p) ≡ count_below p n
unfolding count_of
count_of-set_of n p h = sym (ones-count max_clients (set_of n p) (set_of-word n max_clients p h)) ∙ ones-set_of n p
