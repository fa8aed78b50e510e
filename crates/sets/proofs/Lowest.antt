-- The lowest bit of a word: which it is, and the word without it. For any width n.
-- Assumes nothing.
use Prim.Native.Nat.{ℕ, zero, suc, ◌+◌, ◌-◌, ◌*◌, ◌/◌, ◌%◌, ◌^◌, ◌<◌}
use mathlib.Core.Bool.{true, false}
use mathlib.Core.Logic.{⊎_elim}
use mathlib.Core.Path.{◌≡◌, sym, ◌∙◌}
use native.Mathlib.Nat.{div-add-mod', zero-lt-suc}
use native.Mathlib.Omega.{arith}
use lib.Bits.{bit_and, and_le_r, and_lt, and_self, and_step}
use lib.Count.{count_trailing_zeros}
use lib.Dec.{eqb-suc-suc, eqb-suc-zero, eqb-zero-suc}
use Rattle.rules.specs.Lists.{upd}
use Rattle.sets.specs.Sets.{member, set_of}
use Rattle.sets.proofs.Bits.{bit, half-word, member-low, member-suc}
use Rattle.sets.proofs.Laws.{is-set_of}

-- an even word that is not empty has a half that is not
half_pos : (s : ℕ) → 0 < s → s % 2 ≡ 0 → 0 < s / 2
half_pos s h e = omega (arith, div-add-mod' s 2)

-- the lowest bit of a word that has one
pub first-in : (n s : ℕ) → s < 2 ^ n → 0 < s → (count_trailing_zeros n s < n) × (member s (count_trailing_zeros n s) ≡ true)
unfolding count_trailing_zeros
first-in zero s h p = let g : s < 1 = h in absurd (omega arith)
first-in (suc n) s h p =
    ⊎_elim
    (λ e.
    let i = first-in n (s / 2) (half-word n s h) (half_pos s p e) in
    rw e (omega (arith, i.0), member-suc s (count_trailing_zeros n (s / 2)) ∙ i.1))
    (λ e. rw e (zero-lt-suc n, member-low s ∙ rw e))
    (bit s)

-- twice a word: no low bit, and its bits above it
twice-low : (x : ℕ) → member (x * 2 + 0) 0 ≡ false
twice-low x = let e : (x * 2 + 0) % 2 ≡ 0 = omega arith in member-low (x * 2 + 0) ∙ rw e

twice-suc : (x j : ℕ) → member (x * 2 + 0) (suc j) ≡ member x j
twice-suc x j = let e : (x * 2 + 0) / 2 ≡ x = omega arith in member-suc (x * 2 + 0) j ∙ rw e

-- a word and the word below it: half by half
and-even : (s : ℕ) → 0 < s → s % 2 ≡ 0 → bit_and s (s - 1) ≡ bit_and (s / 2) (s / 2 - 1) * 2 + 0
and-even s h e =
    let d : (s - 1) / 2 ≡ s / 2 - 1 = omega arith in
    let m : (s - 1) % 2 ≡ 1 = omega arith in
    and_step s (s - 1) ∙ rw (d, m, e)

and-odd : (s : ℕ) → s % 2 ≡ 1 → bit_and s (s - 1) ≡ s / 2 * 2 + 0
and-odd s e =
    let d : (s - 1) / 2 ≡ s / 2 = omega arith in
    let m : (s - 1) % 2 ≡ 0 = omega arith in
    and_step s (s - 1) ∙ rw (d, m, e, and_self (s / 2))

-- the bits of a word and the word below it: all but the lowest
rest-bits : (n s : ℕ) → s < 2 ^ n → 0 < s → (j : ℕ)
    → member (bit_and s (s - 1)) j ≡ upd (member s) (count_trailing_zeros n s) false j
unfolding count_trailing_zeros
rest-bits zero s h p j = let g : s < 1 = h in absurd (omega arith)
rest-bits (suc n) s h p j =
    ⊎_elim
    (λ e. rw (and-even s p e, e) (even e (λ i. rest-bits n (s / 2) (half-word n s h) (half_pos s p e) i) j))
    (λ e. rw (and-odd s e, e) (odd e j))
    (bit s)
  where
    even : s % 2 ≡ 0
        → ((i : ℕ) → member (bit_and (s / 2) (s / 2 - 1)) i ≡ upd (member (s / 2)) (count_trailing_zeros n (s / 2)) false i)
        → (j : ℕ) → member (bit_and (s / 2) (s / 2 - 1) * 2 + 0) j
        ≡ upd (member s) (suc (count_trailing_zeros n (s / 2))) false j
    even e ih zero =
        twice-low (bit_and (s / 2) (s / 2 - 1))
        ∙ sym (rw (eqb-zero-suc (count_trailing_zeros n (s / 2)), member-low s, e))
    even e ih (suc j) =
        twice-suc (bit_and (s / 2) (s / 2 - 1)) j ∙ ih j
        ∙ sym (rw (eqb-suc-suc j (count_trailing_zeros n (s / 2)), member-suc s j))

    odd : s % 2 ≡ 1 → (j : ℕ) → member (s / 2 * 2 + 0) j ≡ upd (member s) 0 false j
    odd e zero = twice-low (s / 2)
    odd e (suc j) = twice-suc (s / 2) j ∙ sym (rw (eqb-suc-zero j) (member-suc s j))

-- the word without its lowest bit, and that it is less
pub rest-set : (n s : ℕ) → s < 2 ^ n → 0 < s → bit_and s (s - 1) ≡ set_of n (upd (member s) (count_trailing_zeros n s) false)
rest-set n s h p =
    is-set_of n (bit_and s (s - 1)) (upd (member s) (count_trailing_zeros n s) false) (and_lt n s (s - 1) h (omega arith))
    (λ j l. rest-bits n s h p j)

pub rest-less : (s : ℕ) → 0 < s → bit_and s (s - 1) < s
rest-less s p = omega (arith, and_le_r s (s - 1))
