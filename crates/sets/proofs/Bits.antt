-- Membership bit by bit: the lowest bit, the bits above it, the bits of a sum, of an or, an and and a xor. For any
-- width.
-- Assumes nothing.
use Prim.Native.Nat.{ℕ, zero, suc, ◌+◌, ◌*◌, ◌/◌, ◌%◌, ◌^◌, ◌≤◌, ◌<◌}
use mathlib.Core.Path.{◌≡◌, refl, sym, ap, subst, ◌∙◌}
use mathlib.Core.Bool.{Bool, true, false, xor, ◌&&◌, ◌||◌, cond}
use mathlib.Core.Logic.{◌⊎◌, inl, inr, ⊎_elim}
use native.Mathlib.Nat.{pow-suc, one-mul, zero-add, zero-lt-suc, mod-lt, eq-zero-or-pos, not-suc-le-zero}
use native.Mathlib.Nat.{le_of_suc-le-suc, lt_of_lt_of_le, div-one, div-eq_of_lt, div-div-eq-div-mul}
use native.Mathlib.Nat.{div-lt_iff_lt-mul, mul_comm}
use native.Mathlib.Omega.{arith}
use lib.Bits.{bit_and, bit_or, bit_xor, and_shr, and_mod, or_shr, or_mod, xor_shr, xor_mod, block_half, block_odd}
use lib.Bits.{shifted_even, shifted_half}
use lib.Dec.{eqb, eqb-zero-suc, eqb-suc-zero, eqb-suc-suc}
use lib.Pow.{high, pow_mono}
use Rattle.sets.specs.Sets.{member}

-- a remainder of 2 is 0 or 1
pub bit : (x : ℕ) → (x % 2 ≡ 0) ⊎ (x % 2 ≡ 1)
bit x = ⊎_elim (λ e. inl e) (λ h. inr (omega (arith, mod-lt x (zero-lt-suc 1)))) (eq-zero-or-pos (x % 2))

-- half of a word
pub half-word : (n s : ℕ) → s < 2 ^ suc n → s / 2 < 2 ^ n
half-word n s h = (div-lt_iff_lt-mul (zero-lt-suc 1)).1 (subst (λ (m : ℕ). s < m) (pow-suc 2 n) h)

-- the lowest bit, and the bits above it
pub member-low : (s : ℕ) → member s zero ≡ eqb (s % 2) 1
unfolding member
member-low s = ap (λ (x : ℕ). eqb (x % 2) 1) (div-one s)

pub member-suc : (s j : ℕ) → member s (suc j) ≡ member (s / 2) j
unfolding member
member-suc s j =
    ap (λ (x : ℕ). eqb (x % 2) 1)
    (ap (λ (y : ℕ). s / y) (pow-suc 2 j ∙ mul_comm (2 ^ j) 2) ∙ sym (div-div-eq-div-mul s 2 (2 ^ j)))

-- a word of n bits has no member from n on
pub member-past : (n s j : ℕ) → s < 2 ^ n → n ≤ j → member s j ≡ false
unfolding member
member-past n s j h l = rw (div-eq_of_lt (lt_of_lt_of_le h (pow_mono l)))

-- the empty set, and the set of one
pub member-none : (j : ℕ) → member 0 j ≡ false
member-none j = member-past 0 0 j (omega arith) (omega arith)

pub member-one : (c j : ℕ) → member (2 ^ c) j ≡ eqb j c
member-one zero zero = member-low 1
member-one zero (suc j) = member-suc 1 j ∙ member-none j ∙ sym (eqb-suc-zero j)
member-one (suc c) zero =
    member-low (2 ^ suc c) ∙ ap (λ (x : ℕ). eqb (x % 2) 1) (sym (one-mul (2 ^ suc c)))
    ∙ ap (λ (x : ℕ). eqb x 1) (shifted_even 1 c) ∙ sym (eqb-zero-suc c)
member-one (suc c) (suc j) =
    member-suc (2 ^ suc c) j
    ∙ ap (λ (x : ℕ). member x j)
    (ap (λ (x : ℕ). x / 2) (sym (one-mul (2 ^ suc c))) ∙ shifted_half 1 c ∙ one-mul (2 ^ c))
    ∙ member-one c j ∙ sym (eqb-suc-suc j c)

-- a block of bits on top leaves the bits below it
below-block : (j n a r : ℕ) → j < n → member (a * 2 ^ n + r) j ≡ member r j
below-block j zero a r h = absurd (not-suc-le-zero h)
below-block zero (suc n) a r h =
    member-low (a * 2 ^ suc n + r) ∙ ap (λ (x : ℕ). eqb x 1) (block_odd a n r) ∙ sym (member-low r)
below-block (suc j) (suc n) a r h =
    member-suc (a * 2 ^ suc n + r) j ∙ ap (λ (x : ℕ). member x j) (block_half a n r)
    ∙ below-block j n a (r / 2) (le_of_suc-le-suc h) ∙ sym (member-suc r j)

-- a word of n bits with one more bit on top: the bits below it, and that bit
pub member_below : (b : Bool) (n r j : ℕ) → j < n → member (cond b (2 ^ n) 0 + r) j ≡ member r j
member_below true n r j h = ap (λ (x : ℕ). member (x + r) j) (sym (one-mul (2 ^ n))) ∙ below-block j n 1 r h
member_below false n r j h = ap (λ (x : ℕ). member x j) (zero-add r)

pub member-top : (b : Bool) (n r : ℕ) → r < 2 ^ n → member (cond b (2 ^ n) 0 + r) n ≡ b
unfolding member
member-top true n r h =
    ap (λ (x : ℕ). eqb (x % 2) 1) (ap (λ (x : ℕ). (x + r) / 2 ^ n) (sym (one-mul (2 ^ n))) ∙ high 1 n h)
member-top false n r h = ap (λ (x : ℕ). eqb (x / 2 ^ n % 2) 1) (zero-add r) ∙ rw (div-eq_of_lt h)

-- an operation on two bits is told by its four cases
told :
    (f : ℕ → ℕ → ℕ) (g : Bool → Bool → Bool) (a b : ℕ) → eqb (f 0 0) 1 ≡ g false false → eqb (f 0 1) 1 ≡ g false true
    → eqb (f 1 0) 1 ≡ g true false → eqb (f 1 1) 1 ≡ g true true
    → eqb (f (a % 2) (b % 2)) 1 ≡ g (eqb (a % 2) 1) (eqb (b % 2) 1)
told f g a b none right left both = go (a % 2) (b % 2) (bit a) (bit b)
  where
    go : (x y : ℕ) → (x ≡ 0) ⊎ (x ≡ 1) → (y ≡ 0) ⊎ (y ≡ 1) → eqb (f x y) 1 ≡ g (eqb x 1) (eqb y 1)
    go x y (inl d) (inl e) = rw (d, e) none
    go x y (inl d) (inr e) = rw (d, e) right
    go x y (inr d) (inl e) = rw (d, e) left
    go x y (inr d) (inr e) = rw (d, e) both

-- one bit of an or, of an and, and of a xor
module _ (a b j : ℕ) where
  pub member-or : member (bit_or a b) j ≡ (member a j || member b j)
  unfolding member
  member-or =
      ap (λ (x : ℕ). eqb x 1) (ap (λ (x : ℕ). x % 2) (or_shr a b j) ∙ or_mod (a / 2 ^ j) (b / 2 ^ j) 1)
      ∙ told bit_or (λ x y. x || y) (a / 2 ^ j) (b / 2 ^ j) refl refl refl refl

  pub member-and : member (bit_and a b) j ≡ (member a j && member b j)
  unfolding member
  member-and =
      ap (λ (x : ℕ). eqb x 1) (ap (λ (x : ℕ). x % 2) (and_shr a b j) ∙ and_mod (a / 2 ^ j) (b / 2 ^ j) 1)
      ∙ told bit_and (λ x y. x && y) (a / 2 ^ j) (b / 2 ^ j) refl refl refl refl

  pub member-xor : member (bit_xor a b) j ≡ xor (member a j) (member b j)
  unfolding member xor
  member-xor =
      ap (λ (x : ℕ). eqb x 1) (ap (λ (x : ℕ). x % 2) (xor_shr a b j) ∙ xor_mod (a / 2 ^ j) (b / 2 ^ j) 1)
      ∙ told bit_xor xor (a / 2 ^ j) (b / 2 ^ j) refl refl refl refl
