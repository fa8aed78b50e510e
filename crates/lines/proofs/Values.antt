-- A field that is a `-`, and the numbers of a line in their places.
-- Assumes nothing.
use Prim.Native.Nat.{ℕ, ◌-◌, ◌≤◌, ◌<◌}
use native.Mathlib.Omega.{arith}
use mathlib.Core.Path.{◌≡◌, refl, sym, ap, ◌∙◌, subst}
use mathlib.Core.Bool.{true, false, ◌&&◌}
use mathlib.Core.List.{List, [], ◌∷◌, map}
use lib.Dec.{eqb, leb}
use lib.ListN.{length, get_or, take, drop, set, length-drop, length-map}
use lib.Seq.{take_all}
use borrow.Author.Tests.{leb-true, eq-eqb, ne_eqb}
use Rattle.rules.proofs.Tests.{both_true}
use Rattle.fields.specs.Fields.{fields, Placed}
use Rattle.fields.proofs.Fields.{few-fields}
use Rattle.fields.proofs.Placed.{placed_first}
use Rattle.numerals.specs.Plain.{no_plain}
use Rattle.lines.specs.Lines.{max_line, is_dash, value_of, begins, values_of}

pub dash-alone : (f : List ℕ) → is_dash f ≡ eqb (length f) 1 && eqb (get_or f 0 0) 45
dash-alone [] = refl
dash-alone (b ∷ []) = refl
dash-alone (b ∷ c ∷ f) = rw (ne_eqb (length (b ∷ c ∷ f)) 1 (omega arith))

-- A LINE THAT BEGINS OTHERWISE

pub begins-otherwise : (letter separator : ℕ) (s : List ℕ) → begins letter separator s ≡ false
    → values_of letter separator s ≡ no_plain ∷ []
unfolding values_of
begins-otherwise letter separator s other = rw other

pub one_placed : (v : List ℕ) (x : ℕ) → 0 < length v → take 1 (set v 0 x) ≡ x ∷ []
one_placed [] x h = absurd (omega arith)
one_placed (y ∷ v) x h = refl

-- A LINE THAT BEGINS AS IT SHOULD

module _ (letter separator : ℕ) (s : List ℕ) (begun : begins letter separator s ≡ true) where
  sized : (leb 1 (length s) ≡ true) × (leb (length s) max_line ≡ true)
  sized =
      both_true (leb 1 (length s)) (leb (length s) max_line)
      (both_true (leb 1 (length s) && leb (length s) max_line) _ begun).0

  pub one-or-more : 1 ≤ length s
  one-or-more = leb-true 1 (length s) sized.0

  pub not-too-long : length s ≤ max_line
  not-too-long = leb-true (length s) max_line sized.1

  pub letter-alone : length s ≡ 1 → values_of letter separator s ≡ []
  unfolding values_of
  letter-alone one = rw (begun, eq-eqb (length s) 1 one)

  module _ (more : length s ≡ 1 → ⊥) where
    abbrev values : List ℕ
    values = map value_of (fields separator (drop 2 s))

    the_values : values ≡ values_of letter separator s
    unfolding values_of
    the_values = rw (begun, ne_eqb (length s) 1 more)

    pub two-or-more : 2 ≤ length s
    two-or-more = omega (arith, one-or-more, more)

    few-values : length values ≤ max_line
    few-values =
        omega (
          arith,
          length-map (fields separator (drop 2 s)) value_of,
          few-fields separator (drop 2 s),
          length-drop 2 s,
          two-or-more,
          not-too-long,
        )

    -- what is read behind the letter and the separator, of places enough
    pub in-places : (before v : List ℕ) {n : ℕ} {t : List ℕ} → t ≡ take (length s - 2) (drop 2 s)
        → length v ≡ length before → max_line ≤ length before
        → n ≡ length (fields separator t) → Placed 0 (map value_of (fields separator t)) before v
        → (n ≡ length (values_of letter separator s)) × (take n v ≡ values_of letter separator s)
    in-places before v {n} {t} part long enough count placed =
        let all : t ≡ drop 2 s = part ∙ take_all (length s - 2) (drop 2 s) (omega (arith, length-drop 2 s)) in
        let many : n ≡ length values
        = count
        ∙ ap (λ (l : List ℕ). length (fields separator l)) all
        ∙ sym (length-map (fields separator (drop 2 s)) value_of) in
        let there = subst (λ (l : List ℕ). Placed 0 (map value_of (fields separator l)) before v) all placed in (
          many ∙ ap length the_values,
          ap (λ (k : ℕ). take k v) many
              ∙ placed_first 0 values before v long (omega (arith, few-values)) there
              ∙ the_values,
        )
