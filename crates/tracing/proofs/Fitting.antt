-- The numbers of a line that fits are within their widths.
-- Assumes nothing.
use Prim.Native.Nat.{ℕ, zero, suc, ◌+◌, ◌≤◌, ◌<◌}
use native.Mathlib.Omega.{arith}
use mathlib.Core.Path.{◌≡◌, sym, ap, ◌∙◌}
use mathlib.Core.Bool.{Bool, true, false, ◌&&◌, ◌||◌, cond}
use mathlib.Core.List.{List, [], ◌∷◌}
use lib.Dec.{eqb, leb}
use lib.ListN.{length, get_or, take, replicate}
use lib.Seq.{get_or-take}
use borrow.Author.Tests.{leb-true, eqb-true, lt-leb, le-leb}
use Rattle.rules.proofs.Tests.{both_true, either_true}
use Rattle.layout.specs.Layout.{carries_ranks}
use Rattle.text.specs.Text.{bits8, bits16, bits32}
use Rattle.lines.specs.Lines.{dash, fit_in}
use Rattle.lines.proofs.Widths.{fit_at}
use Rattle.items.specs.Items.{head_fits, sizes_form, row_form}
use Rattle.items.proofs.Fits.{head_at}
use Rattle.tracing.specs.Shapes.{entry_widths, served_at, charges_at, entry_begins}
use Rattle.tracing.specs.Shapes.{HeadNumbers, RowNumbers, EntryNumbers}

-- LINE S

pub head-numbers : (vs : List ℕ) → head_fits vs ≡ true → HeadNumbers vs
head-numbers vs e =
    let fits = head_at vs e in
    record {
      version = fits 0;
      clusters = fits 1;
      clients = fits 2;
      cap = fits 3;
      tidy = fits 4;
      ranks = fits 5;
    }

-- LINE Z

repeated : (k j w : ℕ) → get_or (replicate k w) j 0 ≤ w
repeated zero j w = omega arith
repeated (suc k) zero w = omega arith
repeated (suc k) (suc j) w = repeated k j w

pub size-numbers : (k : ℕ) (vs : List ℕ) → fit_in (sizes_form k) vs ≡ true → (j : ℕ) → get_or vs j 0 ≤ bits8
size-numbers k vs e j = omega (arith, fit_at (sizes_form k) vs e j, repeated k j bits8)

-- LINES C

pub row-numbers : (vs : List ℕ) → fit_in row_form vs ≡ true → RowNumbers vs
row-numbers vs e =
    let fits = fit_at row_form vs e in
    record { kind = fits 0; cluster = fits 1; priority = fits 2 }

-- LINES E

-- by where SERVED stands
abbrev begins_at : ℕ → List ℕ → ℕ → Bool
begins_at v vs n =
    (leb (n + 1) (length vs) && fit_in (entry_widths v) (take n vs))
    && (leb (get_or vs n 0) bits16 || eqb (get_or vs n 0) dash)

module _ (v : ℕ) (vs : List ℕ) (n : ℕ) (is : n ≡ served_at v) where
  at-served : entry_begins v vs ≡ begins_at v vs n
  at-served = ap (begins_at v vs) (sym is)

  pub too_few : length vs ≤ n → entry_begins v vs ≡ false
  too_few h = at-served ∙ rw (lt-leb (n + 1) (length vs) (omega arith))

  module _ (h : n < length vs) where
    long : leb (n + 1) (length vs) ≡ true
    long = le-leb (n + 1) (length vs) (omega arith)

    pub first-unfit : fit_in (entry_widths v) (take n vs) ≡ false → entry_begins v vs ≡ false
    first-unfit e = at-served ∙ rw (long, e)

    module _ (e : fit_in (entry_widths v) (take n vs) ≡ true) where
      pub served-fits : get_or vs n 0 ≤ bits16 → entry_begins v vs ≡ true
      served-fits q = at-served ∙ rw (long, e, le-leb (get_or vs n 0) bits16 q)

      pub served-or-dash : bits16 < get_or vs n 0 → entry_begins v vs ≡ eqb (get_or vs n 0) dash
      served-or-dash q = at-served ∙ rw (long, e, lt-leb (get_or vs n 0) bits16 q)

fit-first : (ws vs : List ℕ) (n : ℕ) → fit_in ws (take n vs) ≡ true → (j : ℕ) → j < n → get_or vs j 0 ≤ get_or ws j 0
fit-first ws vs n e j h = omega (arith, fit_at ws (take n vs) e j, get_or-take n vs j 0 h)

-- the numbers up to ANSWER, with a deadline or without
numbers-by : (b : Bool) (vs : List ℕ)
    → fit_in (bits8 ∷ bits16 ∷ cond b (bits32 ∷ bits16 ∷ []) (bits16 ∷ [])) (take (cond b 3 2 + 1) vs) ≡ true
    → (get_or vs 0 0 ≤ bits8) × (get_or vs 1 0 ≤ bits16) × (cond b (get_or vs 2 0) 0 ≤ bits32)
    × (get_or vs (cond b 3 2) 0 ≤ bits16)
numbers-by true vs e = let at = fit-first (bits8 ∷ bits16 ∷ bits32 ∷ bits16 ∷ []) vs 4 e in
    (at 0 (omega arith), at 1 (omega arith), at 2 (omega arith), at 3 (omega arith))
numbers-by false vs e = let at = fit-first (bits8 ∷ bits16 ∷ bits16 ∷ []) vs 3 e in
    (at 0 (omega arith), at 1 (omega arith), omega arith, at 2 (omega arith))

module _ (v : ℕ) (vs : List ℕ) (e : entry_begins v vs ≡ true) where
  abbrev served : ℕ
  served = get_or vs (served_at v) 0

  abbrev tests : (leb (charges_at v) (length vs) && fit_in (entry_widths v) (take (served_at v) vs) ≡ true)
      × (leb served bits16 || eqb served dash ≡ true)
  tests =
      both_true (leb (charges_at v) (length vs) && fit_in (entry_widths v) (take (served_at v) vs))
      (leb served bits16 || eqb served dash) e

  abbrev first : (leb (charges_at v) (length vs) ≡ true) × (fit_in (entry_widths v) (take (served_at v) vs) ≡ true)
  first = both_true (leb (charges_at v) (length vs)) (fit_in (entry_widths v) (take (served_at v) vs)) tests.0

  pub enough-numbers : charges_at v ≤ length vs
  enough-numbers = leb-true (charges_at v) (length vs) first.0

  pub entry-numbers : EntryNumbers v vs
  entry-numbers = let n = numbers-by (carries_ranks v) vs first.1 in
      record { code = n.0; argument = n.1; deadline = n.2; answer = n.3 }

  pub served-cases {ℓ} : {X : Type ℓ} → (served ≤ bits16 → X) → (served ≡ dash → X) → X
  served-cases f g =
      either_true (leb served bits16) (eqb served dash) tests.1
      (λ y. f (leb-true served bits16 y)) (λ y. g (eqb-true served dash y))
