-- A line of an item: taken as it was written; and what is taken was written so.
-- Assumes nothing.
use Prim.Native.Nat.{ℕ, suc, ◌+◌, ◌-◌, ◌≤◌, ◌<◌}
use native.Mathlib.Omega.{arith}
use mathlib.Core.Path.{◌≡◌, refl, sym, ap, ap₂, ◌∙◌}
use mathlib.Core.Bool.{true}
use mathlib.Core.List.{List, [], ◌∷◌, ◌++◌, append_assoc, append-nil}
use lib.Dec.{eqb}
use lib.ListN.{length, get_or, take, length-append, take-append-drop, drop_of_length-le}
use lib.Seq.{take_at, drop-cons, get_or-append-add}
use borrow.Author.Tests.{eqb-true}
use Rattle.rules.proofs.Tests.{by-test, clash}
use Rattle.text.specs.Text.{lf, cr}
use Rattle.fields.specs.Fields.{field_length}
use Rattle.lines.specs.Lines.{max_line, fit_in}
use Rattle.lines.specs.Input.{read_from}
use Rattle.items.specs.Lines.{behind_commas, line}
use Rattle.items.specs.Room.{most_numbers}
use Rattle.items.proofs.Joined.{AllPlain}
use Rattle.items.proofs.Texts.{line_read, line-again, none-plain}
use Rattle.items.proofs.Fits.{Widths, fit-plain, commas-most, line_clear}
use Rattle.importing.specs.Sheets.{Import, ends_in_cr, numbers_of, taken}

-- a letter and its numbers,
abbrev pub numbered : ℕ → List ℕ → List ℕ
numbered letter ns = letter ∷ behind_commas ns

-- with CR
abbrev pub ended : ℕ → List ℕ → List ℕ
ended letter ns = numbered letter ns ++ (cr ∷ [])

-- READ BACK

-- bytes before the last one
module _ (s : List ℕ) (b : ℕ) where
  abbrev all : List ℕ
  all = s ++ (b ∷ [])

  last-at : length all - 1 ≡ length s
  last-at = omega (arith, length-append s (b ∷ []))

  last-is : get_or all (length all - 1) 0 ≡ b
  last-is =
      let end : length all - 1 ≡ length s + 0 = omega (arith, last-at) in
      ap (λ (n : ℕ). get_or all n 0) end ∙ get_or-append-add s (b ∷ []) 0 0

  before_last : take (length all - 1) all ≡ s
  before_last = take_at s (b ∷ []) (length all - 1) (sym last-at)

pub numbers-read : (letter : ℕ) (form ns : List ℕ) → Widths form → fit_in form ns ≡ true → most_numbers form < max_line
    → numbers_of letter (ended letter ns) ≡ ns
unfolding numbers_of
numbers-read letter form ns ws y few =
    let s = numbered letter ns in
    rw (last-is s cr, before_last s cr)
    (line_read letter ns (fit-plain form ns ws y) (omega (arith, commas-most form ns ws y)))

-- WRITTEN AGAIN

last-cr : (s : List ℕ) → ends_in_cr s ≡ true → s ≡ take (length s - 1) s ++ (cr ∷ [])
last-cr [] y = clash y refl
last-cr (b ∷ s) y =
    let l = b ∷ s in
    let n = length l - 1 in
    let there : n < length l = omega arith in
    let past : length l ≤ suc n = omega arith in
    sym (take-append-drop n l)
    ∙ ap (λ (x : List ℕ). take n l ++ x)
    (drop-cons l n 0 there
    ∙ ap₂ (λ (x : ℕ) (xs : List ℕ). x ∷ xs) (eqb-true (get_or l n 0) cr y) (drop_of_length-le l {i = suc n} past))

pub numbers-again : (letter : ℕ) (s ns : List ℕ) → numbers_of letter s ≡ ns → AllPlain ns → s ≡ ended letter ns
unfolding numbers_of
numbers-again letter s ns e p =
    by-test (ends_in_cr s)
    (λ y. last-cr s y
    ∙ ap (λ (x : List ℕ). x ++ (cr ∷ [])) (line-again letter (take (length s - 1) s) ns (rw y at e) p))
    (λ y. none-plain ns (rw y at e) p)

-- ONE LINE OF A TEXT

module _ {S : Type 0} (take-it : S → List ℕ → S) where
  -- bytes without LF, and then one
  first-line : (t : S) (begun s rest : List ℕ) → field_length lf s ≡ length s
      → read_from take-it t begun (s ++ (lf ∷ rest)) ≡ read_from take-it (take-it t (begun ++ s)) [] rest
  first-line t begun [] rest e = ap (λ (x : List ℕ). read_from take-it (take-it t x) [] rest) (sym (append-nil begun))
  first-line t begun (b ∷ s) rest e =
      by-test (eqb b lf) (λ y. absurd (omega (arith, rw y at e)))
      (λ n. let k : suc (field_length lf s) ≡ suc (length s) = rw n at e in
      rw n (
      first-line t (begun ++ (b ∷ [])) s rest (omega arith)
      ∙ ap (λ (x : List ℕ). read_from take-it (take-it t x) [] rest) (append_assoc begun (b ∷ []) s)
      ))

-- the line is the bytes before its LF, and the LF
pub line-is : (letter : ℕ) (ns : List ℕ) → line letter ns ≡ ended letter ns ++ (lf ∷ [])
line-is letter ns = ap (λ (x : List ℕ). letter ∷ x) (sym (append_assoc (behind_commas ns) (cr ∷ []) (lf ∷ [])))

pub line_taken : (t : Import) (letter : ℕ) (ns rest : List ℕ) → lf < letter → AllPlain ns
    → read_from taken t [] (line letter ns ++ rest) ≡ read_from taken (taken t (ended letter ns)) [] rest
line_taken t letter ns rest low p =
    let s = ended letter ns in
    ap (λ (x : List ℕ). read_from taken t [] (x ++ rest)) (line-is letter ns)
    ∙ ap (read_from taken t []) (append_assoc s (lf ∷ []) rest)
    ∙ first-line taken t [] s rest (line_clear letter ns low p)
