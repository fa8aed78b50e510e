-- The log that a text says is one of bytes.
-- Assumes nothing.
use Prim.Native.Nat.{ℕ, zero, suc, ◌-◌, ◌/◌, ◌%◌, ◌≤◌, ◌<◌}
use native.Mathlib.Omega.{arith}
use mathlib.Core.Path.{◌≡◌, refl, subst}
use mathlib.Core.Bool.{Bool, true, false, cond}
use mathlib.Core.List.{List, [], ◌∷◌, ◌++◌}
use lib.Dec.{eqb, ltb}
use lib.ListN.{length, get_or, take, length-take, get_or-eq_default}
use lib.Seq.{get_or-take}
use borrow.Author.Tests.{ltb-true, ltb-false}
use Rattle.rules.specs.Records.{is_version}
use Rattle.rules.proofs.Tests.{by-test, both_true}
use Rattle.text.specs.Text.{lf, bits8, bits16, bits32, next_count}
use Rattle.lines.specs.Lines.{fit_in}
use Rattle.lines.specs.Input.{read_from}
use Rattle.layout.specs.Bytes.{byte_at}
use Rattle.layout.specs.Layout.{mark}
use Rattle.items.specs.Items.{head_form, sizes_form, row_form, record_form, head_fits, by_width, number_bytes}
use Rattle.items.specs.Items.{item_bytes}
use Rattle.items.proofs.Numbers.{of_width}
use Rattle.items.proofs.Fits.{Widths, head-widths, sizes-widths, row-widths, record-widths, fit-both}
use Rattle.importing.specs.declared.Stage.{Stage}
use Rattle.importing.specs.declared.Stage.TheVariants.{Head, Sizes, Items, Bad}
use Rattle.importing.specs.declared.Sheet.{Sheet}
use Rattle.importing.specs.Sheets.{sheet, Import, import, kept, none_read, numbers_of, taken_as}
use Rattle.importing.specs.Sheets.{letter_in, taken_in, taken}
use Rattle.importing.specs.Importing.{log, is_begun, says_of}
use Rattle.undoing.proofs.Imported.{says-log}

-- BYTES

abbrev pub Small : List ℕ → Type 0
Small l = (i : ℕ) → byte_at l i < 256

small-none : Small []
small-none zero = omega arith
small-none (suc i) = omega arith

small-cons : (b : ℕ) (l : List ℕ) → b < 256 → Small l → Small (b ∷ l)
small-cons b l h small zero = h
small-cons b l h small (suc i) = small i

small-append : (a b : List ℕ) → Small a → Small b → Small (a ++ b)
small-append [] b h k = k
small-append (x ∷ a) b h k = small-cons x (a ++ b) (h 0) (small-append a b (λ i. h (suc i)) k)

small-kept : (l : List ℕ) → Small l → Small (kept l)
small-kept l h i =
    by-test (ltb i 65537)
    (λ y. let same = get_or-take 65537 l i 0 (ltb-true i 65537 y) in omega (arith, h i))
    (λ y. let long = length-take 65537 l in
    let past : length (take 65537 l) ≤ i = omega (arith, ltb-false i 65537 y) in
    let none = get_or-eq_default (take 65537 l) 0 past in omega arith)

-- THE BYTES OF AN ITEM

small-number : (w n : ℕ) → n ≤ by_width w bits8 bits16 bits32 → Small (number_bytes w n)
small-number w n h =
    of_width w
    (λ t. let low : n ≤ bits8 = rw t at h in rw t (small-cons n [] (omega arith) small-none))
    (λ f t. let low : n ≤ bits16 = rw (f, t) at h in
    rw (f, t) (small-cons (n % 256) (n / 256 ∷ []) (omega arith) (small-cons (n / 256) [] (omega arith) small-none)))
    (λ f g. let most : n ≤ bits32 = rw (f, g) at h in
    let a = n % 65536 in
    let b = n / 65536 in
    let low = small-cons (b % 256) (b / 256 ∷ []) (omega arith) (small-cons (b / 256) [] (omega arith) small-none) in
    rw (f, g) (small-cons (a % 256) (a / 256 ∷ b % 256 ∷ b / 256 ∷ []) (omega arith)
    (small-cons (a / 256) (b % 256 ∷ b / 256 ∷ []) (omega arith) low)))

small-item : (form ns : List ℕ) → Widths form → fit_in form ns ≡ true → Small (item_bytes form ns)
small-item [] ns ws y = small-none
small-item (w ∷ form) [] ws y = small-none
small-item (w ∷ form) (n ∷ ns) ws y =
    let b = fit-both w n form ns y in
    small-append (number_bytes w n) (item_bytes form ns) (small-number w n (omega (arith, b.0, ws.0)))
    (small-item form ns ws.1 b.1)

-- LINE BY LINE

small-as : (fits : Bool) (form ns : List ℕ) (next : Sheet) (l : List ℕ) → Widths form
    → (fits ≡ true → fit_in form ns ≡ true) → Small l → Small (taken_as fits form ns next l).bytes
small-as true form ns next l ws y h =
    small-kept (l ++ item_bytes form ns) (small-append l (item_bytes form ns) h (small-item form ns ws (y refl)))
small-as false form ns next l ws y h = h

head-fit : (ns : List ℕ) → head_fits ns ≡ true → fit_in (head_form (get_or ns 0 0)) ns ≡ true
unfolding head_fits
head-fit ns y = (both_true (is_version (get_or ns 0 0)) (fit_in (head_form (get_or ns 0 0)) ns) y).1

-- a record's, or a row's
small-items : (b : Bool) (v : ℕ) (next : Sheet) (l ns : List ℕ) → Small l
    → let form = cond b (record_form v) row_form in Small (taken_as (fit_in form ns) form ns next l).bytes
small-items true v next l ns h =
    small-as (fit_in (record_form v) ns) (record_form v) ns next l (record-widths v) (λ y. y) h
small-items false v next l ns h = small-as (fit_in row_form ns) row_form ns next l row-widths (λ y. y) h

small-in : (st : Stage) (s : Sheet) (l ns : List ℕ) → Small l → Small (taken_in st s l ns).bytes
small-in Head s l ns h =
    small-as (head_fits ns) (head_form (get_or ns 0 0)) ns
    (sheet Sizes s.lines (get_or ns 0 0) (get_or ns 1 0) (get_or ns 2 0)) l (head-widths (get_or ns 0 0))
    (head-fit ns) h
small-in Sizes s l ns h =
    let form = sizes_form s.clusters in
    small-as (fit_in form ns) form ns (sheet Items s.lines s.version s.clusters s.rows) l
    (sizes-widths s.clusters) (λ y. y) h
small-in Items s l ns h =
    small-items (eqb s.rows 0) s.version (sheet Items s.lines s.version s.clusters (s.rows - 1)) l ns h
small-in Bad s l ns h = h

small_by : (st : Stage) (n v k r : ℕ) (l line : List ℕ) → Small l
    → Small (taken (import (sheet st n v k r) l) line).bytes
unfolding taken
small_by Head n v k r l line h =
    small-in Head (sheet Head (next_count n) v k r) l (numbers_of (letter_in Head r) line) h
small_by Sizes n v k r l line h =
    small-in Sizes (sheet Sizes (next_count n) v k r) l (numbers_of (letter_in Sizes r) line) h
small_by Items n v k r l line h =
    small-in Items (sheet Items (next_count n) v k r) l (numbers_of (letter_in Items r) line) h
small_by Bad n v k r l line h = h

small-taken : (t : Import) (line : List ℕ) → Small t.bytes → Small (taken t line).bytes
small-taken t line h =
    let x = t.sheet in small_by x.stage x.lines x.version x.clusters x.rows t.bytes line h

small-read : (s : List ℕ) (t : Import) (begun : List ℕ) → Small t.bytes
    → Small (read_from taken t begun s).state.bytes
small-read [] t begun h = h
small-read (b ∷ s) t begun h =
    by-test (eqb b lf)
    (λ y. rw y (small-read s (taken t begun) [] (small-taken t begun h)))
    (λ y. rw y (small-read s t (begun ++ (b ∷ [])) h))

mark-small : Small mark
mark-small =
    small-cons 71 (84 ∷ 76 ∷ []) (omega arith) (small-cons 84 (76 ∷ []) (omega arith)
    (small-cons 76 [] (omega arith) small-none))

pub says-small : (s l : List ℕ) → says_of s ≡ log l → Small l
unfolding says_of
says-small s l e =
    let r = read_from taken none_read [] s in
    let x = says-log r.state.sheet.stage r.state (is_begun r.rest) l e in
    subst Small x.bytes (small-read s none_read [] mark-small)
