-- What has been read of a text shows in the log that it says: its lines are the text so far.
-- Assumes nothing.
use Prim.Native.Nat.{ℕ, suc, ◌+◌, ◌*◌, ◌≤◌, ◌<◌}
use native.Mathlib.Omega.{arith}
use mathlib.Core.Path.{◌≡◌, refl, sym, ap, ◌∙◌}
use mathlib.Core.Bool.{Bool, true, false}
use mathlib.Core.List.{List, [], ◌∷◌, ◌++◌}
use lib.Dec.{ltb}
use lib.ListN.{length, get_or, length-append}
use lib.Seq.{take_all, length-take-le}
use borrow.Author.Tests.{ltb-true, ltb-false}
use Rattle.rules.specs.Records.{is_version}
use Rattle.rules.proofs.Tests.{by-test, both_true}
use Rattle.text.specs.Text.{lf}
use Rattle.lines.specs.Lines.{fit_in}
use Rattle.lines.proofs.Widths.{fit_length}
use Rattle.layout.specs.Layout.{max_log, mark, version_at, tables_at, size_at, row_size, record_size}
use Rattle.layout.specs.Tables.{version_in, clusters_in, clients_in}
use Rattle.layout.proofs.Lengths.{by-carried}
use Rattle.items.specs.Items.{head_form, row_form, record_form, head_fits, item_bytes, numbers_at}
use Rattle.items.specs.Lines.{head_letter, row_letter, record_letter, line, lines_at, head_line, sizes_line}
use Rattle.items.proofs.Sizes.{head-size}
use Rattle.items.proofs.Bytes.{length-item}
use Rattle.items.proofs.Fits.{Widths, head-widths, fit-plain}
use Rattle.importing.specs.declared.Stage.{Stage}
use Rattle.importing.specs.declared.Stage.TheVariants.{Head, Sizes, Items, Bad}
use Rattle.importing.specs.declared.Sheet.{Sheet}
use Rattle.importing.specs.Sheets.{sheet, Import, kept, numbers_of, taken_as}
use Rattle.undoing.proofs.Written.{numbers-again, line-is}
use Rattle.undoing.proofs.Before.{last-item}

-- THE LINES OF A LOG SO FAR

module _ (l : List ℕ) where
  -- with i rows
  abbrev pub rows_end : ℕ → ℕ
  rows_end i = size_at (version_in l) (clusters_in l) + row_size * i

  -- and j records
  abbrev pub items_end : ℕ → ℕ → ℕ
  items_end i j = rows_end i + record_size (version_in l) * j

  abbrev pub item_lines : ℕ → ℕ → List ℕ
  item_lines i j =
      lines_at row_letter row_form l (size_at (version_in l) (clusters_in l)) i
      ++ lines_at record_letter (record_form (version_in l)) l (rows_end i) j

  abbrev pub lines_so_far : ℕ → ℕ → List ℕ
  lines_so_far i j = head_line l ++ (sizes_line l ++ item_lines i j)

-- WHAT SHOWS

module _ (s : Sheet) (l text : List ℕ) where
  -- after the line `S`
  pub record ShowsHead : Type 0 where
    pub version : s.version ≡ version_in l
    pub clusters : s.clusters ≡ clusters_in l
    pub rows : s.rows ≡ clients_in l
    pub size : length l ≡ tables_at (version_in l)
    pub lines : text ≡ head_line l

  -- after the line `Z`, i rows and j records, of which none comes before all rows
  pub record ShowsItems : Type 0 where
    pub i : ℕ
    pub j : ℕ
    pub version : s.version ≡ version_in l
    pub clusters : s.clusters ≡ clusters_in l
    pub rows : s.rows + i ≡ clients_in l
    pub full : 0 < j → s.rows ≡ 0
    pub size : length l ≡ items_end l i j
    pub lines : text ≡ lines_so_far l i j

-- by the stage; nothing after a bad line, or once the log is too long
abbrev pub ShowsIn : Stage → Sheet → List ℕ → List ℕ → Type 0
ShowsIn Head s l text = (l ≡ mark) × (text ≡ [])
ShowsIn Sizes s l text = ShowsHead s l text
ShowsIn Items s l text = ShowsItems s l text
ShowsIn Bad s l text = Unit {0}

abbrev pub Shows : Import → List ℕ → Type 0
Shows t text = length t.bytes ≤ max_log → ShowsIn t.sheet.stage t.sheet t.bytes text

-- ONE MORE LINE

-- a log that is not too long was not cut
unkept : (l : List ℕ) → length (kept l) ≤ max_log → kept l ≡ l
unkept l h =
    by-test (ltb max_log (length l))
    (λ y. let more = length-take-le (suc max_log) l (omega (arith, ltb-true max_log (length l) y)) in
    absurd (omega (arith, more)))
    (λ y. take_all (suc max_log) l (omega (arith, ltb-false max_log (length l) y)))

-- a line whose numbers fit, with its LF
pub fit_line : (letter : ℕ) (form s ns : List ℕ) → Widths form → numbers_of letter s ≡ ns → fit_in form ns ≡ true
    → s ++ (lf ∷ []) ≡ line letter ns
fit_line letter form s ns ws e y =
    ap (λ (x : List ℕ). x ++ (lf ∷ [])) (numbers-again letter s ns e (fit-plain form ns ws y)) ∙ sym (line-is letter ns)

-- what a line leaves: if it fits, and the log is not too long with it, what holds of that log
pub takes : (fits : Bool) (form ns : List ℕ) (next : Sheet) (l text : List ℕ)
    → (fits ≡ true → length (l ++ item_bytes form ns) ≤ max_log
    → ShowsIn next.stage next (l ++ item_bytes form ns) text)
    → Shows (taken_as fits form ns next l) text
takes true form ns next l text f h =
    let same = unkept (l ++ item_bytes form ns) h in
    let short : length (l ++ item_bytes form ns) ≤ max_log = omega (arith, ap length same) in
    rw same (f refl short)
takes false form ns next l text f h = tt

-- THE LINE S

-- numbers of a header that stand behind the mark
module _ (ns : List ℕ) (y : head_fits ns ≡ true) where
  abbrev v : ℕ
  v = get_or ns 0 0

  abbrev header : List ℕ
  header = mark ++ item_bytes (head_form v) ns

  fits : fit_in (head_form v) ns ≡ true
  unfolding head_fits
  fits = (both_true (is_version v) (fit_in (head_form v) ns) y).1

  long : length (head_form v) ≡ length ns
  long = fit_length (head_form v) ns fits

  back : numbers_at (head_form v) header version_at ≡ ns
  back = last-item (head_form v) ns mark version_at long refl

  is-version : v ≡ version_in header
  is-version =
      sym (ap (λ (x : List ℕ). get_or x 0 0) back)
      ∙ by-carried v (λ t r. rw (r, t)) (λ t r. rw (r, t)) (λ t r. rw r)

  is-clusters : get_or ns 1 0 ≡ clusters_in header
  is-clusters =
      sym (ap (λ (x : List ℕ). get_or x 1 0) back)
      ∙ by-carried v (λ t r. rw (r, t)) (λ t r. rw (r, t)) (λ t r. rw r)

  is-clients : get_or ns 2 0 ≡ clients_in header
  is-clients =
      sym (ap (λ (x : List ℕ). get_or x 2 0) back)
      ∙ by-carried v (λ t r. rw (r, t)) (λ t r. rw (r, t)) (λ t r. rw r)

  pub head-shown : (n : ℕ) (s : List ℕ) → numbers_of head_letter s ≡ ns
      → ShowsHead (sheet Sizes n v (get_or ns 1 0) (get_or ns 2 0)) header ([] ++ (s ++ (lf ∷ [])))
  head-shown n s e = record {
    version = is-version;
    clusters = is-clusters;
    rows = is-clients;
    size = length-append mark (item_bytes (head_form v) ns)
        ∙ omega (arith, length-item (head_form v) ns long, head-size v)
        ∙ ap tables_at is-version;
    lines = fit_line head_letter (head_form v) s ns (head-widths v) e fits
        ∙ ap (line head_letter) (sym back)
        ∙ ap (λ (x : ℕ). line head_letter (numbers_at (head_form x) header version_at)) is-version;
  }
