-- One more line `Z`, `C` or `E`: what showed before still shows, and the line with it.
-- Assumes nothing.
use Prim.Native.Nat.{ℕ, zero, suc, ◌+◌, ◌-◌, ◌*◌, ◌≤◌, ◌<◌}
use native.Mathlib.Omega.{arith}
use mathlib.Core.Path.{◌≡◌, refl, sym, ap, ap₂, ◌∙◌}
use mathlib.Core.Bool.{true}
use mathlib.Core.List.{List, [], ◌∷◌, ◌++◌, append_assoc, append-nil}
use lib.ListN.{length, length-append}
use Rattle.text.specs.Text.{lf}
use Rattle.lines.specs.Lines.{fit_in}
use Rattle.lines.proofs.Widths.{fit_length}
use Rattle.layout.specs.Layout.{header_size, tables_at, size_at, row_size, record_size}
use Rattle.layout.specs.Tables.{version_in, clusters_in}
use Rattle.layout.proofs.Lengths.{header-low}
use Rattle.items.specs.Items.{sizes_form, row_form, record_form, item_size, item_bytes, numbers_at}
use Rattle.items.specs.Lines.{sizes_letter, row_letter, record_letter, line, lines_at, head_line, sizes_line}
use Rattle.items.proofs.Sizes.{sizes-size, record-size}
use Rattle.items.proofs.Bytes.{length-item}
use Rattle.items.proofs.Fits.{sizes-widths, row-widths, record-widths}
use Rattle.importing.specs.declared.Stage.TheVariants.{Items}
use Rattle.importing.specs.declared.Sheet.{Sheet}
use Rattle.importing.specs.Sheets.{sheet, numbers_of}
use Rattle.undoing.proofs.Heads.{one_more}
use Rattle.undoing.proofs.Before.{version-before, clusters-before, clients-before, head-before, sizes-before}
use Rattle.undoing.proofs.Before.{lines-before, last-item}
use Rattle.undoing.proofs.Shown.{rows_end, items_end, item_lines, lines_so_far, ShowsHead, ShowsItems, fit_line}

-- THE LINE Z

module _ (s : Sheet) (l text ns : List ℕ) (shows : ShowsHead s l text)
    (fits : fit_in (sizes_form s.clusters) ns ≡ true) where
  abbrev k : ℕ
  k = clusters_in l

  abbrev form : List ℕ
  form = sizes_form s.clusters

  abbrev after : List ℕ
  after = l ++ item_bytes form ns

  low : header_size ≤ length l
  low = omega (arith, shows.size, header-low (version_in l))

  pub sizes-shown : (n : ℕ) (next : List ℕ) → numbers_of sizes_letter next ≡ ns
      → ShowsItems (sheet Items n s.version s.clusters s.rows) after (text ++ (next ++ (lf ∷ [])))
  sizes-shown n next e =
      let more = item_bytes form ns in
      let v-same = version-before l more low in
      let k-same = clusters-before l more low in
      let long = fit_length form ns fits in
      let grown : length after ≡ tables_at (version_in l) + s.clusters
      = length-append l more ∙ omega (arith, length-item form ns long, sizes-size s.clusters, shows.size) in
      let place : tables_at (version_in after) ≡ length l = ap tables_at v-same ∙ sym shows.size in
      let is : numbers_at (sizes_form (clusters_in after)) after (tables_at (version_in after)) ≡ ns
      = ap (λ (x : ℕ). numbers_at (sizes_form x) after (tables_at (version_in after)))
      (k-same ∙ sym shows.clusters)
      ∙ last-item form ns l (tables_at (version_in after)) long place in
      record {
        i = 0;
        j = 0;
        version = shows.version ∙ sym v-same;
        clusters = shows.clusters ∙ sym k-same;
        rows = omega (arith, shows.rows, clients-before l more low);
        full = λ some. absurd (omega arith);
        size = grown ∙ omega (arith, shows.clusters, k-same, ap tables_at v-same);
        lines =
            ap₂ (λ (x y : List ℕ). x ++ y)
            (shows.lines ∙ sym (head-before l more low (omega (arith, shows.size))))
            (fit_line sizes_letter form next ns (sizes-widths s.clusters) e fits
            ∙ ap (line sizes_letter) (sym is)
            ∙ sym (append-nil (sizes_line after)));
      }

-- LINES C AND E

module _ (s : Sheet) (l text : List ℕ) (shows : ShowsItems s l text) where
  abbrev i : ℕ
  i = shows.i

  abbrev j : ℕ
  j = shows.j

  low-items : header_size ≤ length l
  low-items = omega (arith, shows.size, header-low (version_in l))

  -- what stands before more bytes
  module _ (more : List ℕ) where
    all : List ℕ
    all = l ++ more

    lines_same : lines_so_far (l ++ more) i j ≡ lines_so_far l i j
    lines_same =
        let v = version_in l in
        let at = size_at v (clusters_in l) in
        let v-same = version-before l more low-items in
        let k-same = clusters-before l more low-items in
        let records : item_size (record_form v) * j ≡ record_size v * j = ap (λ (x : ℕ). x * j) (record-size v) in
        ap₂ (λ (x y : List ℕ). x ++ y) (head-before l more low-items (omega (arith, shows.size)))
        (ap₂ (λ (x y : List ℕ). x ++ y) (sizes-before l more low-items (omega (arith, shows.size)))
        (ap₂ (λ (x z : ℕ). lines_at row_letter row_form (l ++ more) (size_at x z) i
        ++ lines_at record_letter (record_form x) (l ++ more) (size_at x z + row_size * i) j) v-same k-same
        ∙ ap₂ (λ (x y : List ℕ). x ++ y)
        (lines-before l more row_letter row_form at i (omega (arith, shows.size)))
        (lines-before l more record_letter (record_form v) (rows_end l i) j (omega (arith, shows.size, records)))))

  -- the last lines and one more
  line-behind : (a b c x : List ℕ) → (a ++ (b ++ c)) ++ x ≡ a ++ (b ++ (c ++ x))
  line-behind a b c x = append_assoc a (b ++ c) x ∙ ap (λ (y : List ℕ). a ++ y) (append_assoc b c x)

  -- a row: no record was read yet
  pub row-shown : (ns : List ℕ) → fit_in row_form ns ≡ true → 0 < s.rows → (n : ℕ) (next : List ℕ)
      → numbers_of row_letter next ≡ ns
      → ShowsItems (sheet Items n s.version s.clusters (s.rows - 1)) (l ++ item_bytes row_form ns)
      (text ++ (next ++ (lf ∷ [])))
  row-shown ns fits some n next e =
      let more = item_bytes row_form ns in
      let after = l ++ more in
      let v-same = version-before l more low-items in
      let k-same = clusters-before l more low-items in
      let none : j ≡ 0 = no-records j shows.full in
      let at = size_at (version_in after) (clusters_in after) in
      let long = fit_length row_form ns fits in
      let grown : length after ≡ length l + row_size
      = length-append l more ∙ omega (arith, length-item row_form ns long) in
      let old : length l ≡ rows_end l i = shows.size ∙ no_more none in
      let same : size_at (version_in l) (clusters_in l) ≡ at = ap₂ size_at (sym v-same) (sym k-same) in
      let place : at + row_size * i ≡ length l = omega (arith, old, same) in
      let is : numbers_at row_form after (at + row_size * i) ≡ ns
      = last-item row_form ns l (at + row_size * i) long place in
      record {
        i = suc i;
        j = 0;
        version = shows.version ∙ sym v-same;
        clusters = shows.clusters ∙ sym k-same;
        rows = omega (arith, shows.rows, clients-before l more low-items);
        full = λ z. absurd (omega arith);
        size = omega (arith, grown, old, same);
        lines =
            ap₂ (λ (x y : List ℕ). x ++ y) (shows.lines ∙ sym (lines_same more))
            (fit_line row_letter row_form next ns row-widths e fits ∙ ap (line row_letter) (sym is))
            ∙ line-behind (head_line after) (sizes_line after) (item_lines after i j)
            (line row_letter (numbers_at row_form after (at + row_size * i)))
            ∙ ap (λ (x : ℕ). head_line after ++ (sizes_line after ++ (item_lines after i x
            ++ line row_letter (numbers_at row_form after (at + row_size * i))))) none
            ∙ ap (λ (x : List ℕ). head_line after ++ (sizes_line after ++ x)) (rows-end after);
      }
    where
      no-records : (x : ℕ) → (0 < x → s.rows ≡ 0) → x ≡ 0
      no-records zero f = refl
      no-records (suc x) f = absurd (omega (arith, f (omega arith)))

      no_more : j ≡ 0 → items_end l i j ≡ rows_end l i
      no_more e = ap (λ (x : ℕ). items_end l i x) e ∙ omega arith

      -- no records: the new row is the last line
      rows-end : (b : List ℕ) → let at = size_at (version_in b) (clusters_in b) in
          item_lines b i 0 ++ line row_letter (numbers_at row_form b (at + row_size * i)) ≡ item_lines b (suc i) 0
      rows-end b =
          let at = size_at (version_in b) (clusters_in b) in
          let rows = lines_at row_letter row_form b at i in
          let last = line row_letter (numbers_at row_form b (at + row_size * i)) in
          ap (λ (x : List ℕ). x ++ last) (append-nil rows) ∙ sym (append-nil (rows ++ last))

  -- a record: all rows were read
  pub record-shown : (ns : List ℕ) → fit_in (record_form s.version) ns ≡ true → s.rows ≡ 0 → (n : ℕ) (next : List ℕ)
      → numbers_of record_letter next ≡ ns
      → ShowsItems (sheet Items n s.version s.clusters (s.rows - 1))
      (l ++ item_bytes (record_form s.version) ns)
      (text ++ (next ++ (lf ∷ [])))
  record-shown ns fits none n next e =
      let form = record_form s.version in
      let more = item_bytes form ns in
      let after = l ++ more in
      let v = version_in l in
      let v-same = version-before l more low-items in
      let k-same = clusters-before l more low-items in
      let to : s.version ≡ version_in after = shows.version ∙ sym v-same in
      let long = fit_length form ns fits in
      let size : item_size form ≡ record_size v = record-size s.version ∙ ap record_size shows.version in
      let grown : length after ≡ length l + record_size v
      = length-append l more ∙ omega (arith, length-item form ns long, size) in
      let start : rows_end after i ≡ rows_end l i = ap₂ (λ (x y : ℕ). size_at x y + row_size * i) v-same k-same in
      let sizes : item_size (record_form (version_in after)) ≡ record_size v
      = record-size (version_in after) ∙ ap record_size v-same in
      let where-is = rows_end after i + item_size (record_form (version_in after)) * j in
      let place : where-is ≡ length l
      = ap₂ (λ (x y : ℕ). x + y * j) start sizes ∙ sym shows.size in
      let is : numbers_at (record_form (version_in after)) after where-is ≡ ns
      = ap (λ (x : ℕ). numbers_at (record_form x) after where-is) (sym to)
      ∙ last-item form ns l where-is long place in
      let last = line record_letter (numbers_at (record_form (version_in after)) after where-is) in
      let rows = lines_at row_letter row_form after (size_at (version_in after) (clusters_in after)) i in
      let records = lines_at record_letter (record_form (version_in after)) after (rows_end after i) j in
      record {
        i = i;
        j = suc j;
        version = to;
        clusters = shows.clusters ∙ sym k-same;
        rows = omega (arith, shows.rows, clients-before l more low-items, none);
        full = λ z. omega (arith, none);
        size = grown
            ∙ ap (λ (x : ℕ). x + record_size v) shows.size
            ∙ one_more v (rows_end l i) j
            ∙ ap₂ (λ (x y : ℕ). x + record_size y * suc j) (sym start) (sym v-same);
        lines =
            ap₂ (λ (x y : List ℕ). x ++ y) (shows.lines ∙ sym (lines_same more))
            (fit_line record_letter form next ns (record-widths s.version) e fits
            ∙ ap (line record_letter) (sym is))
            ∙ line-behind (head_line after) (sizes_line after) (item_lines after i j) last
            ∙ ap (λ (x : List ℕ). head_line after ++ (sizes_line after ++ x)) (append_assoc rows records last);
      }
