-- Import after export: the lines of a log that is not refused say that very log.
-- Assumes nothing.
use Prim.Native.Nat.{ℕ, zero, suc, ◌+◌, ◌-◌, ◌*◌, ◌≤◌, ◌<◌}
use native.Mathlib.Omega.{arith}
use Rattle.std.specs.Prelude.{Ok}
use mathlib.Core.Path.{◌≡◌, refl, sym, ap, ap₂, ◌∙◌}
use mathlib.Core.Bool.{true}
use mathlib.Core.List.{List, [], ◌++◌, append_assoc, append-nil}
use lib.Dec.{eqb}
use lib.ListN.{length, get_or, take}
use lib.Seq.{take-add, take_all, length-take-le}
use borrow.Author.Tests.{ne_eqb, eqb-true}
use Rattle.rules.proofs.Tests.{both_true}
use Rattle.gate.specs.Shown.{table}
use Rattle.text.specs.Text.{lf, next_count}
use Rattle.lines.specs.Lines.{max_line}
use Rattle.lines.specs.Input.{read_from}
use Rattle.layout.specs.Bytes.{byte_at}
use Rattle.layout.specs.Layout.{max_log, mark, version_at, tables_at, size_at, row_size, record_size}
use Rattle.layout.specs.Tables.{version_in, clusters_in, clients_in}
use Rattle.layout.proofs.Again.{bytes-from}
use Rattle.logs.specs.Reading.{whole, whole_end, whole_of}
use Rattle.logs.proofs.Openings.{Opens, opens}
use Rattle.logs.proofs.Wholes.{whole_is}
use Rattle.items.specs.Items.{head_form, sizes_form, row_form, record_form, head_fits, item_size, item_bytes}
use Rattle.items.specs.Items.{numbers_at}
use Rattle.items.specs.Lines.{head_letter, sizes_letter, row_letter, record_letter, line, lines_at}
use Rattle.items.specs.Lines.{sizes_line, row_lines, record_lines, lines_of}
use Rattle.items.specs.Room.{most_numbers}
use Rattle.items.proofs.Sizes.{head-size, sizes-size, record-size, head-most, sizes-most}
use Rattle.items.proofs.Bytes.{item-again}
use Rattle.items.proofs.Fits.{Widths, head-widths, sizes-widths, row-widths, record-widths, numbers_fit, fit-plain}
use Rattle.importing.specs.declared.Stage.TheVariants.{Sizes, Items}
use Rattle.importing.specs.Sheets.{sheet, Import, import, kept, none_read, numbers_of, taken}
use Rattle.importing.specs.Importing.{log, said, says_of}
use Rattle.undoing.proofs.Heads.{headed, head-version, head-clusters, head-clients, head-line}
use Rattle.undoing.proofs.Heads.{record-most, one_more}
use Rattle.undoing.proofs.Written.{ended, numbers-read, line_taken}

-- one more line for each
abbrev counts : ℕ → ℕ → ℕ
counts zero n = n
counts (suc j) n = next_count (counts j n)

module _ (l : List ℕ) (small : (i : ℕ) → byte_at l i < 256) (short : length l ≤ max_log) where
  -- THE LOG UP TO A PLACE

  kept-first : (n : ℕ) → n ≤ length l → kept (take n l) ≡ take n l
  kept-first n h = take_all (suc max_log) (take n l) (omega (arith, length-take-le n l h))

  -- with the item that stands there
  item_on : (form : List ℕ) (at end : ℕ) → end ≡ at + item_size form → end ≤ length l
      → kept (take at l ++ item_bytes form (numbers_at form l at)) ≡ take end l
  item_on form at end e h =
      ap (λ (x : List ℕ). kept (take at l ++ x)) (item-again l small form at (omega arith))
      ∙ ap kept (sym (take-add at (item_size form) l) ∙ ap (λ (n : ℕ). take n l) (sym e))
      ∙ kept-first end h

  -- A LINE

  -- the numbers of an item, as its line says them
  item-numbers : (letter : ℕ) (form : List ℕ) (at : ℕ) → Widths form → most_numbers form < max_line
      → numbers_of letter (ended letter (numbers_at form l at)) ≡ numbers_at form l at
  item-numbers letter form at ws few =
      numbers-read letter form (numbers_at form l at) ws (numbers_fit l small form at ws) few

  line_on : (t : Import) (letter : ℕ) (form : List ℕ) (at : ℕ) (rest : List ℕ) → lf < letter → Widths form
      → read_from taken t [] (line letter (numbers_at form l at) ++ rest)
      ≡ read_from taken (taken t (ended letter (numbers_at form l at))) [] rest
  line_on t letter form at rest low ws =
      line_taken t letter (numbers_at form l at) rest low
      (fit-plain form (numbers_at form l at) ws (numbers_fit l small form at ws))

  -- a row, while rows are to come
  row-taken : (n v k r at : ℕ) → at + row_size ≤ length l
      → taken (import (sheet Items n v k (suc r)) (take at l)) (ended row_letter (numbers_at row_form l at))
      ≡ import (sheet Items (next_count n) v k r) (take (at + row_size) l)
  unfolding taken
  row-taken n v k r at h =
      let one : suc r - 1 ≡ r = omega arith in
      rw (
        ne_eqb (suc r) 0 (λ e. omega arith),
        item-numbers row_letter row_form at row-widths (omega arith),
        numbers_fit l small row_form at row-widths,
        one,
      ) (ap (import (sheet Items (next_count n) v k r)) (item_on row_form at (at + row_size) refl h))

  -- a record, once there are none
  record-taken : (n v k at : ℕ) → at + record_size v ≤ length l
      → taken (import (sheet Items n v k 0) (take at l)) (ended record_letter (numbers_at (record_form v) l at))
      ≡ import (sheet Items (next_count n) v k 0) (take (at + record_size v) l)
  unfolding taken
  record-taken n v k at h =
      let size : at + record_size v ≡ at + item_size (record_form v) = omega (arith, record-size v) in
      rw (
        item-numbers record_letter (record_form v) at (record-widths v) (record-most v),
        numbers_fit l small (record_form v) at (record-widths v),
      ) (ap (import (sheet Items (next_count n) v k 0)) (item_on (record_form v) at (at + record_size v) size h))

  -- LINES

  rows_on : (j n v k r at : ℕ) (rest : List ℕ) → at + row_size * j ≤ length l
      → read_from taken (import (sheet Items n v k (r + j)) (take at l)) []
      (lines_at row_letter row_form l at j ++ rest)
      ≡ read_from taken (import (sheet Items (counts j n) v k r) (take (at + row_size * j) l)) [] rest
  rows_on zero n v k r at rest h =
      let none : r + 0 ≡ r = omega arith in
      let same : at ≡ at + row_size * 0 = omega arith in
      ap₂ (λ (x p : ℕ). read_from taken (import (sheet Items n v k x) (take p l)) [] rest) none same
  rows_on (suc j) n v k r at rest h =
      let this = at + row_size * j in
      let last = line row_letter (numbers_at row_form l this) in
      let more : r + suc j ≡ suc r + j = omega arith in
      let next : this + row_size ≡ at + row_size * suc j = omega arith in
      let state = import (sheet Items (counts j n) v k (suc r)) (take this l) in
      ap₂ (λ (x : ℕ) (y : List ℕ). read_from taken (import (sheet Items n v k x) (take at l)) [] y) more
      (append_assoc (lines_at row_letter row_form l at j) last rest)
      ∙ rows_on j n v k (suc r) at (last ++ rest) (omega arith)
      ∙ line_on state row_letter row_form this rest (omega arith) row-widths
      ∙ ap (λ (t : Import). read_from taken t [] rest) (row-taken (counts j n) v k r this (omega arith))
      ∙ ap (λ (p : ℕ). read_from taken (import (sheet Items (counts (suc j) n) v k r) (take p l)) [] rest) next

  records-on : (j n v k at : ℕ) (rest : List ℕ) → at + record_size v * j ≤ length l
      → read_from taken (import (sheet Items n v k 0) (take at l)) []
      (lines_at record_letter (record_form v) l at j ++ rest)
      ≡ read_from taken (import (sheet Items (counts j n) v k 0) (take (at + record_size v * j) l)) [] rest
  records-on zero n v k at rest h =
      let same : at ≡ at + record_size v * 0 = omega arith in
      ap (λ (p : ℕ). read_from taken (import (sheet Items n v k 0) (take p l)) [] rest) same
  records-on (suc j) n v k at rest h =
      let this = at + record_size v * j in
      let place : at + item_size (record_form v) * j ≡ this = ap (λ (x : ℕ). at + x * j) (record-size v) in
      let last = line record_letter (numbers_at (record_form v) l (at + item_size (record_form v) * j)) in
      let next : this + record_size v ≡ at + record_size v * suc j = one_more v at j in
      let state = import (sheet Items (counts j n) v k 0) (take this l) in
      ap (read_from taken (import (sheet Items n v k 0) (take at l)) [])
      (append_assoc (lines_at record_letter (record_form v) l at j) last rest)
      ∙ records-on j n v k at (last ++ rest) (omega (arith, next))
      ∙ ap (λ (p : ℕ). read_from taken state [] (line record_letter (numbers_at (record_form v) l p) ++ rest)) place
      ∙ line_on state record_letter (record_form v) this rest (omega arith) (record-widths v)
      ∙ ap (λ (t : Import). read_from taken t [] rest) (record-taken (counts j n) v k this (omega (arith, next)))
      ∙ ap (λ (p : ℕ). read_from taken (import (sheet Items (counts (suc j) n) v k 0) (take p l)) [] rest) next

  -- THE HEADER AND THE SIZES

  module _ (start : ℕ) (o : Opens l start) where
    abbrev v : ℕ
    v = version_in l

    abbrev k : ℕ
    k = clusters_in l

    mark-first : mark ≡ take version_at l
    unfolding table
    mark-first =
        let m = both_true (eqb (byte_at l 0) (byte_at mark 0)) _ o.head.mark in
        let n = both_true (eqb (byte_at l 1) (byte_at mark 1)) (eqb (byte_at l 2) (byte_at mark 2)) m.1 in
        let g : byte_at l 0 ≡ 71 = eqb-true (byte_at l 0) 71 m.0 in
        let t : byte_at l 1 ≡ 84 = eqb-true (byte_at l 1) 84 n.0 in
        let e : byte_at l 2 ≡ 76 = eqb-true (byte_at l 2) 76 n.1 in
        sym (rw (bytes-from l 0 version_at (omega (arith, o.head.long)), g, t, e))

    head-fits : head_fits (headed l) ≡ true
    unfolding head_fits
    head-fits =
        rw (head-version l, o.head.version) (numbers_fit l small (head_form v) version_at (head-widths v))

    -- its bytes, whatever header they say
    headed-as : ℕ → ℕ → ℕ → List ℕ → Import
    headed-as x y z before =
        import (sheet Sizes (next_count 0) x y z) (kept (before ++ item_bytes (head_form x) (headed l)))

    head-taken : taken none_read (ended head_letter (headed l))
        ≡ import (sheet Sizes (next_count 0) v k (clients_in l)) (take (tables_at v) l)
    unfolding headed-as
    head-taken =
        let fits : tables_at v ≤ length l = omega (arith, o.at, o.fits) in
        let ns = headed l in
        head-line (ended head_letter ns) ns
        (item-numbers head_letter (head_form v) version_at (head-widths v) (omega (arith, head-most v))) head-fits
        ∙ ap (λ (x : ℕ). headed-as x (get_or ns 1 0) (get_or ns 2 0) mark) (head-version l)
        ∙ ap (λ (x : ℕ). headed-as v x (get_or ns 2 0) mark) (head-clusters l)
        ∙ ap (λ (x : ℕ). headed-as v k x mark) (head-clients l)
        ∙ ap (headed-as v k (clients_in l)) mark-first
        ∙ ap (import (sheet Sizes (next_count 0) v k (clients_in l)))
        (item_on (head_form v) version_at (tables_at v) (sym (head-size v)) fits)

    sizes-taken : (n r : ℕ)
        → taken (import (sheet Sizes n v k r) (take (tables_at v) l))
        (ended sizes_letter (numbers_at (sizes_form k) l (tables_at v)))
        ≡ import (sheet Items (next_count n) v k r) (take (size_at v k) l)
    unfolding taken
    sizes-taken n r =
        let fits : size_at v k ≤ length l = omega (arith, o.at, o.fits) in
        let size : size_at v k ≡ tables_at v + item_size (sizes_form k) = omega (arith, sizes-size k) in
        let few : most_numbers (sizes_form k) < max_line = omega (arith, sizes-most k, small 5) in
        rw (
          item-numbers sizes_letter (sizes_form k) (tables_at v) (sizes-widths k) few,
          numbers_fit l small (sizes_form k) (tables_at v) (sizes-widths k),
        ) (ap (import (sheet Items (next_count n) v k r))
        (item_on (sizes_form k) (tables_at v) (size_at v k) size fits))

    -- THE WHOLE LOG

    all-taken : whole_end l start ≡ length l → says_of (lines_of l start) ≡ log l
    unfolding says_of lines_of
    all-taken end =
        let n = clients_in l in
        let c = next_count (next_count 0) in
        let at = size_at v k in
        let records = record_lines l start (whole l start) in
        let rows = row_lines l ++ records in
        let none : n ≡ 0 + n = omega arith in
        let sized = import (sheet Sizes (next_count 0) v k n) (take (tables_at v) l) in
        let last = import (sheet Items (counts (whole l start) (counts n c)) v k 0) (take (whole_end l start) l) in
        ap said (line_on none_read head_letter (head_form v) version_at (sizes_line l ++ rows) (omega arith)
        (head-widths v)
        ∙ ap (λ (t : Import). read_from taken t [] (sizes_line l ++ rows)) head-taken
        ∙ line_on sized sizes_letter (sizes_form k) (tables_at v) rows (omega arith) (sizes-widths k)
        ∙ ap (λ (t : Import). read_from taken t [] rows) (sizes-taken (next_count 0) n)
        ∙ ap (λ (m : ℕ). read_from taken (import (sheet Items c v k m) (take at l)) [] rows) none
        ∙ rows_on n c v k 0 at records (omega (arith, o.at, o.fits))
        ∙ ap (λ (p : ℕ). read_from taken (import (sheet Items (counts n c) v k 0) (take p l)) [] records) (sym o.at)
        ∙ ap (read_from taken (import (sheet Items (counts n c) v k 0) (take start l)) []) (sym (append-nil records))
        ∙ records-on (whole l start) (counts n c) v k start [] (omega (arith, end)))
        ∙ ap log (take_all (whole_end l start) l (omega (arith, end)))

-- For every log of bytes that is not refused, in each version, records answered 18 included.
pub says-again : (l : List ℕ) → ((i : ℕ) → byte_at l i < 256) → (start : ℕ) → whole_of l ≡ Ok start
    → says_of (lines_of l start) ≡ log l
says-again l small start e =
    let w = whole_is l start e in
    let o = opens l start w.0 in
    all-taken l small o.head.short start o w.1
