-- Export after import: the lines of the log that a text says are that very text.
-- Assumes nothing.
use Prim.Native.Nat.{ℕ, ◌+◌, ◌-◌, ◌*◌, ◌/◌, ◌≤◌}
use native.Mathlib.Omega.{arith}
use Rattle.std.specs.Prelude.{Ok}
use mathlib.Core.Path.{◌≡◌, refl, sym, ap, ap₂, ◌∙◌, subst}
use mathlib.Core.Bool.{Bool, true, false, not, ◌||◌, cond}
use mathlib.Core.List.{List, [], ◌∷◌, ◌++◌, append_assoc, append-nil}
use lib.Dec.{eqb}
use lib.ListN.{length, get_or, length-append}
use borrow.Author.Tests.{eqb-true, eqb-false, not-false}
use Rattle.rules.proofs.Tests.{by-test, both_false}
use Rattle.text.specs.Text.{lf, next_count}
use Rattle.lines.specs.Lines.{fit_in}
use Rattle.lines.specs.Input.{read_from}
use Rattle.layout.specs.Layout.{max_log, mark, carries_ranks, record_size, records_at}
use Rattle.layout.specs.Tables.{version_in, clusters_in, clients_in}
use Rattle.logs.specs.Reading.{whole, whole_of}
use Rattle.logs.proofs.Openings.{opens}
use Rattle.logs.proofs.Wholes.{whole_is}
use Rattle.items.specs.Items.{head_form, sizes_form, row_form, record_form, head_fits, item_bytes}
use Rattle.items.specs.Lines.{head_letter, sizes_letter, row_letter, record_letter}
use Rattle.items.specs.Lines.{head_line, sizes_line, row_lines, record_lines, lines_of}
use Rattle.importing.specs.declared.Stage.{Stage}
use Rattle.importing.specs.declared.Stage.TheVariants.{Head, Sizes, Items, Bad}
use Rattle.importing.specs.Sheets.{sheet, Import, import, none_read, numbers_of, taken_as, taken}
use Rattle.importing.specs.Importing.{log, bad, said_in, is_begun, says_of}
use Rattle.undoing.proofs.Shown.{lines_so_far, items_end, ShowsHead, ShowsItems, ShowsIn, Shows}
use Rattle.undoing.proofs.Shown.{takes, head-shown}
use Rattle.undoing.proofs.Grown.{sizes-shown, row-shown, record-shown}

-- ONE MORE LINE

shorter : (l more : List ℕ) → length (l ++ more) ≤ max_log → length l ≤ max_log
shorter l more h = omega (arith, length-append l more)

-- the header's: nothing but the mark was there
head-grown : (ns : List ℕ) → head_fits ns ≡ true → (n : ℕ) (s l text : List ℕ) → numbers_of head_letter s ≡ ns
    → l ≡ mark → text ≡ []
    → ShowsHead (sheet Sizes n (get_or ns 0 0) (get_or ns 1 0) (get_or ns 2 0))
    (l ++ item_bytes (head_form (get_or ns 0 0)) ns)
    (text ++ (s ++ (lf ∷ [])))
head-grown ns y n s l text e is none = rw (is, none) (head-shown ns y n s e)

-- a record's, or a row's
shows-item : (b : Bool) (n v k r : ℕ) (l text s : List ℕ) → eqb r 0 ≡ b → Shows (import (sheet Items n v k r) l) text
    → let ns = numbers_of (cond b record_letter row_letter) s in
    let form = cond b (record_form v) row_form in
    Shows (taken_as (fit_in form ns) form ns (sheet Items (next_count n) v k (r - 1)) l) (text ++ (s ++ (lf ∷ [])))
shows-item true n v k r l text s b shows =
    let ns = numbers_of record_letter s in
    let form = record_form v in
    takes (fit_in form ns) form ns (sheet Items (next_count n) v k (r - 1)) l (text ++ (s ++ (lf ∷ [])))
    (λ y short. record-shown (sheet Items n v k r) l text (shows (shorter l (item_bytes form ns) short)) ns y
    (eqb-true r 0 b) (next_count n) s refl)
shows-item false n v k r l text s b shows =
    let ns = numbers_of row_letter s in
    takes (fit_in row_form ns) row_form ns (sheet Items (next_count n) v k (r - 1)) l (text ++ (s ++ (lf ∷ [])))
    (λ y short. row-shown (sheet Items n v k r) l text (shows (shorter l (item_bytes row_form ns) short)) ns y
    (omega (arith, eqb-false r 0 b)) (next_count n) s refl)

shows-next : (st : Stage) (n v k r : ℕ) (l text s : List ℕ) → Shows (import (sheet st n v k r) l) text
    → Shows (taken (import (sheet st n v k r) l) s) (text ++ (s ++ (lf ∷ [])))
unfolding taken
shows-next Head n v k r l text s shows =
    let ns = numbers_of head_letter s in
    let next = sheet Sizes (next_count n) (get_or ns 0 0) (get_or ns 1 0) (get_or ns 2 0) in
    takes (head_fits ns) (head_form (get_or ns 0 0)) ns next l (text ++ (s ++ (lf ∷ [])))
    (λ y short. let before = shows (shorter l (item_bytes (head_form (get_or ns 0 0)) ns) short) in
    head-grown ns y (next_count n) s l text refl before.0 before.1)
shows-next Sizes n v k r l text s shows =
    let ns = numbers_of sizes_letter s in
    let form = sizes_form k in
    takes (fit_in form ns) form ns (sheet Items (next_count n) v k r) l (text ++ (s ++ (lf ∷ [])))
    (λ y short. sizes-shown (sheet Sizes n v k r) l text ns (shows (shorter l (item_bytes form ns) short)) y
    (next_count n) s refl)
shows-next Items n v k r l text s shows = shows-item (eqb r 0) n v k r l text s refl shows
shows-next Bad n v k r l text s shows = λ h. tt

next : (t : Import) (text s : List ℕ) → Shows t text → Shows (taken t s) (text ++ (s ++ (lf ∷ [])))
next t text s shows =
    let x = t.sheet in
    shows-next x.stage x.lines x.version x.clusters x.rows t.bytes text s shows

-- ALL LINES

-- a text in two: what shows, and the bytes of a last line
pub record Reads (t : Import) (rest all : List ℕ) : Type 0 where
  pub text : List ℕ
  pub shows : Shows t text
  pub parts : all ≡ text ++ rest

reads : (s : List ℕ) (t : Import) (begun text : List ℕ) → Shows t text
    → Reads (read_from taken t begun s).state (read_from taken t begun s).rest (text ++ (begun ++ s))
reads [] t begun text shows = record {
  text = text;
  shows = shows;
  parts = ap (λ (x : List ℕ). text ++ x) (append-nil begun);
}
reads (b ∷ s) t begun text shows =
    by-test (eqb b lf)
    (λ y. let r = reads s (taken t begun) [] (text ++ (begun ++ (lf ∷ []))) (next t text begun shows) in
    rw y (record {
      text = r.text;
      shows = r.shows;
      parts =
          ap (λ (x : ℕ). text ++ (begun ++ x ∷ s)) (eqb-true b lf y)
          ∙ ap (λ (x : List ℕ). text ++ x) (sym (append_assoc begun (lf ∷ []) s))
          ∙ sym (append_assoc text (begun ++ (lf ∷ [])) s)
          ∙ r.parts;
    }))
    (λ y. let r = reads s t (begun ++ (b ∷ [])) text shows in
    rw y (record {
      text = r.text;
      shows = r.shows;
      parts = ap (λ (x : List ℕ). text ++ x) (sym (append_assoc begun (b ∷ []) s)) ∙ r.parts;
    }))

-- A LOG

pub record SaysLog (st : Stage) (t : Import) (begun : Bool) (l : List ℕ) : Type 0 where
  pub stage : st ≡ Items
  pub none : begun ≡ false
  pub rows : t.sheet.rows ≡ 0
  pub bytes : t.bytes ≡ l

not-log : {X : Type 0} (n : ℕ) (l : List ℕ) → bad n ≡ log l → X
not-log n l e = let z : ◌≡◌ {A = ℕ} 0 1 = cc in absurd (omega arith)

pub says-log : (st : Stage) (t : Import) (begun : Bool) (l : List ℕ) → said_in st t begun ≡ log l → SaysLog st t begun l
says-log Head t begun l e = not-log (next_count t.sheet.lines) l e
says-log Sizes t begun l e = not-log (next_count t.sheet.lines) l e
says-log Items t begun l e =
    by-test (begun || not (eqb t.sheet.rows 0))
    (λ y. not-log (next_count t.sheet.lines) l (rw y at e))
    (λ y. let f = both_false begun (not (eqb t.sheet.rows 0)) y in
    let same : log t.bytes ≡ log l = rw y at e in
    record {
      stage = refl;
      none = f.0;
      rows = eqb-true t.sheet.rows 0 (not-false (eqb t.sheet.rows 0) f.1);
      bytes = cc;
    })
says-log Bad t begun l e = not-log t.sheet.lines l e

nothing : (s : List ℕ) → is_begun s ≡ false → s ≡ []
nothing [] e = refl
nothing (b ∷ s) e = let z : ◌≡◌ {A = Bool} true false = e in let w : ◌≡◌ {A = ℕ} 0 1 = cc in absurd (omega arith)

-- as many records as there are bytes for
all-records : (v n start j : ℕ) → n ≡ start + record_size v * j → j ≡ (n - start) / record_size v
all-records v n start j e =
    by-test (carries_ranks v)
    (λ b. let h : n ≡ start + 7 * j = rw b at e in rw b (omega arith))
    (λ b. let h : n ≡ start + 3 * j = rw b at e in rw b (omega arith))

items_shown : (st : Stage) (t : Import) (text : List ℕ) → st ≡ Items → ShowsIn st t.sheet t.bytes text
    → ShowsItems t.sheet t.bytes text
items_shown st t text e shows = subst (λ (x : Stage). ShowsIn x t.sheet t.bytes text) e shows

-- For every text that is accepted.
pub lines-again : (s l : List ℕ) (start : ℕ) → says_of s ≡ log l → whole_of l ≡ Ok start → lines_of l start ≡ s
unfolding says_of lines_of
lines-again s l start e w =
    let r = read_from taken none_read [] s in
    let t = r.state in
    let x = says-log t.sheet.stage t (is_begun r.rest) l e in
    let begun = reads s none_read [] [] (λ h. (refl, refl)) in
    let o = opens l start (whole_is l start w).0 in
    let short : length t.bytes ≤ max_log = omega (arith, ap length x.bytes, o.head.short) in
    let shows = items_shown t.sheet.stage t begun.text x.stage (begun.shows short) in
    let i-is : shows.i ≡ clients_in l = omega (arith, shows.rows, x.rows, ap clients_in x.bytes) in
    let ends : length l ≡ items_end l (clients_in l) shows.j
    = sym (ap length x.bytes)
    ∙ shows.size
    ∙ ap₂ (λ (b : List ℕ) (n : ℕ). items_end b n shows.j) x.bytes i-is in
    let at : start ≡ records_at (version_in l) (clusters_in l) (clients_in l) = o.at in
    let j-is : shows.j ≡ whole l start
    = all-records (version_in l) (length l) start shows.j
    (ends ∙ ap (λ (n : ℕ). n + record_size (version_in l) * shows.j) (sym at)) in
    sym (begun.parts
    ∙ ap (λ (y : List ℕ). begun.text ++ y) (nothing r.rest x.none)
    ∙ append-nil begun.text
    ∙ shows.lines
    ∙ ap₂ (λ (b : List ℕ) (n : ℕ). lines_so_far b n shows.j) x.bytes i-is
    ∙ ap (λ (n : ℕ). lines_so_far l (clients_in l) n) j-is
    ∙ ap (λ (n : ℕ). head_line l ++ (sizes_line l ++ (row_lines l ++ record_lines l n (whole l start)))) (sym at))
