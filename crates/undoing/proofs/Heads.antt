-- The numbers of a header and of a record.
-- Assumes nothing.
use Prim.Native.Nat.{ℕ, suc, ◌+◌, ◌*◌, ◌<◌}
use native.Mathlib.Omega.{arith}
use mathlib.Core.Path.{◌≡◌, ap, ◌∙◌}
use mathlib.Core.Bool.{Bool, true}
use mathlib.Core.List.{List, ◌++◌}
use lib.ListN.{get_or}
use Rattle.rules.proofs.Tests.{by-test}
use Rattle.text.specs.Text.{next_count}
use Rattle.lines.specs.Lines.{max_line}
use Rattle.layout.specs.Layout.{carries_ranks, mark, version_at, record_size}
use Rattle.layout.specs.Tables.{version_in, clusters_in, clients_in}
use Rattle.layout.proofs.Lengths.{by-carried}
use Rattle.items.specs.Items.{head_form, record_form, head_fits, item_bytes, numbers_at}
use Rattle.items.specs.Lines.{head_letter}
use Rattle.items.specs.Room.{most_numbers}
use Rattle.importing.specs.declared.Stage.TheVariants.{Head, Sizes}
use Rattle.importing.specs.Sheets.{sheet, import, kept, none_read, numbers_of, taken_as, taken_in, taken}

-- THE NUMBERS OF A HEADER

module _ (l : List ℕ) where
  abbrev pub headed : List ℕ
  headed = numbers_at (head_form (version_in l)) l version_at

  pub head-version : get_or headed 0 0 ≡ version_in l
  head-version = by-carried (version_in l) (λ t r. rw (r, t)) (λ t r. rw (r, t)) (λ t r. rw r)

  pub head-clusters : get_or headed 1 0 ≡ clusters_in l
  head-clusters = by-carried (version_in l) (λ t r. rw (r, t)) (λ t r. rw (r, t)) (λ t r. rw r)

  pub head-clients : get_or headed 2 0 ≡ clients_in l
  head-clients = by-carried (version_in l) (λ t r. rw (r, t)) (λ t r. rw (r, t)) (λ t r. rw r)

-- a line of such numbers
pub head-line : (s ns : List ℕ) → numbers_of head_letter s ≡ ns → head_fits ns ≡ true
    → taken none_read s
    ≡ import (sheet Sizes (next_count 0) (get_or ns 0 0) (get_or ns 1 0) (get_or ns 2 0))
    (kept (mark ++ item_bytes (head_form (get_or ns 0 0)) ns))
unfolding taken
head-line s ns e y =
    let next = sheet Sizes (next_count 0) (get_or ns 0 0) (get_or ns 1 0) (get_or ns 2 0) in
    ap (taken_in Head (sheet Head (next_count 0) 0 0 0) mark) e
    ∙ ap (λ (b : Bool). taken_as b (head_form (get_or ns 0 0)) ns next mark) y

-- THE NUMBERS OF A RECORD

pub record-most : (v : ℕ) → most_numbers (record_form v) < max_line
record-most v = by-test (carries_ranks v) (λ b. rw b (omega arith)) (λ b. rw b (omega arith))

pub one_more : (v at j : ℕ) → at + record_size v * j + record_size v ≡ at + record_size v * suc j
one_more v at j = by-test (carries_ranks v) (λ b. rw b (omega arith)) (λ b. rw b (omega arith))
