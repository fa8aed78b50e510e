-- Lines of a trace and what each makes of it, computed: stage, lines, rows and verdict.
-- Assumes nothing.
use Prim.Native.Nat.{ℕ}
use mathlib.Core.Path.{◌≡◌, refl}
use mathlib.Core.Bool.{true, false}
use mathlib.Core.List.{List, [], ◌∷◌, ◌++◌}
use mathlib.Core.Option.{some, none}
use lib.ListN.{take}
use Rattle.rules.specs.Setup.{setup_answer}
use Rattle.gate.specs.declared.Setup.{Setup}
use Rattle.gate.specs.Shown.{table}
use Rattle.text.specs.Text.{space, decimal}
use Rattle.numerals.specs.Plain.{plain_of}
use Rattle.checking.specs.declared.Verdict.{Verdict}
use Rattle.checking.specs.declared.Verdict.TheVariants.{Refused, Agrees}
use Rattle.checking.specs.Checking.{begun}
use Rattle.lines.specs.Lines.{dash, values_of, fit_in, all_fit}
use Rattle.items.specs.Items.{head_fits, row_form}
use Rattle.tracing.specs.declared.Stage.{Stage}
use Rattle.tracing.specs.declared.Stage.TheVariants.{Head, Sizes, Rows, Entries, Malformed}
use Rattle.tracing.specs.Shapes.{head_setup, with_sizes, with_row, entry_fits, event_in, seen_of}
use Rattle.tracing.specs.Tracing.{none_read, taken, taken_all}

-- THE NUMBERS OF EACH KIND OF LINE

-- VERSION K N L, in version 2 with W
pub heads :
    (head_fits (1 ∷ 8 ∷ 64 ∷ 65535 ∷ []) ≡ true)
    × (head_fits (2 ∷ 8 ∷ 64 ∷ 65535 ∷ 0 ∷ []) ≡ true)
    × (head_fits (1 ∷ 255 ∷ 255 ∷ 0 ∷ []) ≡ true)
    × (head_fits (2 ∷ 1 ∷ 1 ∷ 1 ∷ []) ≡ false)
    × (head_fits (1 ∷ 1 ∷ 1 ∷ 1 ∷ 0 ∷ []) ≡ false)
    × (head_fits (2 ∷ 1 ∷ 1 ∷ 1 ∷ 65535 ∷ []) ≡ true)
    × (head_fits (2 ∷ 1 ∷ 1 ∷ 1 ∷ 65536 ∷ []) ≡ false)
    × (head_fits (0 ∷ 1 ∷ 1 ∷ 1 ∷ []) ≡ false)
    × (head_fits (1 ∷ 256 ∷ 1 ∷ 1 ∷ []) ≡ false)
    × (head_fits (1 ∷ 1 ∷ 256 ∷ 1 ∷ []) ≡ false)
    × (head_fits (1 ∷ 1 ∷ 1 ∷ 65536 ∷ []) ≡ false)
    × (head_fits (1 ∷ 1 ∷ 1 ∷ []) ≡ false)
    × (head_fits [] ≡ false)
unfolding head_fits fit_in
heads = (refl, refl, refl, refl, refl, refl, refl, refl, refl, refl, refl, refl, refl)

-- in version 3 with R, of 8 bits, behind W
pub ranked-heads :
    (head_fits (3 ∷ 8 ∷ 64 ∷ 65535 ∷ 65535 ∷ 255 ∷ []) ≡ true)
    × (head_fits (3 ∷ 1 ∷ 1 ∷ 1 ∷ 1 ∷ 256 ∷ []) ≡ false)
    × (head_fits (3 ∷ 1 ∷ 1 ∷ 1 ∷ 65536 ∷ 1 ∷ []) ≡ false)
    × (head_fits (3 ∷ 1 ∷ 1 ∷ 1 ∷ 1 ∷ []) ≡ false)
    × (head_fits (3 ∷ 1 ∷ 1 ∷ 1 ∷ 1 ∷ 1 ∷ 0 ∷ []) ≡ false)
    × (head_fits (2 ∷ 1 ∷ 1 ∷ 1 ∷ 1 ∷ 1 ∷ []) ≡ false)
    × (head_fits (4 ∷ 1 ∷ 1 ∷ 1 ∷ 1 ∷ 1 ∷ []) ≡ false)
unfolding head_fits fit_in
ranked-heads = (refl, refl, refl, refl, refl, refl, refl)

-- CODE ARGUMENT ANSWER SERVED, and charges
pub entries :
    (entry_fits 2 (1 ∷ 3 ∷ 0 ∷ 3 ∷ []) ≡ true)
    × (entry_fits 2 (255 ∷ 65535 ∷ 65535 ∷ 65535 ∷ 4294967295 ∷ 0 ∷ []) ≡ true)
    × (entry_fits 2 (3 ∷ 0 ∷ 0 ∷ dash ∷ 7 ∷ []) ≡ true)
    × (entry_fits 2 (3 ∷ 0 ∷ 0 ∷ []) ≡ false)
    × (entry_fits 2 (256 ∷ 0 ∷ 0 ∷ 0 ∷ []) ≡ false)
    × (entry_fits 2 (0 ∷ 65536 ∷ 0 ∷ 0 ∷ []) ≡ false)
    × (entry_fits 2 (0 ∷ 0 ∷ 65536 ∷ 0 ∷ []) ≡ false)
    × (entry_fits 2 (0 ∷ 0 ∷ 0 ∷ 65536 ∷ []) ≡ false)
    × (entry_fits 2 (0 ∷ 0 ∷ dash ∷ 0 ∷ []) ≡ false)
    × (entry_fits 2 (0 ∷ 0 ∷ 0 ∷ 0 ∷ dash ∷ []) ≡ false)
    × (entry_fits 2 (0 ∷ 0 ∷ 0 ∷ 0 ∷ 1 ∷ 4294967296 ∷ []) ≡ false)
    × (seen_of 2 (1 ∷ 2 ∷ 3 ∷ 4 ∷ 5 ∷ 6 ∷ []) ≡ record { answer = 3; served = some 4; charges = 5 ∷ 6 ∷ [] })
    × (seen_of 2 (1 ∷ 2 ∷ 3 ∷ dash ∷ []) ≡ record { answer = 3; served = none; charges = [] })
unfolding fit_in all_fit
entries = (refl, refl, refl, refl, refl, refl, refl, refl, refl, refl, refl, refl, refl)

-- In version 3 with DEADLINE, of 32 bits, behind ARGUMENT.
pub timed-entries :
    (entry_fits 3 (1 ∷ 3 ∷ 4294967295 ∷ 0 ∷ 3 ∷ []) ≡ true)
    × (entry_fits 3 (255 ∷ 65535 ∷ 0 ∷ 65535 ∷ 65535 ∷ 4294967295 ∷ 0 ∷ []) ≡ true)
    × (entry_fits 3 (3 ∷ 0 ∷ 0 ∷ 0 ∷ dash ∷ 7 ∷ []) ≡ true)
    × (entry_fits 3 (1 ∷ 3 ∷ 0 ∷ 3 ∷ []) ≡ false)
    × (entry_fits 3 (1 ∷ 3 ∷ 4294967296 ∷ 0 ∷ 3 ∷ []) ≡ false)
    × (entry_fits 3 (1 ∷ 65536 ∷ 0 ∷ 0 ∷ 3 ∷ []) ≡ false)
    × (entry_fits 3 (1 ∷ 3 ∷ 0 ∷ 65536 ∷ 3 ∷ []) ≡ false)
    × (entry_fits 3 (1 ∷ 3 ∷ 0 ∷ 0 ∷ 65536 ∷ []) ≡ false)
    × (entry_fits 3 (1 ∷ 3 ∷ 0 ∷ dash ∷ 0 ∷ []) ≡ false)
    × (entry_fits 1 (1 ∷ 3 ∷ 65536 ∷ 0 ∷ 3 ∷ []) ≡ false)
    × (event_in 3 (1 ∷ 2 ∷ 3 ∷ 4 ∷ 5 ∷ 6 ∷ []) ≡ record { code = 1; argument = 2; deadline = 3 })
    × (seen_of 3 (1 ∷ 2 ∷ 3 ∷ 4 ∷ 5 ∷ 6 ∷ []) ≡ record { answer = 4; served = some 5; charges = 6 ∷ [] })
unfolding fit_in all_fit
timed-entries = (refl, refl, refl, refl, refl, refl, refl, refl, refl, refl, refl, refl)

-- KIND CLUSTER PRIORITY
pub rows :
    (fit_in row_form (255 ∷ 255 ∷ 65535 ∷ []) ≡ true)
    × (fit_in row_form (0 ∷ 0 ∷ []) ≡ false)
    × (fit_in row_form (0 ∷ 0 ∷ 0 ∷ 0 ∷ []) ≡ false)
    × (fit_in row_form (256 ∷ 0 ∷ 0 ∷ []) ≡ false)
    × (fit_in row_form (0 ∷ 256 ∷ 0 ∷ []) ≡ false)
    × (fit_in row_form (0 ∷ 0 ∷ 65536 ∷ []) ≡ false)
unfolding fit_in
rows = (refl, refl, refl, refl, refl, refl)

-- WHAT THEY SAY

-- K, N, L, W and R each in its place, and no W in version 1
pub said-heads :
    ((head_setup (2 ∷ 3 ∷ 4 ∷ 5 ∷ 6 ∷ [])).clusters ≡ 3)
    × ((head_setup (2 ∷ 3 ∷ 4 ∷ 5 ∷ 6 ∷ [])).clients ≡ 4)
    × ((head_setup (2 ∷ 3 ∷ 4 ∷ 5 ∷ 6 ∷ [])).cap ≡ 5)
    × ((head_setup (2 ∷ 3 ∷ 4 ∷ 5 ∷ 6 ∷ [])).tidy ≡ 6)
    × ((head_setup (1 ∷ 3 ∷ 4 ∷ 5 ∷ [])).tidy ≡ 0)
    × ((head_setup (2 ∷ 3 ∷ 4 ∷ 5 ∷ 1 ∷ [])).timed ≡ false)
    × ((head_setup (3 ∷ 3 ∷ 4 ∷ 5 ∷ 6 ∷ 0 ∷ [])).timed ≡ false)
    × ((head_setup (3 ∷ 3 ∷ 4 ∷ 5 ∷ 6 ∷ 1 ∷ [])).timed ≡ true)
unfolding head_setup
said-heads = (refl, refl, refl, refl, refl, refl, refl, refl)

-- a setup of two clusters without sizes and rows
abbrev bare : Setup
bare = head_setup (1 ∷ 2 ∷ 3 ∷ 10 ∷ [])

-- one that goes by deadlines
abbrev bare_timed : Setup
bare_timed = head_setup (3 ∷ 2 ∷ 3 ∷ 10 ∷ 0 ∷ 1 ∷ [])

-- sizes in their order, and the rest as it was
pub said-sizes :
    (take 3 (with_sizes (7 ∷ 8 ∷ []) bare).sizes ≡ 7 ∷ 8 ∷ 0 ∷ [])
    × ((with_sizes (7 ∷ 8 ∷ []) bare).clients ≡ 3)
    × ((with_sizes (7 ∷ 8 ∷ []) bare).cap ≡ 10)
    × ((with_sizes (7 ∷ 8 ∷ []) bare).timed ≡ false)
    × ((with_sizes (7 ∷ 8 ∷ []) bare_timed).timed ≡ true)
unfolding head_setup with_sizes table
said-sizes = (refl, refl, refl, refl, refl)

-- the row of client 1: kind, cluster and priority each in its column
pub said-rows :
    (take 3 (with_row 1 (1 ∷ 2 ∷ 300 ∷ []) bare).kinds ≡ 0 ∷ 1 ∷ 0 ∷ [])
    × (take 3 (with_row 1 (1 ∷ 2 ∷ 300 ∷ []) bare).homes ≡ 0 ∷ 2 ∷ 0 ∷ [])
    × (take 3 (with_row 1 (1 ∷ 2 ∷ 300 ∷ []) bare).priorities ≡ 0 ∷ 300 ∷ 0 ∷ [])
    × ((with_row 1 (1 ∷ 2 ∷ 300 ∷ []) bare).timed ≡ false)
    × ((with_row 1 (1 ∷ 2 ∷ 300 ∷ []) bare_timed).timed ≡ true)
unfolding head_setup with_row
said-rows = (refl, refl, refl, refl, refl)

pub said-event : event_in 2 (4 ∷ 9 ∷ 7 ∷ 1 ∷ []) ≡ record { code = 4; argument = 9; deadline = 0 }
said-event = refl

-- LINE BY LINE

-- a letter, and numbers behind it
abbrev numbers : List ℕ → List ℕ
numbers [] = []
numbers (n ∷ ns) = space ∷ decimal n ++ numbers ns

abbrev S : List ℕ → List ℕ
S ns = 83 ∷ numbers ns

abbrev Z : List ℕ → List ℕ
Z ns = 90 ∷ numbers ns

abbrev C : List ℕ → List ℕ
C ns = 67 ∷ numbers ns

abbrev E : List ℕ → List ℕ
E ns = 69 ∷ numbers ns

pub record Shown : Type 0 where
  pub stage : Stage
  pub lines : ℕ
  pub rows : ℕ
  pub verdict : Verdict

abbrev shown_as : Stage → ℕ → ℕ → Verdict → Shown
shown_as st n r v = record { stage = st; lines = n; rows = r; verdict = v }

abbrev show : List (List ℕ) → Shown
show ls =
    let t = taken_all none_read ls in
    record { stage = t.stage; lines = t.lines; rows = t.rows; verdict = t.checker.verdict }

pub setups :
    -- nothing
    (show [] ≡ shown_as Head 0 0 (Refused 22))
    -- a good one, line by line
    × (show (S (1 ∷ 1 ∷ 1 ∷ 10 ∷ []) ∷ []) ≡ shown_as Sizes 1 0 (Refused 4))
    × (show (S (1 ∷ 1 ∷ 1 ∷ 10 ∷ []) ∷ Z (1 ∷ []) ∷ []) ≡ shown_as Rows 2 0 (Refused 4))
    × (show (S (1 ∷ 1 ∷ 1 ∷ 10 ∷ []) ∷ Z (1 ∷ []) ∷ C (0 ∷ 0 ∷ 5 ∷ []) ∷ []) ≡ shown_as Entries 3 1 Agrees)
    × (show (S (2 ∷ 1 ∷ 0 ∷ 10 ∷ 7 ∷ []) ∷ Z (1 ∷ []) ∷ []) ≡ shown_as Entries 2 0 Agrees)
    -- 1, 2 and 3 at once, whatever follows; 4 and 5 behind the last row
    × (show (S (1 ∷ 0 ∷ 0 ∷ 10 ∷ []) ∷ Z (1 ∷ []) ∷ []) ≡ shown_as Entries 1 0 (Refused 1))
    × (show (S (1 ∷ 9 ∷ 0 ∷ 0 ∷ []) ∷ [] ∷ []) ≡ shown_as Entries 1 0 (Refused 1))
    × (show (S (1 ∷ 1 ∷ 65 ∷ 0 ∷ []) ∷ []) ≡ shown_as Entries 1 0 (Refused 2))
    × (show (S (1 ∷ 1 ∷ 65 ∷ 1 ∷ []) ∷ []) ≡ shown_as Entries 1 0 (Refused 3))
    × (show (S (1 ∷ 1 ∷ 0 ∷ 1 ∷ []) ∷ Z (9 ∷ []) ∷ []) ≡ shown_as Entries 2 0 (Refused 4))
    × (show (S (1 ∷ 1 ∷ 1 ∷ 1 ∷ []) ∷ Z (9 ∷ []) ∷ C (0 ∷ 0 ∷ []) ∷ []) ≡ shown_as Malformed 3 0 (Refused 4))
    × (show (S (1 ∷ 1 ∷ 1 ∷ 1 ∷ []) ∷ Z (1 ∷ []) ∷ C (0 ∷ 1 ∷ 0 ∷ []) ∷ []) ≡ shown_as Entries 3 1 (Refused 5))
    -- malformed: another letter, too many sizes, a blank line; and nothing after it counts
    × (show (Z (1 ∷ []) ∷ []) ≡ shown_as Malformed 1 0 (Refused 22))
    × (show (S (1 ∷ 1 ∷ 1 ∷ 1 ∷ []) ∷ Z (1 ∷ 1 ∷ []) ∷ []) ≡ shown_as Malformed 2 0 (Refused 4))
    × (show (S (1 ∷ 1 ∷ 1 ∷ 1 ∷ []) ∷ [] ∷ Z (1 ∷ []) ∷ []) ≡ shown_as Malformed 2 0 (Refused 4))
unfolding none_read taken head_fits head_setup with_sizes with_row values_of fit_in plain_of decimal begun setup_answer table
setups =
    (refl, refl, refl, refl, refl, refl, refl, refl, refl, refl, refl, refl, refl, refl, refl)

-- R: 0 and 1 are known, else 33, behind the last row and before 4 and 5, but behind 1 and any malformed line
pub ranks :
    (show (S (3 ∷ 1 ∷ 0 ∷ 10 ∷ 7 ∷ 0 ∷ []) ∷ Z (1 ∷ []) ∷ []) ≡ shown_as Entries 2 0 Agrees)
    × (show (S (3 ∷ 1 ∷ 0 ∷ 10 ∷ 7 ∷ 1 ∷ []) ∷ Z (1 ∷ []) ∷ []) ≡ shown_as Entries 2 0 Agrees)
    × (show (S (3 ∷ 1 ∷ 0 ∷ 10 ∷ 7 ∷ 2 ∷ []) ∷ []) ≡ shown_as Sizes 1 0 (Refused 4))
    × (show (S (3 ∷ 1 ∷ 0 ∷ 10 ∷ 7 ∷ 2 ∷ []) ∷ Z (1 ∷ []) ∷ []) ≡ shown_as Entries 2 0 (Refused 33))
    × (show (S (3 ∷ 1 ∷ 0 ∷ 10 ∷ 7 ∷ 2 ∷ []) ∷ Z (9 ∷ []) ∷ []) ≡ shown_as Entries 2 0 (Refused 33))
    × (show (S (3 ∷ 1 ∷ 0 ∷ 10 ∷ 2 ∷ 1 ∷ []) ∷ Z (9 ∷ []) ∷ []) ≡ shown_as Entries 2 0 (Refused 4))
    × (show (S (3 ∷ 1 ∷ 1 ∷ 1 ∷ 0 ∷ 2 ∷ []) ∷ Z (1 ∷ []) ∷ C (0 ∷ 1 ∷ 0 ∷ []) ∷ []) ≡ shown_as Entries 3 1 (Refused 33))
    × (show (S (3 ∷ 1 ∷ 1 ∷ 1 ∷ 0 ∷ 2 ∷ []) ∷ Z (1 ∷ []) ∷ C (0 ∷ 1 ∷ []) ∷ []) ≡ shown_as Malformed 3 0 (Refused 4))
    × (show (S (3 ∷ 0 ∷ 0 ∷ 10 ∷ 7 ∷ 2 ∷ []) ∷ []) ≡ shown_as Entries 1 0 (Refused 1))
unfolding none_read taken head_fits head_setup with_sizes with_row values_of fit_in plain_of decimal begun setup_answer table
ranks = (refl, refl, refl, refl, refl, refl, refl, refl, refl)

-- An entry is a line more, and leaves the stage; any other line, or one with too few numbers, is malformed there. Only
-- stage and lines are looked at: what an entry makes of the checker, `checking` computes.
abbrev first : List (List ℕ)
first = S (1 ∷ 1 ∷ 0 ∷ 10 ∷ []) ∷ Z (1 ∷ []) ∷ []

abbrev third : List (List ℕ)
third = S (3 ∷ 1 ∷ 0 ∷ 10 ∷ 0 ∷ 1 ∷ []) ∷ Z (1 ∷ []) ∷ []

abbrev stage_after : List (List ℕ) → List ℕ → Stage
stage_after setup l = (taken_all none_read (setup ++ l ∷ [])).stage

abbrev lines_after : List (List ℕ) → List ℕ → ℕ
lines_after setup l = (taken_all none_read (setup ++ l ∷ [])).lines

pub entry-lines :
    (stage_after first (E (3 ∷ 0 ∷ 12 ∷ 0 ∷ [])) ≡ Entries)
    × (lines_after first (E (3 ∷ 0 ∷ 12 ∷ 0 ∷ [])) ≡ 3)
    × (stage_after first (E (3 ∷ 0 ∷ 12 ∷ []) ++ space ∷ 45 ∷ []) ≡ Entries)
    × (stage_after first (E (3 ∷ 0 ∷ 12 ∷ [])) ≡ Malformed)
    × (stage_after first (C (3 ∷ 0 ∷ 12 ∷ 0 ∷ [])) ≡ Malformed)
    × (lines_after first (C (3 ∷ 0 ∷ 12 ∷ 0 ∷ [])) ≡ 3)
    × (stage_after third (E (1 ∷ 0 ∷ 65536 ∷ 10 ∷ 0 ∷ [])) ≡ Entries)
    × (stage_after third (E (1 ∷ 0 ∷ 10 ∷ 0 ∷ [])) ≡ Malformed)
unfolding none_read taken head_fits head_setup with_sizes values_of fit_in all_fit plain_of decimal begun setup_answer table
entry-lines = (refl, refl, refl, refl, refl, refl, refl, refl)
