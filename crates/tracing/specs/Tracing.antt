-- A trace as lines of text: what has been read of it, and what one more line makes of that.
-- Assumes nothing.
use Rattle.std.specs.Prelude.{ℕ, ◌≡◌, Bool, true, false, not, cond, List, [], ◌∷◌, eqb, ltb, get_or}
use Rattle.rules.specs.Refusals.{bad_size, bad_ranks}
use Rattle.rules.specs.Traces.{Traced}
use Rattle.gate.specs.declared.Setup.{Setup}
use Rattle.text.specs.Text.{space, next_count}
use Rattle.layout.specs.Layout.{is_ranks}
use Rattle.checking.specs.declared.Verdict.{Verdict}
use Rattle.checking.specs.declared.Verdict.TheVariants.{Refused, Agrees, Differs}
use Rattle.checking.specs.declared.Checker.{Checker}
use Rattle.checking.specs.Checking.{begun, is_agreeing, checked}
use Rattle.lines.specs.Lines.{values_of, fit_in}
use Rattle.items.specs.Items.{head_fits, sizes_form, row_form}
use Rattle.tracing.specs.declared.Stage.{Stage}
use Rattle.tracing.specs.declared.Stage.TheVariants.{Head, Sizes, Rows, Entries, Malformed}
use Rattle.tracing.specs.declared.Trace.{Trace}
use Rattle.tracing.specs.Shapes.{ranks_of, head_setup, with_sizes, with_row, entry_fits, event_in, seen_of}

-- the stage, how many lines and how many rows were read, R, the setup so far and the checker
abbrev pub trace : Stage → ℕ → ℕ → ℕ → Setup → Checker → Trace
trace st n r q s k = record { stage = st; lines = n; rows = r; ranks = q; setup = s; checker = k }

-- before the first line
unfoldable pub none_read : Trace
none_read = trace Head 0 0 0 (head_setup []) (begun 0 (head_setup []))

-- WHAT IS DECIDED

abbrev pub decided_in : Stage → Verdict → Bool
decided_in Head x = false
decided_in Sizes x = false
decided_in Rows x = false
decided_in Entries x = not (is_agreeing x)
decided_in Malformed x = true

-- nothing after it counts
abbrev pub is_decided : Trace → Bool
is_decided t = decided_in t.stage t.checker.verdict

-- ONE MORE LINE, which t has counted

-- a setup without sizes that is refused with 4 alone may yet be a good one
abbrev pub awaits_sizes : Verdict → Stage
awaits_sizes (Refused n) = cond (eqb n bad_size) Sizes Entries
awaits_sizes Agrees = Entries
awaits_sizes (Differs i p) = Entries

-- a checker of a setup whose R isn't known: `refused 33`, whatever else is wrong with its tables
abbrev pub ranked : ℕ → Checker → Checker
ranked q k =
    cond (is_ranks q) k
    (record { version = k.version; gate = k.gate; entries = k.entries; verdict = Refused bad_ranks })

module _ (t : Trace) where
  abbrev pub malformed : Trace
  malformed = trace Malformed t.lines t.rows t.ranks t.setup t.checker

  -- Line S: then `refused 1`, `refused 2`, `refused 3`, whatever follows.
  abbrev pub headed : List ℕ → Trace
  headed vs =
      let k = begun (get_or vs 0 0) (head_setup vs) in
      trace (awaits_sizes k.verdict) t.lines 0 (ranks_of vs) (head_setup vs) k

  -- Lines Z and C: once N rows are there, `refused 33`, `refused 4`, `refused 5`, whatever follows; or the entries
  -- begin.
  abbrev pub tabled : ℕ → Setup → Trace
  tabled r s =
      cond (ltb r s.clients) (trace Rows t.lines r t.ranks s t.checker)
      (trace Entries t.lines r t.ranks s (ranked t.ranks (begun t.checker.version s)))

  abbrev pub sized : List ℕ → Trace
  sized vs = tabled t.rows (with_sizes vs t.setup)

  abbrev pub rowed : List ℕ → Trace
  rowed vs = tabled (next_count t.rows) (with_row t.rows vs t.setup)

  -- Lines E: an entry for the checker.
  abbrev pub entered : List ℕ → Trace
  entered vs =
      let v = t.checker.version in
      trace Entries t.lines t.rows t.ranks t.setup (checked t.checker (event_in v vs) (seen_of v vs))

-- a line whose numbers fit, or a malformed one
abbrev pub by : (List ℕ → Bool) → (List ℕ → Trace) → Trace → List ℕ → Trace
by fits next other vs = cond (fits vs) (next vs) other

-- by the stage: the letter that its line begins with, S, Z, C or E
abbrev pub letter_of : Stage → ℕ
letter_of Head = 83
letter_of Sizes = 90
letter_of Rows = 67
letter_of Entries = 69
letter_of Malformed = 0

-- and what its numbers say
abbrev pub taken_in : Stage → Trace → List ℕ → Trace
taken_in Head t = by head_fits (headed t) (malformed t)
taken_in Sizes t = by (fit_in (sizes_form t.setup.clusters)) (sized t) (malformed t)
taken_in Rows t = by (fit_in row_form) (rowed t) (malformed t)
taken_in Entries t = by (entry_fits t.checker.version) (entered t) (malformed t)
taken_in Malformed t = λ vs. t

abbrev pub counted : Trace → Trace
counted t = trace t.stage (next_count t.lines) t.rows t.ranks t.setup t.checker

unfoldable pub taken : Trace → List ℕ → Trace
taken t l = cond (is_decided t) t (taken_in t.stage (counted t) (values_of (letter_of t.stage) space l))

-- ALL LINES, one after the other

abbrev pub taken_all : Trace → List (List ℕ) → Trace
taken_all t [] = t
taken_all t (l ∷ ls) = taken_all (taken t l) ls

module _ (v : ℕ) where
  -- the entry that a line E says in a trace of version v
  abbrev pub traced_in : List ℕ → Traced
  traced_in l = let vs = values_of (letter_of Entries) space l in record { event = event_in v vs; seen = seen_of v vs }

  -- each of the lines is a well formed entry
  abbrev pub AllEntries : List (List ℕ) → Type 0
  AllEntries [] = Unit {0}
  AllEntries (l ∷ ls) = (entry_fits v (values_of (letter_of Entries) space l) ≡ true) × AllEntries ls
