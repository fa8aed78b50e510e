-- What is held, judgements and their lines, computed. Each text is written as its bytes, under what it is.
-- Assumes nothing.
use Prim.Native.Nat.{ℕ}
use mathlib.Core.Path.{◌≡◌, refl}
use mathlib.Core.List.{List, [], ◌∷◌}
use lib.ListN.{length, take, replicate}
use Rattle.text.specs.Text.{decimal}
use Rattle.gate.specs.declared.Setup.{Setup}
use Rattle.gate.specs.declared.Gate.{Gate}
use Rattle.checking.specs.declared.Part.TheVariants as part
use Rattle.checking.specs.declared.Verdict.{Verdict}
use Rattle.checking.specs.declared.Verdict.TheVariants as verdict
use Rattle.lines.specs.Lines.{values_of}
use Rattle.items.specs.Items.{head_fits}
use Rattle.tracing.specs.declared.Stage.{Stage}
use Rattle.tracing.specs.declared.Stage.TheVariants as stage
use Rattle.tracing.specs.declared.Trace.{Trace}
use Rattle.tracing.specs.Tracing.{trace, none_read, taken}
use Rattle.traces.specs.declared.Judgement.{Judgement}
use Rattle.traces.specs.declared.Judgement.TheVariants.{Malformed, Refused, Differs, Accepted}
use Rattle.traces.specs.Reading.{held_of}
use Rattle.traces.specs.Judgement.{closed, judgement, judgement_text}

-- WHAT IS HELD

module _ (t : Trace) where
  -- two bytes with a zero behind them; 1,024 bytes; one byte more is not held
  pub holds :
      ((held_of (record { state = t; rest = 5 ∷ 6 ∷ [] })).n ≡ 2)
      × (take 3 (held_of (record { state = t; rest = 5 ∷ 6 ∷ [] })).room ≡ 5 ∷ 6 ∷ 0 ∷ [])
      × (length (held_of (record { state = t; rest = 5 ∷ 6 ∷ [] })).room ≡ 1024)
      × ((held_of (record { state = t; rest = replicate 1024 5 })).n ≡ 1024)
      × ((held_of (record { state = t; rest = replicate 1025 5 })).n ≡ 1024)
  holds = (refl, refl, refl, refl, refl)

-- JUDGEMENTS

module _ (s : Setup) (g : Gate) where
  -- the lines and the entries that were read
  abbrev after : Stage → ℕ → ℕ → Verdict → Trace
  after st lines entries v =
      trace st lines 0 0 s (record { version = 1; gate = g; entries = entries; verdict = v })

  abbrev Closes : Trace → List ℕ → Judgement → Type 0
  Closes t rest j = closed t rest ≡ j

  -- line S is missing, or has no LF
  -- line Z is missing, a line C is missing
  pub lines-lack :
      Closes (after stage.Head 0 0 (verdict.Refused 1)) [] (Malformed 1)
      × Closes (after stage.Head 0 0 (verdict.Refused 1)) (83 ∷ []) (Malformed 1)
      × Closes (after stage.Sizes 1 0 (verdict.Refused 4)) [] (Malformed 2)
      × Closes (after stage.Rows 4 0 (verdict.Refused 4)) [] (Malformed 5)
      × Closes (after stage.Rows 4 0 verdict.Agrees) [] (Malformed 5)
  lines-lack = (refl, refl, refl, refl, refl)

  -- the setup is refused, whatever follows
  -- an entry differs, whatever follows
  -- the last line that was read is malformed, whatever follows
  pub decided :
      Closes (after stage.Entries 1 0 (verdict.Refused 2)) [] (Refused 2)
      × Closes (after stage.Entries 1 0 (verdict.Refused 2)) (69 ∷ []) (Refused 2)
      × Closes (after stage.Entries 9 4 (verdict.Differs 3 part.Served)) [] (Differs 3 part.Served)
      × Closes (after stage.Entries 9 4 (verdict.Differs 3 part.Served)) (69 ∷ []) (Differs 3 part.Served)
      × Closes (after stage.Malformed 9 3 verdict.Agrees) [] (Malformed 9)
      × Closes (after stage.Malformed 9 3 verdict.Agrees) (69 ∷ []) (Malformed 9)
  decided = (refl, refl, refl, refl, refl, refl)

  -- no entry, and three; then the last line has no LF
  pub agree :
      Closes (after stage.Entries 6 0 verdict.Agrees) [] (Accepted 0)
      × Closes (after stage.Entries 9 3 verdict.Agrees) [] (Accepted 3)
      × Closes (after stage.Entries 9 3 verdict.Agrees) (69 ∷ []) (Malformed 10)
  agree = (refl, refl, refl)

-- a whole input: nothing, a byte without LF, a blank line, and two of these
pub whole :
    (judgement [] ≡ Malformed 1)
    × (judgement (83 ∷ []) ≡ Malformed 1)
    × (judgement (10 ∷ []) ≡ Malformed 1)
    × (judgement (10 ∷ 10 ∷ []) ≡ Malformed 1)
unfolding none_read taken values_of head_fits
whole = (refl, refl, refl, refl)

-- LINES

abbrev Told : Judgement → List ℕ → Type 0
Told j text = judgement_text j ≡ text

-- malformed 10
-- refused 33
-- differs 0 answer
-- differs 1 served
-- differs 2 charges
-- accepted 0
pub lines :
    Told (Malformed 10) (109 ∷ 97 ∷ 108 ∷ 102 ∷ 111 ∷ 114 ∷ 109 ∷ 101 ∷ 100 ∷ 32 ∷ 49 ∷ 48 ∷ 10 ∷ [])
    × Told (Refused 33) (114 ∷ 101 ∷ 102 ∷ 117 ∷ 115 ∷ 101 ∷ 100 ∷ 32 ∷ 51 ∷ 51 ∷ 10 ∷ [])
    × Told (Differs 0 part.Answer)
    (100 ∷ 105 ∷ 102 ∷ 102 ∷ 101 ∷ 114 ∷ 115 ∷ 32 ∷ 48 ∷ 32 ∷ 97 ∷ 110 ∷ 115 ∷ 119 ∷ 101 ∷ 114 ∷ 10 ∷ [])
    × Told (Differs 1 part.Served)
    (100 ∷ 105 ∷ 102 ∷ 102 ∷ 101 ∷ 114 ∷ 115 ∷ 32 ∷ 49 ∷ 32 ∷ 115 ∷ 101 ∷ 114 ∷ 118 ∷ 101 ∷ 100 ∷ 10 ∷ [])
    × Told (Differs 2 part.Charges)
    (100 ∷ 105 ∷ 102 ∷ 102 ∷ 101 ∷ 114 ∷ 115 ∷ 32 ∷ 50 ∷ 32 ∷ 99 ∷ 104 ∷ 97 ∷ 114 ∷ 103 ∷ 101 ∷ 115 ∷ 10 ∷ [])
    × Told (Accepted 0) (97 ∷ 99 ∷ 99 ∷ 101 ∷ 112 ∷ 116 ∷ 101 ∷ 100 ∷ 32 ∷ 48 ∷ 10 ∷ [])
unfolding decimal
lines = (refl, refl, refl, refl, refl, refl)

-- the longest
pub longest : length (judgement_text (Differs 18446744073709551615 part.Charges)) ≡ 37
unfolding decimal
longest = refl
