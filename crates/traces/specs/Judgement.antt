-- The judgement of a trace, and the line that tells it.
-- Assumes nothing.
use Rattle.std.specs.Prelude.{ℕ, List, [], ◌∷◌, ◌++◌}
use Rattle.text.specs.Text.{lf, space, decimal, next_count}
use Rattle.checking.specs.declared.Part.{Part}
use Rattle.checking.specs.declared.Part.TheVariants as part
use Rattle.checking.specs.declared.Verdict.{Verdict}
use Rattle.checking.specs.declared.Verdict.TheVariants as verdict
use Rattle.lines.specs.Input.{Read, read_from}
use Rattle.tracing.specs.declared.Stage.{Stage}
use Rattle.tracing.specs.declared.Stage.TheVariants as stage
use Rattle.tracing.specs.declared.Trace.{Trace}
use Rattle.tracing.specs.Tracing.{none_read, taken}
use Rattle.traces.specs.declared.Held.{Held}
use Rattle.traces.specs.declared.Judgement.{Judgement}
use Rattle.traces.specs.declared.Judgement.TheVariants.{Malformed, Refused, Differs, Accepted}
use Rattle.traces.specs.Reading.{begun_in}

-- WHAT IS JUDGED

-- the line behind those that were read is missing, or has no LF
abbrev pub lacking : Trace → Judgement
lacking t = Malformed (next_count t.lines)

-- all entries agree: the trace is accepted if no line has begun
abbrev pub agreed : Trace → List ℕ → Judgement
agreed t [] = Accepted t.checker.entries
agreed t (b ∷ rest) = lacking t

-- a setup that is refused, or the first entry that differs; else the judgement of a trace that agrees
abbrev pub by_verdict : Verdict → Judgement → Judgement
by_verdict (verdict.Refused n) j = Refused n
by_verdict verdict.Agrees j = j
by_verdict (verdict.Differs i p) j = Differs i p

-- by the line that is to come: a trace whose setup is not whole lacks one
abbrev pub by_stage : Stage → Verdict → Trace → Judgement → Judgement
by_stage stage.Head v t j = lacking t
by_stage stage.Sizes v t j = lacking t
by_stage stage.Rows v t j = lacking t
by_stage stage.Entries v t j = by_verdict v j
by_stage stage.Malformed v t j = Malformed t.lines

-- the trace, and the bytes of a last line without LF
abbrev pub closed : Trace → List ℕ → Judgement
closed t rest = by_stage t.stage t.checker.verdict t (agreed t rest)

abbrev pub closed_of : Read Trace → Judgement
closed_of r = closed r.state r.rest

-- by what is held of an input that has ended
abbrev pub closed_held : Held → Judgement
closed_held h = closed h.trace (begun_in h)

-- a whole input
abbrev pub judgement : List ℕ → Judgement
judgement s = closed_of (read_from taken none_read [] s)

-- THE LINE THAT TELLS IT

-- `answer`, `served`, `charges`
abbrev pub part_name : Part → List ℕ
part_name part.Answer = 97 ∷ 110 ∷ 115 ∷ 119 ∷ 101 ∷ 114 ∷ []
part_name part.Served = 115 ∷ 101 ∷ 114 ∷ 118 ∷ 101 ∷ 100 ∷ []
part_name part.Charges = 99 ∷ 104 ∷ 97 ∷ 114 ∷ 103 ∷ 101 ∷ 115 ∷ []

-- a word and a space, a number, and what ends the line
abbrev pub told : List ℕ → ℕ → List ℕ → List ℕ
told word n end = word ++ decimal n ++ end

-- `malformed LINE`, `refused NUMBER`, `differs ENTRY answer`, `accepted ENTRIES`
abbrev pub judgement_text : Judgement → List ℕ
judgement_text (Malformed n) =
    told (109 ∷ 97 ∷ 108 ∷ 102 ∷ 111 ∷ 114 ∷ 109 ∷ 101 ∷ 100 ∷ space ∷ []) n (lf ∷ [])
judgement_text (Refused n) = told (114 ∷ 101 ∷ 102 ∷ 117 ∷ 115 ∷ 101 ∷ 100 ∷ space ∷ []) n (lf ∷ [])
judgement_text (Differs i p) =
    told (100 ∷ 105 ∷ 102 ∷ 102 ∷ 101 ∷ 114 ∷ 115 ∷ space ∷ []) i (space ∷ part_name p ++ lf ∷ [])
judgement_text (Accepted n) = told (97 ∷ 99 ∷ 99 ∷ 101 ∷ 112 ∷ 116 ∷ 101 ∷ 100 ∷ space ∷ []) n (lf ∷ [])

-- room for any of them
abbrev pub line_bytes : ℕ
line_bytes = 64
