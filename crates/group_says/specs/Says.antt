-- What a line of text says of a group. The form is `entry CONTEXT TIME FIRST T0 .. T15`, `call CONTEXT SERVER` or
-- `reply CONTEXT`, with exactly one space before each number.
-- Assumes nothing.
use Rattle.std.specs.Prelude.{ℕ, Bool, true, false, ◌&&◌, cond, List, [], ◌∷◌, eqb, leb, length, get_or, drop, replicate}
use Rattle.std.specs.Prelude as code
use Rattle.std.specs.Prelude.{Some, None}
use Rattle.std.proofs.Math.Option.{Option, some, none}
use Rattle.text.specs.Text.{space, bits8, max_count}
use Rattle.fields.specs.Fields.{fields}
use Rattle.numerals.specs.Plain.{long_of}
use Rattle.lines.specs.Lines.{max_line, fit_in}
use Rattle.group_rules.specs.Limits.{max_servers}
use Rattle.group_rules.specs.Events.{Event, entry, call, reply, said}
use Rattle.group_says.specs.declared.Said.{Said}

-- WORDS AND NUMBERS

-- two texts are the same
unfoldable pub same : List ℕ → List ℕ → Bool
same [] [] = true
same [] (y ∷ t) = false
same (x ∷ s) [] = false
same (x ∷ s) (y ∷ t) = eqb x y && same s t

-- `entry`, `call`, `reply`
abbrev pub entry_word : List ℕ
entry_word = 101 ∷ 110 ∷ 116 ∷ 114 ∷ 121 ∷ []

abbrev pub call_word : List ℕ
call_word = 99 ∷ 97 ∷ 108 ∷ 108 ∷ []

abbrev pub reply_word : List ℕ
reply_word = 114 ∷ 101 ∷ 112 ∷ 108 ∷ 121 ∷ []

abbrev pub with_number : Option ℕ → Option (List ℕ) → Option (List ℕ)
with_number none ns = none
with_number (some n) none = none
with_number (some n) (some ns) = some (n ∷ ns)

-- fields of which each is a plain number of 64 bits
abbrev pub longs_of : List (List ℕ) → Option (List ℕ)
longs_of [] = some []
longs_of (f ∷ fs) = with_number (long_of f) (longs_of fs)

-- the most numbers of a line
abbrev pub most_numbers : ℕ
most_numbers = 19

abbrev pub or_none : Option (List ℕ) → List ℕ
or_none none = []
or_none (some ns) = ns

-- The numbers of a line; none, which fit no event, where one of them is not a plain number or there are too many.
unfoldable pub numbers_of : List (List ℕ) → List ℕ
numbers_of fs = cond (leb (length fs) most_numbers) (or_none (longs_of fs)) []

-- EVENTS, by the numbers and the width of each

-- context, timestamp, first call, and the tickets by server
abbrev pub entry_widths : List ℕ
entry_widths = bits8 ∷ max_count ∷ bits8 ∷ replicate max_servers bits8

unfoldable pub entry_in : List ℕ → Option Event
entry_in ns =
    cond (fit_in entry_widths ns) (some (entry (get_or ns 0 0) (get_or ns 1 0) (get_or ns 2 0) (drop 3 ns))) none

unfoldable pub call_in : List ℕ → Option Event
call_in ns = cond (fit_in (bits8 ∷ bits8 ∷ []) ns) (some (call (get_or ns 0 0) (get_or ns 1 0))) none

unfoldable pub reply_in : List ℕ → Option Event
reply_in ns = cond (fit_in (bits8 ∷ []) ns) (some (reply (get_or ns 0 0))) none

unfoldable pub by_word : List ℕ → List ℕ → Option Event
by_word word ns =
    cond (same word entry_word) (entry_in ns)
    (cond (same word call_word) (call_in ns) (cond (same word reply_word) (reply_in ns) none))

-- the first field is the word
abbrev pub by_fields : List (List ℕ) → Option Event
by_fields [] = none
by_fields (word ∷ fs) = by_word word (numbers_of fs)

-- A line without its LF; none if it is malformed. No event has a line of more than 1,023 bytes.
unfoldable pub says : List ℕ → Option Event
says s = cond (leb (length s) max_line) (by_fields (fields space s)) none

-- what the code answers
abbrev pub said_in : code.Option Said → Option Event
said_in None = none
said_in (Some r) = some (said r.event r.tickets)
