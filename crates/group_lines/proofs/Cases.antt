-- Inputs and what is told of them, computed; and what is held. A text is written as its bytes, under what they say.
-- Assumes nothing.
use Prim.Native.Nat.{ℕ, zero, suc, ◌+◌}
use mathlib.Core.Path.{◌≡◌, refl}
use mathlib.Core.Bool.{true, false}
use mathlib.Core.List.{List, [], ◌∷◌, ◌++◌}
use mathlib.Core.Option.{some}
use lib.ListN.{length, take, replicate}
use Rattle.text.specs.Text.{decimal}
use Rattle.places.specs.Places.{pad, unpad, holds_only}
use Rattle.places.specs.Tests.{every, all_below}
use Rattle.numerals.specs.Plain.{long_of}
use Rattle.lines.specs.Lines.{fit_in}
use Rattle.group_rules.specs.declared.Group.{Group}
use Rattle.group_rules.specs.Groups.{no_tickets, no_calls, stack_with, none_entered}
use Rattle.group_rules.specs.Blocking.{share, committed, blocker_of, delegate_of}
use Rattle.group_rules.specs.Sound.{few_tickets, is_empty, context_sound, sound_of}
use Rattle.group_rules.specs.Events.{Event, entry, entry_answer, reply_answer, filled, entered, answer_of, step_of}
use Rattle.group_says.specs.Says.{same, entry_word, reply_word, numbers_of, entry_in, reply_in, by_word, says}
use Rattle.group_tells.specs.Tells.{first_fields, event_text, malformed_text}
use Rattle.group_lines.specs.Reading.{Progress, none_read, after_line, line_text, report}
use Rattle.group_lines.specs.Parts.{held_of, begun_in, none_held, output}

-- WHAT IS TOLD

-- a space and `.`, k times
abbrev dots : ℕ → List ℕ
dots zero = []
dots (suc k) = 32 ∷ 46 ∷ dots k

-- a space and `0`, k times
abbrev noughts : ℕ → List ℕ
noughts zero = []
noughts (suc k) = 32 ∷ 48 ∷ noughts k

-- an LF behind a text
abbrev ended : List ℕ → List ℕ
ended s = s ++ (10 ∷ [])

-- `reply 0`, as a whole line
abbrev reply_line : List ℕ
reply_line = ended (reply_word ++ 32 ∷ 48 ∷ [])

-- `malformed` and a number of one digit, as a whole line
abbrev malformed_line : ℕ → List ℕ
malformed_line n = 109 ∷ 97 ∷ 108 ∷ 102 ∷ 111 ∷ 114 ∷ 109 ∷ 101 ∷ 100 ∷ 32 ∷ (48 + n) ∷ 10 ∷ []

-- 45, of a group that nobody has entered, as the line of event n
abbrev refused_line : ℕ → List ℕ
refused_line n = ended ((48 + n) ∷ 32 ∷ 52 ∷ 53 ∷ dots 8)

abbrev Tells : List ℕ → List ℕ → Type 0
Tells input text = report input ≡ text

-- (nothing)
-- reply 0 LF
-- reply 0
-- LF
-- reply 0 LF LF reply 0 LF
-- reply 0 LF reply 0 LF reply 0
pub inputs :
    Tells [] []
    × Tells reply_line (refused_line 0)
    × Tells (reply_word ++ 32 ∷ 48 ∷ []) (malformed_line 1)
    × Tells (10 ∷ []) (malformed_line 1)
    × Tells (reply_line ++ 10 ∷ reply_line) (refused_line 0 ++ malformed_line 2)
    × Tells (reply_line ++ reply_line ++ reply_word) (refused_line 0 ++ refused_line 1 ++ malformed_line 3)
unfolding after_line line_text says by_word reply_in numbers_of same fit_in long_of answer_of step_of reply_answer sound_of
    context_sound is_empty all_below every holds_only unpad pad first_fields delegate_of event_text malformed_text decimal
inputs = (refl, refl, refl, refl, refl, refl)

-- `entry 0 1 1`, with one ticket for server 1
abbrev entry_text : List ℕ
entry_text = entry_word ++ 32 ∷ 48 ∷ 32 ∷ 49 ∷ 32 ∷ 49 ∷ 32 ∷ 48 ∷ 32 ∷ 49 ∷ noughts 14

abbrev tickets : List ℕ
tickets = 0 ∷ 1 ∷ replicate 14 0

abbrev enters : Event
enters = entry 0 1 1 tickets

-- the group after it
abbrev one : Group
one = record {
  entered = true;
  last = 1;
  times = 1 ∷ replicate 7 0;
  tickets = record { counts = tickets } ∷ replicate 7 no_tickets;
  stacks = stack_with (1 ∷ []) ∷ replicate 7 no_calls;
}

said : says entry_text ≡ some enters
unfolding says by_word entry_in numbers_of same fit_in long_of
said = refl

answered : answer_of none_entered enters ≡ 0
unfolding answer_of sound_of context_sound is_empty all_below every holds_only unpad pad entry_answer few_tickets
answered = refl

left : step_of none_entered enters ≡ one
unfolding step_of entered filled pad
left = rw answered

-- 0 0 +1 . . . . . . .
text : event_text 0 0 one ≡ 48 ∷ 32 ∷ 48 ∷ 32 ∷ 43 ∷ 49 ∷ ended (dots 7)
unfolding event_text first_fields delegate_of committed share blocker_of unpad pad decimal
text = refl

-- it is accepted: the group, both counts, and what is told
pub accepted :
    (after_line none_read entry_text ≡ record { group = one; events = 1; lines = 1; malformed = false })
    × (line_text none_read entry_text ≡ 48 ∷ 32 ∷ 48 ∷ 32 ∷ 43 ∷ 49 ∷ ended (dots 7))
unfolding after_line line_text
accepted = (rw (said, left), rw (said, answered, left) text)

-- WHAT IS HELD

module _ (p : Progress) where
  -- two bytes with a zero behind them; 1,024 bytes; one byte more is not held
  pub holds :
      ((held_of (record { state = p; rest = 5 ∷ 6 ∷ [] })).n ≡ 2)
      × (take 3 (held_of (record { state = p; rest = 5 ∷ 6 ∷ [] })).room ≡ 5 ∷ 6 ∷ 0 ∷ [])
      × (length (held_of (record { state = p; rest = 5 ∷ 6 ∷ [] })).room ≡ 1024)
      × ((held_of (record { state = p; rest = replicate 1024 5 })).n ≡ 1024)
      × ((held_of (record { state = p; rest = replicate 1025 5 })).n ≡ 1024)
  holds = (refl, refl, refl, refl, refl)

-- before an input
pub none-held : (none_held.n ≡ 0) × (begun_in none_held ≡ []) × (none_held.used ≡ 0) × (none_held.run ≡ none_read)
none-held = (refl, refl, refl, refl)

-- `reply 0` LF in two parts, and `reply` without LF in two
pub parts :
    (output none_held (reply_word ∷ (32 ∷ 48 ∷ 10 ∷ []) ∷ []) ≡ refused_line 0)
    × (output none_held ((114 ∷ []) ∷ (101 ∷ []) ∷ []) ≡ malformed_line 1)
unfolding after_line line_text says by_word reply_in numbers_of same fit_in long_of answer_of step_of reply_answer sound_of
    context_sound is_empty all_below every holds_only unpad pad first_fields delegate_of event_text malformed_text decimal
parts = (refl, refl)
