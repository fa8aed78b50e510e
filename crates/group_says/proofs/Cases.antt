-- Lines and what they say, computed. A line is written as its bytes, or as a word with bytes behind it, under its text.
-- Assumes nothing.
use Prim.Native.Nat.{ℕ, zero, suc}
use Rattle.std.specs.Prelude.{Some, None}
use mathlib.Core.Path.{◌≡◌, refl}
use mathlib.Core.Bool.{true, false}
use mathlib.Core.List.{List, [], ◌∷◌, ◌++◌}
use mathlib.Core.Option.{Option, some, none}
use lib.ListN.{replicate}
use Rattle.numerals.specs.Plain.{long_of}
use Rattle.lines.specs.Lines.{fit_in}
use Rattle.group_rules.specs.declared.Event.TheVariants as case
use Rattle.group_rules.specs.Groups.{no_tickets}
use Rattle.group_rules.specs.Events.{Event, entry, call, reply}
use Rattle.group_says.specs.Says.{same, entry_word, call_word, reply_word, numbers_of}
use Rattle.group_says.specs.Says.{entry_in, call_in, reply_in, by_word, says, said_in}

-- WORDS

-- two texts: empty, the same, one longer, another first or last byte
pub words :
    (same [] [] ≡ true)
    × (same (7 ∷ 8 ∷ []) (7 ∷ 8 ∷ []) ≡ true)
    × (same (7 ∷ 8 ∷ []) (7 ∷ []) ≡ false)
    × (same (7 ∷ []) (7 ∷ 8 ∷ []) ≡ false)
    × (same (9 ∷ 8 ∷ []) (7 ∷ 8 ∷ []) ≡ false)
    × (same (7 ∷ 9 ∷ []) (7 ∷ 8 ∷ []) ≡ false)
unfolding same
words = (refl, refl, refl, refl, refl, refl)

-- NUMBERS

-- fields that are all `0`, 19 and 20 of them; and one that is no number, among others
pub numbers :
    (numbers_of (replicate 19 (48 ∷ [])) ≡ replicate 19 0)
    × (numbers_of (replicate 20 (48 ∷ [])) ≡ [])
    × (numbers_of ((48 ∷ []) ∷ [] ∷ (49 ∷ []) ∷ []) ≡ [])
    × (numbers_of ((48 ∷ []) ∷ (49 ∷ []) ∷ []) ≡ 0 ∷ 1 ∷ [])
unfolding numbers_of long_of
numbers = (refl, refl, refl, refl)

-- LINES

-- a word, a space and more
abbrev behind : List ℕ → List ℕ → List ℕ
behind word more = word ++ 32 ∷ more

-- a space and `0`, k times
abbrev noughts : ℕ → List ℕ
noughts zero = []
noughts (suc k) = 32 ∷ 48 ∷ noughts k

-- an entry by its first numbers and how many noughts follow them
abbrev entry_line : List ℕ → ℕ → List ℕ
entry_line first k = behind entry_word (first ++ noughts k)

abbrev Says : List ℕ → Option Event → Type 0
Says s e = says s ≡ e

-- entry 3 18446744073709551615 2 4, then 15 noughts
-- call 0 15
-- reply 7
-- reply 255
pub events :
    Says (entry_line (51 ∷ 32 ∷ 49 ∷ 56 ∷ 52 ∷ 52 ∷ 54 ∷ 55 ∷ 52 ∷ 52 ∷ 48 ∷ 55
    ∷ 51 ∷ 55 ∷ 48 ∷ 57 ∷ 53 ∷ 53 ∷ 49 ∷ 54 ∷ 49 ∷ 53 ∷ 32 ∷ 50 ∷ 32 ∷ 52 ∷ []) 15)
    (some (entry 3 18446744073709551615 2 (4 ∷ replicate 15 0)))
    × Says (behind call_word (48 ∷ 32 ∷ 49 ∷ 53 ∷ [])) (some (call 0 15))
    × Says (behind reply_word (55 ∷ [])) (some (reply 7))
    × Says (behind reply_word (50 ∷ 53 ∷ 53 ∷ [])) (some (reply 255))
unfolding says by_word entry_in call_in reply_in numbers_of same fit_in long_of
events = (refl, refl, refl, refl)

abbrev Malformed : List ℕ → Type 0
Malformed s = Says s none

-- another word
-- (empty)
-- exit 0
-- Reply 0
-- repl 0
-- replys 0
-- a space, then reply 0
pub other-words :
    Malformed []
    × Malformed (101 ∷ 120 ∷ 105 ∷ 116 ∷ 32 ∷ 48 ∷ [])
    × Malformed (82 ∷ 101 ∷ 112 ∷ 108 ∷ 121 ∷ 32 ∷ 48 ∷ [])
    × Malformed (114 ∷ 101 ∷ 112 ∷ 108 ∷ 32 ∷ 48 ∷ [])
    × Malformed (114 ∷ 101 ∷ 112 ∷ 108 ∷ 121 ∷ 115 ∷ 32 ∷ 48 ∷ [])
    × Malformed (32 ∷ 114 ∷ 101 ∷ 112 ∷ 108 ∷ 121 ∷ 32 ∷ 48 ∷ [])
unfolding says by_word entry_in call_in reply_in numbers_of same fit_in long_of
other-words = (refl, refl, refl, refl, refl, refl)

-- too few numbers, or too many
-- reply
-- reply 0 1
-- call 0
-- call 0 1 2
-- entry 0 1 2, then 15 noughts
-- entry 0 1 2, then 17 noughts
pub other-counts :
    Malformed reply_word
    × Malformed (behind reply_word (48 ∷ 32 ∷ 49 ∷ []))
    × Malformed (behind call_word (48 ∷ []))
    × Malformed (behind call_word (48 ∷ 32 ∷ 49 ∷ 32 ∷ 50 ∷ []))
    × Malformed (entry_line (48 ∷ 32 ∷ 49 ∷ 32 ∷ 50 ∷ []) 15)
    × Malformed (entry_line (48 ∷ 32 ∷ 49 ∷ 32 ∷ 50 ∷ []) 17)
unfolding says by_word entry_in call_in reply_in numbers_of same fit_in long_of
other-counts = (refl, refl, refl, refl, refl, refl)

-- bytes that belong to no number
-- reply 0 and a CR
-- reply, two spaces, 0
-- reply 0 and a space
-- reply and a space
-- reply 00
-- reply 01
-- reply -
-- reply -1
-- reply, a tab, 0
pub strict :
    Malformed (behind reply_word (48 ∷ 13 ∷ []))
    × Malformed (behind reply_word (32 ∷ 48 ∷ []))
    × Malformed (behind reply_word (48 ∷ 32 ∷ []))
    × Malformed (behind reply_word [])
    × Malformed (behind reply_word (48 ∷ 48 ∷ []))
    × Malformed (behind reply_word (48 ∷ 49 ∷ []))
    × Malformed (behind reply_word (45 ∷ []))
    × Malformed (behind reply_word (45 ∷ 49 ∷ []))
    × Malformed (reply_word ++ 9 ∷ 48 ∷ [])
unfolding says by_word entry_in call_in reply_in numbers_of same fit_in long_of
strict = (refl, refl, refl, refl, refl, refl, refl, refl, refl)

-- numbers that are too wide
-- reply 256
-- call 256 0
-- call 0 256
-- entry 256 1 2, then 16 noughts
-- entry 0 1 256, then 16 noughts
-- entry 0 1 2 256, then 15 noughts
-- entry 0 18446744073709551616 2, then 16 noughts
pub too_wide :
    Malformed (behind reply_word (50 ∷ 53 ∷ 54 ∷ []))
    × Malformed (behind call_word (50 ∷ 53 ∷ 54 ∷ 32 ∷ 48 ∷ []))
    × Malformed (behind call_word (48 ∷ 32 ∷ 50 ∷ 53 ∷ 54 ∷ []))
    × Malformed (entry_line (50 ∷ 53 ∷ 54 ∷ 32 ∷ 49 ∷ 32 ∷ 50 ∷ []) 16)
    × Malformed (entry_line (48 ∷ 32 ∷ 49 ∷ 32 ∷ 50 ∷ 53 ∷ 54 ∷ []) 16)
    × Malformed (entry_line (48 ∷ 32 ∷ 49 ∷ 32 ∷ 50 ∷ 32 ∷ 50 ∷ 53 ∷ 54 ∷ []) 15)
    × Malformed (entry_line (48 ∷ 32 ∷ 49 ∷ 56 ∷ 52 ∷ 52 ∷ 54 ∷ 55 ∷ 52 ∷ 52 ∷ 48 ∷ 55
    ∷ 51 ∷ 55 ∷ 48 ∷ 57 ∷ 53 ∷ 53 ∷ 49 ∷ 54 ∷ 49 ∷ 54 ∷ 32 ∷ 50 ∷ []) 16)
unfolding says by_word entry_in call_in reply_in numbers_of same fit_in long_of
too_wide = (refl, refl, refl, refl, refl, refl, refl)

-- WHAT THE CODE ANSWERS

pub told :
    (said_in (Some (record { event = case.Call (record { 0 = 1 }) (record { 0 = 2 }); tickets = no_tickets }))
    ≡ some (call 1 2))
    × (said_in None ≡ none)
told = (refl, refl)
