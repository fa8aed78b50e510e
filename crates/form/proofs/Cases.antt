-- Inputs as orders and answers as lines, computed. Each text is written as its bytes, under what it is.
-- Assumes nothing.
use Prim.Native.Nat.{ℕ}
use mathlib.Core.Path.{◌≡◌, refl}
use mathlib.Core.List.{List, [], ◌∷◌}
use lib.ListN.{replicate}
use Rattle.rules.specs.Refusals.{accepted, field_out, over_period}
use Rattle.rules.specs.Quote.{Quote, refused_quote, quote}
use Rattle.numerals.specs.Numbers.{field_of}
use Rattle.order.specs.Orders.{values, asked}
use Rattle.form.specs.Input.{orders}
use Rattle.text.specs.Text.{decimal}
use Rattle.form.specs.Output.{line}
use Rattle.form.specs.Parts.{room_bytes, held_after, room_after, output}

abbrev Orders : List ℕ → List (List ℕ) → Type 0
Orders input os = orders input ≡ os

-- nothing
-- LF
-- CR LF
-- a
-- a CR LF b
-- a LF LF b LF
-- a CR CR LF
-- a CR: no LF follows, so the CR is a byte of the order
pub inputs :
    Orders [] []
    × Orders (10 ∷ []) ([] ∷ [])
    × Orders (13 ∷ 10 ∷ []) ([] ∷ [])
    × Orders (97 ∷ []) ((97 ∷ []) ∷ [])
    × Orders (97 ∷ 13 ∷ 10 ∷ 98 ∷ []) ((97 ∷ []) ∷ (98 ∷ []) ∷ [])
    × Orders (97 ∷ 10 ∷ 10 ∷ 98 ∷ 10 ∷ []) ((97 ∷ []) ∷ [] ∷ (98 ∷ []) ∷ [])
    × Orders (97 ∷ 13 ∷ 13 ∷ 10 ∷ []) ((97 ∷ 13 ∷ []) ∷ [])
    × Orders (97 ∷ 13 ∷ []) ((97 ∷ 13 ∷ []) ∷ [])
inputs = (refl, refl, refl, refl, refl, refl, refl, refl)

-- PARTS

-- a part, after bytes that are held: what is held then, and the whole of a small room
-- 5 6, and the part 7 LF 8 9
-- 5 6, and the part 7
-- 5 6, and the part 7 8 LF
pub holds :
    (held_after (5 ∷ 6 ∷ []) (7 ∷ 10 ∷ 8 ∷ 9 ∷ []) ≡ 8 ∷ 9 ∷ [])
    × (room_after (5 ∷ 6 ∷ 0 ∷ 0 ∷ []) 2 (7 ∷ 10 ∷ 8 ∷ 9 ∷ []) ≡ 8 ∷ 9 ∷ 7 ∷ 0 ∷ [])
    × (held_after (5 ∷ 6 ∷ []) (7 ∷ []) ≡ 5 ∷ 6 ∷ 7 ∷ [])
    × (room_after (5 ∷ 6 ∷ 0 ∷ 0 ∷ []) 2 (7 ∷ []) ≡ 5 ∷ 6 ∷ 7 ∷ 0 ∷ [])
    × (held_after (5 ∷ 6 ∷ []) (7 ∷ 8 ∷ 10 ∷ []) ≡ [])
holds = (refl, refl, refl, refl, refl)

-- 1,023 bytes, a CR, and one more; a byte past that is not held
pub room-is : (room_bytes ≡ 1025) × (held_after (replicate 1025 5) (6 ∷ []) ≡ replicate 1025 5)
room-is = (refl, refl)

abbrev Answers : List (List ℕ) → List ℕ → Type 0
Answers parts text = output [] parts ≡ text

-- no part
-- 5,5,1,1 CR: the CR is a byte of the last order, whose field K is then no number
-- 5,5,1,1 CR and LF in another part
-- 5,5,1,1 in three parts, with no LF
-- LF and 7: an empty order, and a last one of one byte
pub parts :
    Answers [] []
    × Answers ((53 ∷ 44 ∷ 53 ∷ 44 ∷ 49 ∷ 44 ∷ 49 ∷ 13 ∷ []) ∷ []) (48 ∷ 32 ∷ 51 ∷ 48 ∷ 32 ∷ 51 ∷ 10 ∷ [])
    × Answers ((53 ∷ 44 ∷ 53 ∷ 44 ∷ 49 ∷ 44 ∷ 49 ∷ 13 ∷ []) ∷ (10 ∷ []) ∷ []) (53 ∷ 32 ∷ 48 ∷ 32 ∷ 48 ∷ 10 ∷ [])
    × Answers ((53 ∷ 44 ∷ []) ∷ (53 ∷ 44 ∷ 49 ∷ 44 ∷ []) ∷ (49 ∷ []) ∷ []) (53 ∷ 32 ∷ 48 ∷ 32 ∷ 48 ∷ 10 ∷ [])
    × Answers ((10 ∷ 55 ∷ []) ∷ [])
    (48 ∷ 32 ∷ 51 ∷ 48 ∷ 32 ∷ 48 ∷ 10 ∷ 48 ∷ 32 ∷ 51 ∷ 48 ∷ 32 ∷ 49 ∷ 10 ∷ [])
unfolding quote asked values field_of decimal
parts = (refl, refl, refl, refl, refl)

-- LINES

abbrev Written : Quote → List ℕ → Type 0
Written q text = line q ≡ text

-- 140 0 0
-- 0 30 5
-- 0 31 0
pub lines :
    Written (record { budget = 140; answer = accepted; place = 0 }) (49 ∷ 52 ∷ 48 ∷ 32 ∷ 48 ∷ 32 ∷ 48 ∷ 10 ∷ [])
    × Written (refused_quote field_out 5) (48 ∷ 32 ∷ 51 ∷ 48 ∷ 32 ∷ 53 ∷ 10 ∷ [])
    × Written (refused_quote over_period 0) (48 ∷ 32 ∷ 51 ∷ 49 ∷ 32 ∷ 48 ∷ 10 ∷ [])
unfolding decimal
lines = (refl, refl, refl)

-- 18446744073709551615
pub largest : decimal 18446744073709551615
    ≡ 49 ∷ 56 ∷ 52 ∷ 52 ∷ 54 ∷ 55 ∷ 52 ∷ 52 ∷ 48 ∷ 55 ∷ 51 ∷ 55 ∷ 48 ∷ 57 ∷ 53 ∷ 53 ∷ 49 ∷ 54 ∷ 49 ∷ 53 ∷ []
unfolding decimal
largest = refl
