-- Lines of text and what they ask for, computed. Each line is written as its bytes, under its text.
-- Assumes nothing.
use Rattle.std.specs.Prelude.{Result, Ok, Err}
use Prim.Native.Nat.{ℕ}
use mathlib.Core.Path.{◌≡◌, refl}
use mathlib.Core.List.{List, [], ◌∷◌}
use lib.ListN.{replicate}
use Rattle.rules.specs.Quote.{quote}
use Rattle.quote.specs.declared.Refusal.{Refusal}
use Rattle.quote.specs.declared.Refusal.TheVariants as refusal
use Rattle.quote.specs.Told.{told}
use Rattle.numerals.specs.Numbers.{field_of}
use Rattle.order.specs.Orders.{order_from, values, asked}

-- what an order may be quoted
abbrev Answer : Type 0
Answer = Result ℕ Refusal

abbrev Accepted : ℕ → Answer
Accepted b = Ok b

abbrev FieldOut : ℕ → Answer
FieldOut at = Err (refusal.FieldOut at)

abbrev OverPeriod : Answer
OverPeriod = Err refusal.OverPeriod

abbrev BadLines : Answer
BadLines = Err refusal.BadLines

abbrev Gives : List ℕ → Answer → Type 0
Gives s a = asked s ≡ told a

-- 100,140,1,1,1,10,0
-- 100,139,1,1,1,10,0
-- 100,140,1,1,1,-40,0
-- 20,290,2,4,3,5,0
-- 5,5,1,1
pub quotes :
    Gives (49 ∷ 48 ∷ 48 ∷ 44 ∷ 49 ∷ 52 ∷ 48 ∷ 44 ∷ 49 ∷ 44 ∷ 49 ∷ 44 ∷ 49 ∷ 44 ∷ 49 ∷ 48 ∷ 44 ∷ 48 ∷ []) (Accepted 140)
    × Gives (49 ∷ 48 ∷ 48 ∷ 44 ∷ 49 ∷ 51 ∷ 57 ∷ 44 ∷ 49 ∷ 44 ∷ 49 ∷ 44 ∷ 49 ∷ 44 ∷ 49 ∷ 48 ∷ 44 ∷ 48 ∷ []) OverPeriod
    × Gives (49 ∷ 48 ∷ 48 ∷ 44 ∷ 49 ∷ 52 ∷ 48 ∷ 44 ∷ 49 ∷ 44 ∷ 49 ∷ 44 ∷ 49 ∷ 44 ∷ 45 ∷ 52 ∷ 48 ∷ 44 ∷ 48 ∷
    []) (FieldOut 5)
    × Gives (50 ∷ 48 ∷ 44 ∷ 50 ∷ 57 ∷ 48 ∷ 44 ∷ 50 ∷ 44 ∷ 52 ∷ 44 ∷ 51 ∷ 44 ∷ 53 ∷ 44 ∷ 48 ∷ []) (Accepted 290)
    × Gives (53 ∷ 44 ∷ 53 ∷ 44 ∷ 49 ∷ 44 ∷ 49 ∷ []) (Accepted 5)
unfolding quote asked values field_of
quotes = (refl, refl, refl, refl, refl)

-- with W: 100 + 1(2 + 2)(10 + 4) in a period of as much, and of one less; W of a second line out of range
-- 100,156,1,1,1,10,4
-- 100,155,1,1,1,10,4
-- 1,99,1,1,1,2,3,4,5,-1
pub tidied :
    Gives (49 ∷ 48 ∷ 48 ∷ 44 ∷ 49 ∷ 53 ∷ 54 ∷ 44 ∷ 49 ∷ 44 ∷ 49 ∷ 44 ∷ 49 ∷ 44 ∷ 49 ∷ 48 ∷ 44 ∷ 52 ∷ []) (Accepted 156)
    × Gives (49 ∷ 48 ∷ 48 ∷ 44 ∷ 49 ∷ 53 ∷ 53 ∷ 44 ∷ 49 ∷ 44 ∷ 49 ∷ 44 ∷ 49 ∷ 44 ∷ 49 ∷ 48 ∷ 44 ∷ 52 ∷ []) OverPeriod
    × Gives (49 ∷ 44 ∷ 57 ∷ 57 ∷ 44 ∷ 49 ∷ 44 ∷ 49 ∷ 44 ∷ 49 ∷ 44 ∷ 50 ∷ 44 ∷ 51 ∷ 44 ∷ 52 ∷ 44 ∷ 53 ∷ 44 ∷ 45 ∷ 49 ∷
    []) (FieldOut 9)
unfolding quote asked values field_of
tidied = (refl, refl, refl)

-- (empty)
-- 1,1,1
-- 1,,1,1
-- 1,1,1,1,1
-- 1,1,1,1,1,1
-- 1,x,1,1,1,1,1,1
-- 1,1,1,1,
-- 1,1,1,1,0,+1,0
-- 1,1,1,1,0,1,
pub fields-wrong :
    Gives ([]) (FieldOut 0)
    × Gives (49 ∷ 44 ∷ 49 ∷ 44 ∷ 49 ∷ []) (FieldOut 3)
    × Gives (49 ∷ 44 ∷ 44 ∷ 49 ∷ 44 ∷ 49 ∷ []) (FieldOut 1)
    × Gives (49 ∷ 44 ∷ 49 ∷ 44 ∷ 49 ∷ 44 ∷ 49 ∷ 44 ∷ 49 ∷ []) BadLines
    × Gives (49 ∷ 44 ∷ 49 ∷ 44 ∷ 49 ∷ 44 ∷ 49 ∷ 44 ∷ 49 ∷ 44 ∷ 49 ∷ []) BadLines
    × Gives (49 ∷ 44 ∷ 120 ∷ 44 ∷ 49 ∷ 44 ∷ 49 ∷ 44 ∷ 49 ∷ 44 ∷ 49 ∷ 44 ∷ 49 ∷ 44 ∷ 49 ∷ []) BadLines
    × Gives (49 ∷ 44 ∷ 49 ∷ 44 ∷ 49 ∷ 44 ∷ 49 ∷ 44 ∷ []) BadLines
    × Gives (49 ∷ 44 ∷ 49 ∷ 44 ∷ 49 ∷ 44 ∷ 49 ∷ 44 ∷ 48 ∷ 44 ∷ 43 ∷ 49 ∷ 44 ∷ 48 ∷ []) (FieldOut 5)
    × Gives (49 ∷ 44 ∷ 49 ∷ 44 ∷ 49 ∷ 44 ∷ 49 ∷ 44 ∷ 48 ∷ 44 ∷ 49 ∷ 44 ∷ []) (FieldOut 6)
unfolding quote asked values field_of
fields-wrong = (refl, refl, refl, refl, refl, refl, refl, refl, refl)

-- an empty line is an order with no fields
pub no_fields : order_from (values []) ≡ order_from []
unfolding values field_of
no_fields = refl

-- 1,024 bytes are too many, whatever they are
pub long : Gives (replicate 1024 49) BadLines
unfolding asked
long = refl
