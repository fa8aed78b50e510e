-- The orders of an input. An order ends at LF; a CR before it belongs to the end of the line; the last order may lack
-- both; an empty input has no order.
-- Assumes nothing.
use Rattle.std.specs.Prelude.{ℕ, ◌-◌, cond, List, [], ◌∷◌, ◌++◌, map, eqb, length, get_or, take}
use Rattle.rules.specs.Quote.{Quote}
use Rattle.text.specs.Text.{lf, cr}
use Rattle.order.specs.Orders.{asked}

-- without its last byte, if that is a CR
abbrev pub without_cr : List ℕ → List ℕ
without_cr s = cond (eqb (get_or s (length s - 1) 0) cr) (take (length s - 1) s) s

-- the orders that an LF ends, after bytes with which the first has begun
abbrev pub ended : List ℕ → List ℕ → List (List ℕ)
ended begun [] = []
ended begun (b ∷ s) = cond (eqb b lf) (without_cr begun ∷ ended [] s) (ended (begun ++ (b ∷ [])) s)

-- the bytes behind the last LF; with no LF, those with which an order had begun stand before them
abbrev pub behind : List ℕ → List ℕ → List ℕ
behind begun [] = begun
behind begun (b ∷ s) = cond (eqb b lf) (behind [] s) (behind (begun ++ (b ∷ [])) s)

-- the last order, as it stands before the end of the input: none if it has no byte
abbrev pub last : List ℕ → List (List ℕ)
last [] = []
last (b ∷ s) = (b ∷ s) ∷ []

abbrev pub orders : List ℕ → List (List ℕ)
orders s = ended [] s ++ last (behind [] s)

abbrev pub answers : List ℕ → List Quote
answers s = map asked (orders s)
