-- A line of text as an order, `e,p,m,K,N1,L1,W1,N2,L2,W2,..`, and the quote that it asks for.
-- Assumes nothing.
use Rattle.std.specs.Prelude.{ℕ, cond, List, [], ◌∷◌, map, ltb, ℤ, length, get_or, drop}
use Rattle.rules.specs.Refusals.{bad_lines}
use Rattle.rules.specs.Quote.{Order, Quote, refused_quote, quote}
use Rattle.text.specs.Text.{comma}
use Rattle.fields.specs.Fields.{fields}
use Rattle.numerals.specs.Numbers.{out_of_range, field_of}

-- FIELDS

-- The fields are separated by commas. (An empty line has one, which is empty: that is answered as no field is.)
unfoldable pub values : List ℕ → List ℤ
values s = map field_of (fields comma s)

-- ORDERS

-- the first, the fourth, and so on
abbrev pub every_third : List ℤ → List ℤ
every_third [] = []
every_third (x ∷ []) = x ∷ []
every_third (x ∷ y ∷ []) = x ∷ []
every_third (x ∷ y ∷ z ∷ l) = x ∷ every_third l

-- A missing one of the first four is out of range at its place. Then N, L and W by turns: with a number of line fields
-- that 3 does not divide the columns differ in length.
abbrev pub order_from : List ℤ → Order
order_from fs =
    record {
      work = get_or fs 0 out_of_range;
      period = get_or fs 1 out_of_range;
      size = get_or fs 2 out_of_range;
      clusters = get_or fs 3 out_of_range;
      calls = every_third (drop 4 fs);
      caps = every_third (drop 5 fs);
      tidies = every_third (drop 6 fs);
    }

-- An order of more than 1,023 bytes is refused as one of too many lines is.
abbrev pub max_bytes : ℕ
max_bytes = 1023

unfoldable pub asked : List ℕ → Quote
asked s = cond (ltb max_bytes (length s)) (refused_quote bad_lines 0) (quote (order_from (values s)))
