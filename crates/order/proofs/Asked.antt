-- What a line asks for, by its length and the number of its fields.
-- Assumes nothing.
use Prim.Native.Nat.{ℕ, ◌≤◌, ◌<◌}
use native.Mathlib.Omega.{arith}
use mathlib.Core.Path.{◌≡◌, ◌∙◌}
use mathlib.Core.List.{List}
use lib.IntN.{ℤ}
use lib.ListN.{length, get_or, drop, length-map}
use borrow.Author.Tests.{lt-ltb, le-ltb}
use Rattle.rules.specs.Refusals.{bad_lines}
use Rattle.rules.specs.Quote.{order_of, refused_quote, quote}
use Rattle.quote.proofs.Answers.{many-lines}
use Rattle.fields.specs.Fields.{fields}
use Rattle.numerals.specs.Numbers.{out_of_range, field_of}
use Rattle.text.specs.Text.{comma}
use Rattle.order.specs.Orders.{values, every_third, order_from, max_bytes, asked}
use Rattle.order.specs.Steps.{max_fields}
use Rattle.order.proofs.Columns.{length-column}

pub length-values : (s : List ℕ) → length (values s) ≡ length (fields comma s)
unfolding values
length-values s = length-map (fields comma s) field_of

module _ (s : List ℕ) where
  pub too_long : max_bytes < length s → asked s ≡ refused_quote bad_lines 0
  unfolding asked
  too_long h = rw (lt-ltb max_bytes (length s) h)

  module _ (short : length s ≤ max_bytes) where
    pub not-long : asked s ≡ quote (order_from (values s))
    unfolding asked
    not-long = rw (le-ltb max_bytes (length s) short)

    pub many-fields : max_fields < length (fields comma s) → asked s ≡ refused_quote bad_lines 0
    many-fields h =
        not-long ∙ many-lines (order_from (values s)) (omega (arith, length-column (values s) 4, length-values s))

-- the fields and the columns that were read are those of the order
pub same-order : (vs : List ℤ) {e p m K : ℤ} {calls caps tidies : List ℤ}
    → e ≡ get_or vs 0 out_of_range → p ≡ get_or vs 1 out_of_range
    → m ≡ get_or vs 2 out_of_range → K ≡ get_or vs 3 out_of_range
    → calls ≡ every_third (drop 4 vs) → caps ≡ every_third (drop 5 vs) → tidies ≡ every_third (drop 6 vs)
    → quote (order_of e p m K calls caps tidies) ≡ quote (order_from vs)
same-order vs e p m K calls caps tidies = rw (e, p, m, K, calls, caps, tidies)
