-- What the functions on the way to a budget ask and answer.
-- Assumes nothing.
use Rattle.std.specs.Prelude.{ℕ, ◌+◌, ◌*◌, ◌≤◌, ◌≡◌, true, List, ℤ, length}
use Rattle.rules.specs.Demands.{worst}
use Rattle.rules.specs.Limits.{max_size, max_clusters, max_calls, max_cap, max_tidy}
use Rattle.rules.specs.Quote.{Order, in_range, fields_fit, lines_fit, first_false, Even}

-- the place of the first field that is out of its range
unfoldable pub fields_out : Order → ℕ
fields_out o = first_false (fields_fit o)

-- N, L and W of a line are in their ranges
pub record LineIn (n l w : ℤ) : Type 0 where
  pub calls : in_range 0 max_calls n ≡ true
  pub cap : in_range 1 max_cap l ≡ true
  pub tidy : in_range 0 max_tidy w ≡ true

-- the columns are equally long, and N, L and W of each line are in their ranges
pub record AllFit (calls caps tidies : List ℤ) : Type 0 where
  pub even : Even calls caps tidies
  pub fit : 3 * length calls ≤ first_false (lines_fit calls caps tidies)

-- the most that a line can burn
abbrev pub most_of_line : ℕ
most_of_line = max_calls * worst max_size max_clusters (max_cap + max_tidy)
