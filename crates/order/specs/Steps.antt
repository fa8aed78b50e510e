-- What the functions on the way to a line's quote answer.
-- Assumes nothing.
use Rattle.std.specs.Prelude.{ℕ, ◌+◌, ◌-◌, ◌*◌, ◌/◌, ◌<◌, ◌≡◌, List, ℤ, pos, get_or}
use Rattle.rules.specs.Limits.{max_lines}

-- the first four, and N, L and W of each line
abbrev pub max_fields : ℕ
max_fields = 4 + 3 * max_lines

-- a column holds every third place from one on
abbrev pub Column : List ℤ → ℕ → List ℤ → Type 0
Column v from column = (i : ℕ) → i < max_lines → get_or column i (pos 0) ≡ get_or v (from + 3 * i) (pos 0)

-- how many fields of n stand in the column that starts at a field
abbrev pub in_column : ℕ → ℕ → ℕ
in_column n from = (n - from + 2) / 3
