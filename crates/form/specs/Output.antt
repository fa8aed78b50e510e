-- An answer as a line of text, `BUDGET ANSWER PLACE`.
-- Assumes nothing.
use Rattle.std.specs.Prelude.{ℕ, ◌+◌, ◌*◌, List, [], ◌∷◌, ◌++◌}
use Rattle.text.specs.Text.{max_digits, lf, space, decimal}
use Rattle.rules.specs.Quote.{Quote}

-- the three numbers, and an LF at the end
abbrev pub line : Quote → List ℕ
line q = decimal q.budget ++ space ∷ decimal q.answer ++ space ∷ decimal q.place ++ lf ∷ []

-- the most bytes of a line: three numbers, and a byte after each
abbrev pub line_bytes : ℕ
line_bytes = 3 * (max_digits + 1)

-- answers, a line each
abbrev pub lines : List Quote → List ℕ
lines [] = []
lines (q ∷ qs) = line q ++ lines qs
