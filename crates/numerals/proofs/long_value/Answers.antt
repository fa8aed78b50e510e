-- `numerals::long_value` meets its contract, by whether the field has a zero in front.
-- Assumes nothing.
use mathlib.Core.Path.{sym, ◌∙◌}
use Rattle.numerals.specs.Plain.{long_of}
use Rattle.numerals.proofs.long_value.Goals as goal

pub returns-then-zero_first : goal.returns-then-zero_first
unfolding long_of
returns-then-zero_first c = rw (sym c.zero_first.ensures ∙ c.if-zero_first.true)

pub returns-else-zero_first : goal.returns-else-zero_first
unfolding long_of
returns-else-zero_first c = rw (sym c.zero_first.ensures ∙ c.if-zero_first.false) c.size.ensures
