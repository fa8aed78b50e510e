-- `numerals::plain_value` meets its contract: what fits 32 bits fits 64.
-- Assumes nothing.
use mathlib.Core.Path.{ap, ◌∙◌}
use Prim.Native.Nat.{ℕ, min}
use Rattle.numerals.specs.Plain.{no_plain, plain, plain_of, long_of}
use Rattle.numerals.proofs.Plain.{narrow_size}
use Rattle.numerals.proofs.plain_value.Goals as goal

pub returns : goal.returns
unfolding plain_of long_of
returns c =
    c.min.ensures
    ∙ ap (λ (n : ℕ). min n no_plain) c.unwrap_or.ensures
    ∙ narrow_size (plain c.args.f.now) c.long_value.result c.long_value.ensures
