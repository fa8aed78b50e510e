-- `with` answers the set with one more: below 64 the bit is set, and from 64 on nothing changes.
-- Assumes nothing.
use mathlib.Core.Path.{ap, sym, ◌∙◌}
use mathlib.Core.Bool.{true}
use native.Mathlib.Omega.{arith}
use lib.Bits.{bit_or}
use Rattle.sets.proofs.Laws.{member-upd-past}
use Rattle.sets.proofs.Words.{one_shifted, or-one}
use Rattle.sets.proofs.with.Goals as goal

pub returns-then-c-lt-WIDTH : goal.returns-then-c-lt-WIDTH
returns-then-c-lt-WIDTH c =
    let a = c.args in
    ap (bit_or a.s) (one_shifted 64 a.c (omega arith)) ∙ or-one 64 a.s a.c (omega arith) (omega arith)

pub returns-else-c-lt-WIDTH : goal.returns-else-c-lt-WIDTH
returns-else-c-lt-WIDTH c = let a = c.args in sym (member-upd-past 64 a.s a.c true (omega arith) (omega arith))
