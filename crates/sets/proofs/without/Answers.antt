-- `without` answers the set with one less: below 64 the bit is set and then turned, and from 64 on nothing changes.
-- Assumes nothing.
use Prim.Native.Nat.{ℕ}
use mathlib.Core.Path.{ap, sym, ◌∙◌}
use mathlib.Core.Bool.{false}
use native.Mathlib.Omega.{arith}
use lib.Bits.{bit_or, bit_xor}
use Rattle.sets.proofs.Laws.{member-upd-past}
use Rattle.sets.proofs.Words.{one_shifted, or-xor-one}
use Rattle.sets.proofs.without.Goals as goal

pub returns-then-c-lt-WIDTH : goal.returns-then-c-lt-WIDTH
returns-then-c-lt-WIDTH c =
    let a = c.args in
    ap (λ (x : ℕ). bit_xor (bit_or a.s x) x) (one_shifted 64 a.c (omega arith))
    ∙ or-xor-one 64 a.s a.c (omega arith) (omega arith)

pub returns-else-c-lt-WIDTH : goal.returns-else-c-lt-WIDTH
returns-else-c-lt-WIDTH c = let a = c.args in sym (member-upd-past 64 a.s a.c false (omega arith) (omega arith))
