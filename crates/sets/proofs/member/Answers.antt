-- `member` answers whether a number is in a set: below 64 by its bit, and from 64 on there is none.
-- Assumes nothing.
use mathlib.Core.Path.{refl, sym}
use native.Mathlib.Omega.{arith}
use Rattle.sets.specs.Sets.{member}
use Rattle.sets.proofs.Bits.{member-past}
use Rattle.sets.proofs.member.Goals as goal

pub returns-then-c-lt-WIDTH : goal.returns-then-c-lt-WIDTH
unfolding member
returns-then-c-lt-WIDTH c = refl

pub returns-else-c-lt-WIDTH : goal.returns-else-c-lt-WIDTH
returns-else-c-lt-WIDTH c = let a = c.args in sym (member-past 64 a.s a.c (omega arith) (omega arith))
