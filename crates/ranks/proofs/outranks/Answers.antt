-- `ranks::outranks` meets its contract: by key, then by number.
-- Assumes nothing.
use borrow.Author.Tests.{eq-eqb, le-ltb, lt-ltb, ne_eqb}
use Rattle.ranks.specs.Ranks.{rank_by}
use Rattle.ranks.proofs.outranks.Goals as goal

pub returns-then-p-q : goal.returns-then-p-q
unfolding rank_by
returns-then-p-q c =
    rw (← c.key-q.ensures, ← c.key-p.ensures, lt-ltb _ _ c.if-p-q.true)

pub returns-then-p-q-2 : goal.returns-then-p-q-2
unfolding rank_by
returns-then-p-q-2 c =
    rw (← c.key-q.ensures, ← c.key-p.ensures, le-ltb _ _ c.if-p-q.false, eq-eqb _ _ c.if-p-q-2.true)

pub returns : goal.returns
unfolding rank_by
returns c =
    rw (← c.key-q.ensures, ← c.key-p.ensures, le-ltb _ _ c.if-p-q.false, ne_eqb _ _ c.if-p-q-2.false)
