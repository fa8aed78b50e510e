-- `moves::picked` meets its contract: the first of the global queue, or of the background queue, or nobody.
-- Assumes nothing.
use Rattle.moves.proofs.Pick.{pick-best, pick-front, pick-none}
use Rattle.moves.proofs.picked.Goals as goal

pub returns-then-x : goal.returns-then-x
returns-then-x c =
    λ v s fine e h.
    rw (c.served.ensures, c.from.ensures, c.close_up.ensures)
    (pick-front h c.if-x.true)

pub returns-then-y : goal.returns-then-y
returns-then-y c =
    λ v s fine e h.
    rw (c.served-then-y.ensures, c.from-then-y.ensures, c.close_up-then-y.ensures)
    (pick-best h c.if-x.false
    c.if-y.true)

pub returns : goal.returns
returns c =
    λ v s fine e h. rw c.served-2.ensures (pick-none h c.if-x.false c.if-y.false)
