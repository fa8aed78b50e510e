-- `close_up` copies what stands behind the place onto it, and the last place becomes unused.
-- Assumes nothing.
use mathlib.Core.Path.{sym}
use Rattle.places.proofs.Turns.{close-none, close-copied}
use Rattle.places.proofs.close_up.Goals as goal

pub returns-then-q-at : goal.returns-then-q-at
returns-then-q-at c = sym (close-none c.args.q.now c.args.at c.if-q-at.true)

pub returns : goal.returns
returns c = let a = c.args in let e = c.copy_within.ensures.after in rw e (close-copied a.q.now a.at c.if-q-at.false)
