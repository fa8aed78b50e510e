-- `append` stores at the first unused place, or nowhere if all are used.
-- Assumes nothing.
use mathlib.Core.Path.{sym}
use lib.Seq.{set_out}
use Rattle.places.specs.Places.{used_of, append_of}
use Rattle.places.proofs.append.Goals as goal

pub returns-then-at-q : goal.returns-then-at-q
unfolding append_of
returns-then-at-q c = rw c.used-at.ensures

pub returns-else-at-q : goal.returns-else-at-q
unfolding append_of
returns-else-at-q c =
    let a = c.args in
    sym (set_out a.q.now (used_of a.q.now) a.x (rw c.used-at.ensures at c.if-at-q.false))
