-- `join` stores where x stands or would join, or nowhere if there is no such place.
-- Assumes nothing.
use mathlib.Core.Path.{sym}
use lib.Seq.{set_out}
use Rattle.places.specs.Places.{place_for, join_of}
use Rattle.places.proofs.join.Goals as goal

pub returns-then-at-q : goal.returns-then-at-q
unfolding join_of
returns-then-at-q c = rw c.place_for-at.ensures

pub returns-else-at-q : goal.returns-else-at-q
unfolding join_of
returns-else-at-q c =
    let a = c.args in
    let none = rw c.place_for-at.ensures at c.if-at-q.false in
    sym (set_out a.q.now (place_for a.x a.q.now) a.x none)
