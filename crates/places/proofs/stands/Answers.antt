-- `stands` finds x at a used place, an unused place, or none.
-- Assumes nothing.
use mathlib.Core.Path.{sym, ◌∙◌}
use borrow.Author.Tests.{le-ltb}
use Rattle.places.proofs.Queues.{stands_at, stands-none}
use Rattle.places.proofs.stands.Goals as goal

pub returns-then-at-q : goal.returns-then-at-q
returns-then-at-q c =
    let a = c.args in
    rw c.place_for-at.ensures
    (stands_at a.x a.q.now 0 (rw c.place_for-at.ensures at c.if-at-q.true))

pub returns-else-at-q : goal.returns-else-at-q
returns-else-at-q c =
    let a = c.args in
    le-ltb _ _ c.if-at-q.false ∙ sym (stands-none a.x a.q.now (rw c.place_for-at.ensures at c.if-at-q.false))
