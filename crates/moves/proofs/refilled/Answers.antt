-- `moves::refilled` meets its contract: nobody is in the room, or the line is full, or the highest in rank moves.
-- Assumes nothing.
use native.Mathlib.Omega.{arith}
use Rattle.moves.proofs.Refill.{refill-empty, refill-full, refill-moves}
use Rattle.moves.proofs.refilled.Goals as goal

pub returns-then-room-eq0 : goal.returns-then-room-eq0
returns-then-room-eq0 c =
    let k = c.args.k.0 in
    λ v s fine e h. refill-empty fine h k (omega arith) c.if-room-eq0.true

pub returns-then-size-used : goal.returns-then-size-used
returns-then-size-used c =
    let k = c.args.k.0 in
    λ v s fine e h.
    refill-full fine h k (omega arith) _ (rw e.sizes at c.size.ensures) c.used.ensures c.if-size-used.true

pub returns : goal.returns
returns c =
    let h-in = c.highest_in-c in
    let k = c.args.k.0 in
    λ v s fine e h.
    rw (c.without.ensures, c.longer.ensures)
    (refill-moves fine h k (omega arith) _ (rw e.sizes at c.size.ensures)
    c.used.ensures c.if-size-used.false e.known _ h-in.result h-in.ensures.1 e.keys
    h-in.ensures.0)
