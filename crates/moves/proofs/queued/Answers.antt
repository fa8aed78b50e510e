-- `moves::queued` meets its contract: the cluster is blocked, or its line is empty, or its front joins.
-- Assumes nothing.
use native.Mathlib.Omega.{arith}
use Rattle.moves.proofs.Queue.{blocked-is, queue-blocked, queue-empty, queue-joins}
use Rattle.moves.proofs.queued.Goals as goal

pub returns-then-is_blocked : goal.returns-then-is_blocked
returns-then-is_blocked c =
    λ v s fine e h.
    queue-blocked h c.args.k.0 (blocked-is h _ (c.is_blocked.ensures v e.0))
    c.if-is_blocked.true

pub returns-then-x : goal.returns-then-x
returns-then-x c =
    λ v s fine e h.
    queue-empty h c.args.k.0
    (blocked-is h _ (c.is_blocked.ensures v e.0))
    c.if-is_blocked.false (omega arith) _
    c.front-x.ensures c.if-x.true

pub returns : goal.returns
returns c =
    λ v s fine e h.
    rw c.append.ensures
    (queue-joins h c.args.k.0 (blocked-is h _ (c.is_blocked.ensures v e.0))
    c.if-is_blocked.false (omega arith) _
    c.front-x.ensures c.if-x.false e.1)
