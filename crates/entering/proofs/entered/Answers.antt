-- `entering::entered` meets its contract.
-- Assumes nothing.
use Rattle.entering.proofs.entered.Goals as goal

pub returns-then-is_real_time : goal.returns-then-is_real_time
returns-then-is_real_time c =
    λ v s fine e h.
    rw (← rw e.0 at c.is_real_time.ensures, c.if-is_real_time.true)
    (c.arrived.ensures v s fine (e.1, e.2, e.3) h)

pub returns : goal.returns
returns c =
    λ v s fine e h.
    rw (← rw e.0 at c.is_real_time.ensures, c.if-is_real_time.false)
    (c.behind.ensures v s fine e.3 h)
