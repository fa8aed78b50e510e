-- `leaving::unqueued` meets its contract.
-- Assumes nothing.
use Rattle.leaving.proofs.unqueued.Goals as goal

pub returns : goal.returns
returns c = rw (c.take_out.ensures, c.byte.ensures)
