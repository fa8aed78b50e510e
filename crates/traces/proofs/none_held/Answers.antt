-- `traces::none_held` meets its contract.
-- Assumes nothing.
use Rattle.traces.proofs.none_held.Goals as goal

pub returns : goal.returns
returns c = record {
  value = rw c.none_read-t.ensures.value;
  going = c.none_read-t.ensures.going;
}
