-- `tracing::none_read` meets its contract.
-- Assumes nothing.
use Rattle.tracing.specs.Tracing.{none_read}
use Rattle.tracing.proofs.none_read.Goals as goal

pub returns : goal.returns
unfolding none_read
returns c = record {
  value = rw (c.start.ensures.value, c.head_setup-s.ensures);
  going = c.start.ensures.going;
}
