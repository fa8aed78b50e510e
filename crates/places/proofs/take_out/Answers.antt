-- `take_out` closes up the first place that holds x, or none if none does.
-- Assumes nothing.
use Rattle.places.specs.Places.{take_out_of}
use Rattle.places.proofs.take_out.Goals as goal

pub returns : goal.returns
unfolding take_out_of
returns c = rw (← c.find-at.ensures) c.close_up.ensures
