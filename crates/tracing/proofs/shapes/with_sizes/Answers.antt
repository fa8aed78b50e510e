-- `tracing::with_sizes` meets its contract.
-- Assumes nothing.
use Rattle.tracing.specs.Shapes.{with_sizes}
use Rattle.tracing.proofs.shapes.with_sizes.Goals as goal

pub returns : goal.returns
unfolding with_sizes
returns c = rw c.sizes_in-sizes.ensures
