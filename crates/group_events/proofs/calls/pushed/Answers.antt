-- `group_events::pushed` meets its contract.
-- Assumes nothing.
use mathlib.Core.Path.{ap}
use Rattle.group_events.proofs.calls.pushed.Goals as goal

pub returns : goal.returns
returns c = ap (λ q. record { places = q }) c.append.ensures
