-- `checking::same_charges` meets its contract: the library compares them one by one.
-- Assumes nothing.
use mathlib.Core.Path.{◌∙◌}
use Rattle.checking.proofs.Same.{charges-is}
use Rattle.checking.proofs.same_charges.Goals as goal

pub returns : goal.returns
returns c = c.eq.ensures ∙ charges-is c.args.theirs.now c.args.ours.now
