-- `group_says::is_word` meets its contract: the library compares byte by byte.
-- Assumes nothing.
use mathlib.Core.Path.{◌∙◌}
use Rattle.group_says.proofs.Words.{same-is}
use Rattle.group_says.proofs.is_word.Goals as goal

pub returns : goal.returns
returns c = c.eq.ensures ∙ same-is c.args.s.now c.args.word.now
