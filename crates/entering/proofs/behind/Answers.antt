-- `entering::behind` meets its contract.
-- Assumes nothing.
use Rattle.parts.proofs.Parts.{joins, shows-background}
use Rattle.entering.proofs.behind.Goals as goal

pub returns : goal.returns
returns c =
    λ v s fine e h.
    rw (c.join.ensures, c.byte.ensures)
    (shows-background h (joins h.background c.args.c.0 e.last c.requires e.absent))
