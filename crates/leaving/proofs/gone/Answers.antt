-- `leaving::gone` meets its contract: c leaves its line, and the refill goes by the rank that the event read.
-- Assumes nothing.
use mathlib.Core.Path.{refl}
use Rattle.rules.specs.Queues.{without}
use Rattle.leaving.proofs.Leaving.{refills-kept, shows-gone, shows-without}
use Rattle.leaving.proofs.gone.Goals as goal

pub returns : goal.returns
returns c =
    let d = c.args.c.0 in
    λ v s fine e h.
    let home = rw e.0 at c.home-k.ensures in
    shows-gone home s
    (c.refilled.ensures v (without c.home-k.result.0 d s) fine
    (refills-kept e.1 refl refl)
    (rw (c.shorter.ensures, c.byte.ensures) (shows-without h home _)))
