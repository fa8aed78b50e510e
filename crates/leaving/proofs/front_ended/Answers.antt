-- `leaving::front_ended` meets its contract.
-- Assumes nothing.
use mathlib.Core.Path.{refl}
use Rattle.gate.specs.Shown.{setup_of}
use Rattle.rules.specs.Events.{freed, gone}
use Rattle.rules.specs.Rank.{outranks}
use Rattle.leaving.proofs.Leaving.{by_rank, gone-global, refills-kept, shows-freed, shows-queue}
use Rattle.leaving.proofs.front_ended.Goals as goal

pub returns : goal.returns
returns c =
    let d = c.args.c.0 in
    λ v s fine e h.
    let u = setup_of v in
    let t = gone u (outranks u s) d (freed s) in
    shows-queue (rw e.0 at c.home-k.ensures) t
    (c.queued.ensures v t fine
    (e.0, rw (gone-global u (outranks u s) d (freed s)) e.2)
    (by_rank d (freed s) s (freed s) refl
    (c.gone.ensures v (freed s) fine (e.0, refills-kept e.1 refl refl)
    (rw c.freed.ensures (shows-freed h)))))
