-- `leaving::front_aborted` meets its contract.
-- Assumes nothing.
use mathlib.Core.Path.{refl}
use Rattle.gate.specs.Shown.{setup_of}
use Rattle.rules.specs.Events.{gone, unqueue}
use Rattle.rules.specs.Rank.{outranks}
use Rattle.leaving.proofs.Leaving.{by_rank, gone-global, refills-kept, shows-queue, shows-unqueue}
use Rattle.leaving.proofs.front_aborted.Goals as goal

pub returns : goal.returns
returns c =
    let d = c.args.c.0 in
    λ v s fine e h.
    let u = setup_of v in
    let t = gone u (outranks u s) d (unqueue d s) in
    shows-queue (rw e.0 at c.home-k.ensures) t
    (c.queued.ensures v t fine
    (e.0, rw (gone-global u (outranks u s) d (unqueue d s)) e.2)
    (by_rank d (unqueue d s) s (unqueue d s) refl
    (c.gone.ensures v (unqueue d s) fine (e.0, refills-kept e.1 refl refl)
    (rw c.unqueued.ensures (shows-unqueue h d c.requires.0)))))
