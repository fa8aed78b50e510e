-- `entering::invoked` meets its contract.
-- Assumes nothing.
use mathlib.Core.Path.{◌∙◌, ap}
use Rattle.gate.specs.Shown.{setup_of}
use Rattle.rules.specs.Events.{invoked}
use Rattle.rules.specs.State.{is_idle}
use Rattle.entering.specs.Finds.{enters}
use Rattle.entering.proofs.Arriving.{busy-stays, idle-picks}
use Rattle.entering.proofs.invoked.Goals as goal

pub returns-then-is_idle : goal.returns-then-is_idle
unfolding invoked
returns-then-is_idle c =
    λ v s fine e h.
    let n = enters (setup_of v) c.args.c.0 s in
    idle-picks n s.server (c.is_idle.ensures ∙ ap is_idle h.service.server)
    c.if-is_idle.true
    (c.picked.ensures v n fine tt (c.entered-n.ensures v s fine e h))

pub returns : goal.returns
unfolding invoked
returns c =
    λ v s fine e h.
    let n = enters (setup_of v) c.args.c.0 s in
    busy-stays n s.server (c.is_idle.ensures ∙ ap is_idle h.service.server) c.if-is_idle.false
    (c.entered-n.ensures v s fine e h)
