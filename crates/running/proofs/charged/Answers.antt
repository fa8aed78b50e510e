-- `running::charged` meets its contract: one set of charged clients serves the test and the charges.
-- Assumes nothing.
use mathlib.Core.Path.{◌∙◌, sym}
use Rattle.charging.proofs.Growing.{charges-ran, overcharges-is}
use Rattle.parts.proofs.Parts.{shows-charge, shows-server}
use Rattle.rules.specs.Events.{ran}
use Rattle.running.proofs.Running.{charges-fine, charges-over}
use Rattle.running.proofs.charged.Goals as goal

pub returns-then-overcharges : goal.returns-then-overcharges
returns-then-overcharges c =
    let n = c.args.n in
    λ q lines rooms service v s e h.
    let told = c.charged-set.ensures v s e.0 h.keys e.1 (rw lines at h.queues.lines)
    (sym rooms ∙ h.queues.rooms) h.sound in
    rw (← service)
    (charges-over n (c.overcharges.ensures ∙ overcharges-is v h.sound h.charges told n) h
    c.if-overcharges.true)

pub charge-requires : goal.charge-requires
charge-requires c = sym c.overcharges.ensures ∙ c.if-overcharges.false

pub returns : goal.returns
unfolding ran
returns c =
    let n = c.args.n in
    λ q lines rooms service v s e h.
    let told = c.charged-set.ensures v s e.0 h.keys e.1 (rw lines at h.queues.lines)
    (sym rooms ∙ h.queues.rooms) h.sound in
    charges-fine n (c.overcharges.ensures ∙ overcharges-is v h.sound h.charges told n) h c.if-overcharges.false
    (rw (← service, h.queues.service.units, c.from.ensures)
    (shows-charge (shows-server h.queues h.queues.service.server h.queues.service.fits) _))
    (c.charge.ensures ∙ charges-ran v h.sound h.charges told n)
