-- `entering::arrived` meets its contract: first in its line, behind others there, or in the room.
-- Assumes nothing.
use mathlib.Core.Path.{◌∙◌, sym}
use Rattle.gate.specs.Shown.{setup_of}
use Rattle.rules.specs.Events.{joined}
use Rattle.entering.proofs.Arriving.{arrive-front, arrive-line, arrive_room, length-is, shows-joined}
use Rattle.entering.proofs.arrived.Goals as goal

pub returns-then-used-eq0 : goal.returns-then-used-eq0
returns-then-used-eq0 c =
    let d = c.args.c.0 in
    λ v s fine e h.
    let home = rw e.0 at c.home-k.ensures in
    let size = rw e.1 at c.size.ensures in
    let used = c.used-used.ensures in
    arrive-front fine h home _ size used c.if-used-eq0.true
    (c.queued.ensures v (joined (setup_of v) d s) fine
    (e.0, e.2.turn (sym (length-is fine h home _ size used) ∙ c.if-used-eq0.true))
    (rw (c.longer.ensures, c.byte.ensures)
    (shows-joined fine h home _ size used c.if-used-size.true)))

pub returns-then-used-size : goal.returns-then-used-size
returns-then-used-size c =
    λ v s fine e h.
    let home = rw e.0 at c.home-k.ensures in
    let size = rw e.1 at c.size.ensures in
    let used = c.used-used.ensures in
    rw (c.longer.ensures, c.byte.ensures)
    (arrive-line fine h home _ size used c.if-used-size.true c.if-used-eq0.false
    (shows-joined fine h home _ size used c.if-used-size.true))

pub returns : goal.returns
returns c =
    λ v s fine e h.
    rw (c.with.ensures, c.from.ensures)
    (arrive_room fine h (rw e.0 at c.home-k.ensures) _ (rw e.1 at c.size.ensures) c.used-used.ensures _
    c.if-used-size.false e.2.size)
