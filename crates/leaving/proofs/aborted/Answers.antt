-- `leaving::aborted` meets its contract: in the room, front in service, another front, or behind others.
-- Assumes nothing.
use mathlib.Core.Path.{◌∙◌, ap, refl, sym}
use lib.Dec.{eqb}
use borrow.Author.Tests.{eq-eqb, ne_eqb}
use Rattle.presence.proofs.Here.{heads-at, room-has}
use Rattle.rules.specs.Events.{spend}
use Rattle.rules.specs.State.{is_front}
use Rattle.leaving.proofs.Leaving.{by_rank, abort-front, abort-line, abort-room, abort-served, shows_left}
use Rattle.leaving.proofs.Leaving.{refills-kept, shows-spend}
use Rattle.leaving.proofs.aborted.Goals as goal

pub returns-then-member : goal.returns-then-member
returns-then-member c =
    λ v s fine e h.
    let home = rw e.0 at c.home-k.ensures in
    rw (c.without.ensures, c.from-at.ensures)
    (abort-room s c.args.c.0
    (rw c.from-at.ensures at c.member.ensures ∙ room-has h home _)
    c.if-member.true (shows_left h home _))

pub returns-then-is_front : goal.returns-then-is_front
returns-then-is_front c =
    let d = c.args.c.0 in
    λ v s fine e h.
    let home = rw e.0 at c.home-k.ensures in
    abort-served s d (rw c.from-at.ensures at c.member.ensures ∙ room-has h home _) c.if-member.false
    (rw c.from-at.ensures at c.is_front.ensures ∙ ap (λ x. is_front x d) h.service.server) c.if-is_front.true
    (by_rank d (spend d s) s (spend d s) refl
    (c.gone.ensures v (spend d s) fine (e.0, refills-kept e.1 refl refl)
    (rw c.served-n.ensures (shows-spend h d c.requires.0 c.args.c refl))))

pub returns-then-front-byte : goal.returns-then-front-byte
returns-then-front-byte c =
    let d = c.args.c.0 in
    λ v s fine e h.
    let home = rw e.0 at c.home-k.ensures in
    let first = ap (λ x. eqb x d) c.front.ensures ∙ heads-at h home _ in
    let same = eq-eqb _ d (c.if-front-byte.true ∙ c.byte.ensures) in
    abort-front s d (rw c.from-at.ensures at c.member.ensures ∙ room-has h home _) c.if-member.false
    (rw c.from-at.ensures at c.is_front.ensures ∙ ap (λ x. is_front x d) h.service.server) c.if-is_front.false
    first same (c.front_aborted.ensures v s fine (e.0, e.1, e.2 (sym first ∙ same)) h)

pub returns : goal.returns
returns c =
    let d = c.args.c.0 in
    λ v s fine e h.
    let home = rw e.0 at c.home-k.ensures in
    let first = ap (λ x. eqb x d) c.front.ensures ∙ heads-at h home _ in
    let other = ne_eqb _ d (λ z. c.if-front-byte.false (z ∙ sym c.byte.ensures)) in
    abort-line s d (rw c.from-at.ensures at c.member.ensures ∙ room-has h home _) c.if-member.false
    (rw c.from-at.ensures at c.is_front.ensures ∙ ap (λ x. is_front x d) h.service.server) c.if-is_front.false
    first other (c.gone-2.ensures v s fine (e.0, e.1) h)
