-- `calls::invoke` meets its contract: 18 for its form, 10, 11, or the invoke.
-- Assumes nothing.
use Prim.Native.Nat.{◌<◌}
use mathlib.Core.Path.{◌∙◌, sym}
use native.Mathlib.Omega.{arith}
use Rattle.entering.proofs.Found.{ready}
use Rattle.gate.specs.Shown.{setup_of}
use Rattle.presence.proofs.Here.{present-is}
use Rattle.rules.proofs.Answers.{invoke-accepted}
use Rattle.rules.specs.Events.{invoke}
use Rattle.rules.specs.Limits.{max_clients}
use Rattle.rules.specs.Rank.{outranks}
use Rattle.rules.specs.Records.{known}
use Rattle.rules.specs.Step.{moved_by}
use Rattle.answers.specs.declared.Answer.TheVariants.{NoClient, Unknown, WaitsAlready}
use Rattle.answers.proofs.Answering.{accepts, fine, refuses}
use Rattle.calls.specs.Due.{form_in}
use Rattle.calls.proofs.Charges.{invoke-charge}
use Rattle.calls.proofs.Keys.{invoke-keys}
use Rattle.calls.proofs.Refusing.{invoke-fine, invoke-present, invoke-unfit, invoke-unknown}
use Rattle.calls.proofs.invoke.Goals as goal

pub returns-then-not-fits_form : goal.returns-then-not-fits_form
returns-then-not-fits_form c =
    let a = c.args in
    let o = form_in a.deadline in
    let f = sym c.fits_form.ensures ∙ c.if-not-fits_form.true in
    λ v s e h. refuses h (known (invoke a.c.0 o)) Unknown (invoke-unfit v s a.c.0 o (rw e.4 at f)) (λ z. omega arith)

pub returns-then-from-c : goal.returns-then-from-c
returns-then-from-c c =
    let a = c.args in
    let o = form_in a.deadline in
    let f = sym c.fits_form.ensures ∙ c.if-not-fits_form.false in
    λ v s e h.
    refuses h (known (invoke a.c.0 o)) NoClient
    (invoke-unknown v s a.c.0 (c.from.ensures ∙ e.3) o (rw e.4 at f) c.if-from-c.true) (λ z. omega arith)

pub returns-then-present : goal.returns-then-present
returns-then-present c =
    let a = c.args in
    let o = form_in a.deadline in
    let f = sym c.fits_form.ensures ∙ c.if-not-fits_form.false in
    λ v s e h.
    refuses h (known (invoke a.c.0 o)) WaitsAlready
    (invoke-present v s a.c.0 (c.from.ensures ∙ e.3) c.if-from-c.false o (rw e.4 at f)
    (c.present.ensures ∙ present-is h.queues (rw e.1 at c.home-k.ensures) _ _) c.if-present.true) (λ z. omega arith)

pub returns : goal.returns
unfolding moved_by
returns c =
    let a = c.args in
    let d = a.c.0 in
    let o = form_in a.deadline in
    let f = sym c.fits_form.ensures ∙ c.if-not-fits_form.false in
    let low : d < max_clients = omega (arith, c.from.ensures, c.requires) in
    λ v s e h.
    let fits = invoke-fine v s d (c.from.ensures ∙ e.3) c.if-from-c.false o (rw e.4 at f)
    (c.present.ensures ∙ present-is h.queues (rw e.1 at c.home-k.ensures) _ _) c.if-present.false in
    accepts (invoke d o) fits
    (c.invoked.ensures v s (fine h)
    (e.0, e.1, e.2, ready v s h.sound d (invoke-accepted (setup_of v) (outranks (setup_of v) s) s d o fits)) h.queues)
    (invoke-charge h d o (rw e.0 at c.begun.ensures.charges_after))
    (invoke-keys h.keys d o low (rw (e.0, e.4) at c.begun.ensures.keys_after))
