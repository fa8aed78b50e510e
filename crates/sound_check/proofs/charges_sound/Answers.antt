-- `sound_check::charges_sound` meets its contract.
-- Assumes nothing.
use mathlib.Core.Path.{sym, ◌∙◌}
use mathlib.Core.Bool.{and-false}
use native.Mathlib.Omega.{arith}
use lib.Dec.{eqb}
use lib.ListN.{length}
use borrow.Author.Tests.{eq-eqb}
use Rattle.rules.specs.Limits.{max_clients}
use Rattle.places.proofs.Tests.{all_none, all_more, all-not, all_done}
use Rattle.sound_check.specs.Answers.{charges_fit}
use Rattle.sound_check.proofs.charges_sound.Invariants.{fits}
use Rattle.sound_check.proofs.charges_sound.Goals as goal

pub loop-c-init : goal.loop-c-init
loop-c-init c = all_none (fits c.args.real c.args.q.now)

pub returns-then-not-charge_sound : goal.returns-then-not-charge_sound
unfolding charges_fit
returns-then-not-charge_sound c =
    let a = c.args in
    rw (
      all-not max_clients (fits a.real a.q.now) c.loop-c.c (omega (arith, c.requires))
          (sym c.charge_sound.ensures ∙ c.if-not-charge_sound.true),
      and-false (eqb (length a.q.now) max_clients),
    )

pub loop-c-preserved : goal.loop-c-preserved
loop-c-preserved c =
    let a = c.args in
    all_more c.loop-c.c (fits a.real a.q.now)
    (sym c.charge_sound.ensures ∙ c.if-not-charge_sound.false) c.loop-c.invariant

pub returns : goal.returns
unfolding charges_fit
returns c =
    let a = c.args in
    rw (
      eq-eqb (length a.q.now) max_clients c.requires,
      all_done max_clients c.loop-c.c (fits a.real a.q.now) (omega (arith, c.requires)) (omega (arith, c.requires)) c.loop-c.invariant,
    )
