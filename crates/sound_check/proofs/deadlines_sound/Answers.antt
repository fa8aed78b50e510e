-- `sound_check::deadlines_sound` meets its contract.
-- Assumes nothing.
use mathlib.Core.Path.{sym, ◌∙◌}
use mathlib.Core.Bool.{and-false}
use native.Mathlib.Omega.{arith}
use lib.Dec.{eqb}
use lib.ListN.{length}
use borrow.Author.Tests.{eq-eqb}
use Rattle.rules.specs.Limits.{max_clients}
use Rattle.places.proofs.Tests.{all_none, all_more, all-not, all_done}
use Rattle.sound_check.specs.Answers.{deadlines_fit}
use Rattle.sound_check.proofs.deadlines_sound.Invariants.{fits}
use Rattle.sound_check.proofs.deadlines_sound.Goals as goal

pub loop-c-init : goal.loop-c-init
loop-c-init c =
    let a = c.args in
    all_none (fits a.setup.now.homes a.rooms a.setup.now.timed a.seen a.q.now)

pub returns-then-not-deadline_sound : goal.returns-then-not-deadline_sound
unfolding deadlines_fit
returns-then-not-deadline_sound c =
    let a = c.args in
    let tests = fits a.setup.now.homes a.rooms a.setup.now.timed a.seen a.q.now in
    rw (
      all-not max_clients tests c.loop-c.c (omega (arith, c.requires.0))
          (sym c.deadline_sound.ensures ∙ c.if-not-deadline_sound.true),
      and-false (eqb (length a.q.now) max_clients),
    )

pub loop-c-preserved : goal.loop-c-preserved
loop-c-preserved c =
    let a = c.args in
    let tests = fits a.setup.now.homes a.rooms a.setup.now.timed a.seen a.q.now in
    all_more c.loop-c.c tests
    (sym c.deadline_sound.ensures ∙ c.if-not-deadline_sound.false) c.loop-c.invariant

pub returns : goal.returns
unfolding deadlines_fit
returns c =
    let a = c.args in
    let tests = fits a.setup.now.homes a.rooms a.setup.now.timed a.seen a.q.now in
    rw (
      eq-eqb (length a.q.now) max_clients c.requires.0,
      all_done max_clients c.loop-c.c tests (omega (arith, c.requires.0)) (omega (arith, c.requires.0)) c.loop-c.invariant,
    )
