-- `standing::rooms_sound` meets its contract.
-- Assumes nothing.
use mathlib.Core.Path.{◌≡◌, sym, ◌∙◌}
use mathlib.Core.Bool.{and-false}
use native.Mathlib.Omega.{arith}
use lib.Dec.{eqb}
use lib.ListN.{length}
use borrow.Author.Tests.{eq-eqb}
use borrow.Author.Rules.{rules}
use Rattle.rules.specs.Limits.{max_clusters}
use Rattle.places.proofs.Tests.{all_none, all_more, all-not, all_done}
use Rattle.standing.specs.Answers.{rooms_fit}
use Rattle.standing.proofs.rooms_sound.Invariants.{fits}
use Rattle.standing.proofs.rooms_sound.Goals as goal

pub loop-k-init : goal.loop-k-init
loop-k-init c =
    let a = c.args in all_none (fits a.sizes.now a.own a.stand a.lines a.rooms)

pub returns-then-not-room_sound : goal.returns-then-not-room_sound
unfolding rooms_fit
returns-then-not-room_sound c =
    let a = c.args in
    rw (
      all-not max_clusters (fits a.sizes.now a.own a.stand a.lines a.rooms) c.loop-k.k (omega arith)
          (rw (← c.from.ensures) (sym c.room_sound.ensures) ∙ c.if-not-room_sound.true),
      and-false (eqb (length a.rooms) max_clusters),
    )

pub loop-k-preserved : goal.loop-k-preserved
loop-k-preserved c =
    let a = c.args in
    all_more c.loop-k.k (fits a.sizes.now a.own a.stand a.lines a.rooms)
    (rw (← c.from.ensures) (sym c.room_sound.ensures) ∙ c.if-not-room_sound.false) c.loop-k.invariant

pub returns : goal.returns
unfolding rooms_fit
returns c =
    let a = c.args in
    let n : length a.rooms ≡ max_clusters = search rules in
    rw (
      eq-eqb (length a.rooms) max_clusters n,
      all_done max_clusters c.loop-k.k (fits a.sizes.now a.own a.stand a.lines a.rooms)
          (omega arith) (omega arith) c.loop-k.invariant,
    )
