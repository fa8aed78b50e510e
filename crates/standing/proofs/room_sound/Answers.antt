-- `standing::room_sound` meets its contract.
-- Assumes nothing.
use Prim.Native.Nat.{◌^◌}
use mathlib.Core.Path.{ap, sym, ◌∙◌}
use native.Mathlib.Omega.{arith}
use borrow.Author.Tests.{eq-eqb, ne_eqb, lt-ltb}
use Rattle.sets.specs.Sets.{less_of}
use Rattle.places.specs.Places.{unpad}
use Rattle.standing.specs.Answers.{room_fits}
use Rattle.standing.proofs.Rooms.{room-empty, used-unpad}
use Rattle.standing.proofs.room_sound.Goals as goal

pub returns-then-room-eq0 : goal.returns-then-room-eq0
returns-then-room-eq0 c =
    let a = c.args in
    rw c.if-room-eq0.true (sym (room-empty a.m a.own a.stand (unpad a.line.places)))

pub returns-then-less-ne0 : goal.returns-then-less-ne0
unfolding room_fits
returns-then-less-ne0 c =
    let a = c.args in
    rw (
      lt-ltb a.room (2 ^ 64) (omega arith),
      sym (c.less-2.ensures ∙ ap (less_of a.room) c.less.ensures),
      ne_eqb c.less-2.result 0 c.if-less-ne0.true,
    )

pub returns : goal.returns
unfolding room_fits
returns c =
    let a = c.args in
    rw (
      lt-ltb a.room (2 ^ 64) (omega arith),
      sym (c.less-2.ensures ∙ ap (less_of a.room) c.less.ensures),
      eq-eqb c.less-2.result 0 c.if-less-ne0.false,
      ne_eqb a.room 0 c.if-room-eq0.false,
      c.used.ensures,
      used-unpad a.line.places,
    )
