-- `sound_check::deadline_sound` meets its contract.
-- Assumes nothing.
use Prim.Native.Nat.{◌<◌}
use mathlib.Core.Path.{sym, ◌∙◌}
use native.Mathlib.Omega.{arith}
use borrow.Author.Tests.{eq-eqb, ne_eqb, le-leb}
use borrow.Author.Rules.{rules}
use Rattle.rules.specs.Limits.{max_clusters, max_deadline}
use Rattle.sound_check.proofs.deadline_sound.Goals as goal

-- each client's cluster has a room
low : (c : goal.After-from-k) → c.from-k.result < max_clusters
low c =
    omega (arith, c.from-k.ensures, c.requires.1.low c.args.owner)

pub returns-then-d-eq0 : goal.returns-then-d-eq0
returns-then-d-eq0 c =
    let a = c.args in
    rw (le-leb a.d max_deadline (search rules), eq-eqb a.d 0 c.if-d-eq0.true)

pub returns-then-not-setup : goal.returns-then-not-setup
returns-then-not-setup c =
    let a = c.args in
    rw (
      le-leb a.d max_deadline (search rules),
      ne_eqb a.d 0 c.if-d-eq0.false,
      c.if-not-setup.true,
    )

pub returns-then-member : goal.returns-then-member
returns-then-member c =
    let a = c.args in
    rw (
      le-leb a.d max_deadline (search rules),
      ne_eqb a.d 0 c.if-d-eq0.false,
      c.if-not-setup.false,
      sym c.member.ensures ∙ c.if-member.true,
    )

pub offset_bounds-rooms-k : goal.offset_bounds-rooms-k
offset_bounds-rooms-k c = omega (arith, low c)

pub bounds-rooms-k : goal.bounds-rooms-k
bounds-rooms-k c = low c

pub returns : goal.returns
returns c =
    let a = c.args in
    rw (
      le-leb a.d max_deadline (search rules),
      ne_eqb a.d 0 c.if-d-eq0.false,
      c.if-not-setup.false,
      sym c.member.ensures ∙ c.if-member.false,
    ) (rw c.from-k.ensures at c.member-2.ensures)
