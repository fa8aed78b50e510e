-- `ranks::first_by` meets its contract: the loop holds the first of those that are not left, by whatever order is told.
-- Assumes nothing.
use Rattle.std.proofs.Common.{◌≡◌, true, false}
use mathlib.Core.Path.{sym, ◌∙◌}
use Rattle.ranks.proofs.Ranks.{leads-highest}
use Rattle.ranks.proofs.Tops.{tops-all, tops_first, tops_next}
use Rattle.ranks.proofs.first_by.Goals as goal
use Rattle.ranks.proofs.first_by.Goals.{then-before, else-before}

pub loop-left-init : goal.loop-left-init
loop-left-init g c =
    let a = c.args in
    let f = c.first-b.ensures in
    (f.1, λ rank order told. rw (c.rest-left.ensures.0, ← f.0) (tops_first rank a.s _ f.1 f.2))

pub before-requires : goal.before-requires
before-requires g c = c.requires.callable _ _ c.first-c.ensures.1 c.loop-left.invariant.0

pub loop-left-preserved : goal.loop-left-preserved
loop-left-preserved g c =
    let l = c.loop-left in
    let f = c.first-c.ensures in
    elim c.if-before.branch [
      | then-before w ↦
          rw (w.b-is, c.rest-left-in-loop-left.ensures.0, ← f.0) (
            f.1,
            λ rank order told.
                let e : rank c.first-c.result l.b ≡ true =
                sym (told _ _ _ f.1 l.invariant.0 c.before-in-loop-left.ensures) ∙ w.if-before.true in
                rw e at (tops_next rank c.args.s order (l.invariant.1 rank order told) _ f.1 f.2),
          )
      | else-before w ↦
          rw (w.b-is, c.rest-left-in-loop-left.ensures.0, ← f.0) (
            l.invariant.0,
            λ rank order told.
                let e : rank c.first-c.result l.b ≡ false =
                sym (told _ _ _ f.1 l.invariant.0 c.before-in-loop-left.ensures) ∙ w.if-before.false in
                rw e at (tops_next rank c.args.s order (l.invariant.1 rank order told) _ f.1 f.2),
          )
    ]

pub returns-clause-first : goal.returns-clause-first
returns-clause-first g c rank order told =
    let i = c.loop-left.invariant.1 rank order told in
    leads-highest order (tops-all rank c.args.s order c.loop-left-test.false i)

pub returns-clause-low : goal.returns-clause-low
returns-clause-low g c = c.loop-left.invariant.0
