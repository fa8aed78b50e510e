-- `blocking::blocker` meets its contract: the loop holds the latest of those that it has passed.
-- Assumes nothing.
use mathlib.Core.Path.{◌≡◌, refl, sym, ap, ◌∙◌}
use mathlib.Core.Option.{some}
use native.Mathlib.Omega.{arith}
use Rattle.rules.specs.Lists.{highest}
use Rattle.group_rules.specs.Limits.{max_contexts}
use Rattle.blocking.specs.Queue.{found_in, later_of, blocks_in, blocker_in}
use Rattle.blocking.proofs.Found.{later_by, highest-low, low-below, found-low, for-found, found-taken, found-passed}
use Rattle.blocking.proofs.blocker.Goals as goal
use Rattle.blocking.proofs.blocker.Goals.{then-blocks, else-blocks}

pub loop-b-init : goal.loop-b-init
loop-b-init c = refl

pub later-requires-clause-found_bound : goal.later-requires-clause-found_bound
later-requires-clause-found_bound c =
    let l = c.loop-b in
    let a = c.args in
    for-found max_contexts l.found
    (rw l.invariant (low-below l.b max_contexts _ (omega arith)
    (highest-low (later_by a.times.now) (blocks_in a.times.now a.sets.now a.c) l.b)))

pub loop-b-preserved : goal.loop-b-preserved
loop-b-preserved c =
    let l = c.loop-b in
    let a = c.args in
    let p = blocks_in a.times.now a.sets.now a.c in
    elim c.if-blocks.branch [
      | then-blocks w ↦ ap found_in w.found-is
          ∙ ap some (w.later.ensures ∙ ap (λ o. later_of a.times.now o l.b) l.invariant)
          ∙ found-taken a.times.now p l.b (sym c.blocks-in-loop-b.ensures ∙ w.if-blocks.true)
      | else-blocks w ↦ ap found_in w.found-is ∙ l.invariant
          ∙ found-passed a.times.now p l.b (sym c.blocks-in-loop-b.ensures ∙ w.if-blocks.false)
    ]

pub returns : goal.returns
unfolding blocker_in
returns c =
    let l = c.loop-b in
    let ts = c.args.times.now in
    let p = blocks_in ts c.args.sets.now c.args.c in
    let e : l.b ≡ max_contexts = omega arith in record {
      value = l.invariant ∙ ap (highest (later_by ts) p) e;
      upper_bound = found-low max_contexts l.found
          (rw (l.invariant, e) (highest-low (later_by ts) p max_contexts));
    }
