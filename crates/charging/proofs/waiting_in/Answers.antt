-- `charging::waiting_in` meets its contract: what is left of the line, and the set, make the whole.
-- Assumes nothing.
use mathlib.Core.Bool.{true}
use mathlib.Core.Path.{◌∙◌, ◌≡◌}
use native.Mathlib.Omega.{arith}
use lib.ListN.{get_or}
use Rattle.rules.specs.Limits.{max_clients}
use Rattle.rules.specs.Lists.{upd}
use Rattle.sets.specs.Sets.{member, with_of}
use Rattle.sets.proofs.Laws.{set_of-below}
use Rattle.charging.proofs.Waiting.{waiting-end, waiting-stop, waiting-turn}
use Rattle.charging.proofs.waiting_in.Goals as goal

pub returns-then-x : goal.returns-then-x
returns-then-x c =
    let l = c.loop-x in
    waiting-stop c.args.l.places l.s l.x-index (omega arith) c.if-x.true l.invariant.0 ∙ l.invariant.1

pub loop-x-preserved : goal.loop-x-preserved
loop-x-preserved c =
    let l = c.loop-x in
    let q = c.args.l.places in
    let e : c.with-s.result ≡ with_of l.s (get_or q l.x-index 0) = rw c.from.ensures at c.with-s.ensures in (
      rw e (set_of-below max_clients (upd (member l.s) (get_or q l.x-index 0) true)),
      rw e (waiting-turn q l.s l.x-index (omega arith) c.if-x.false) ∙ l.invariant.1,
    )

pub returns : goal.returns
returns c =
    let l = c.loop-x in
    waiting-end c.args.l.places l.s l.x-index (omega arith) l.invariant.0 ∙ l.invariant.1
