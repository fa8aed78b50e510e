-- `fields::read_each` meets its contract. The loop's invariant: n fields are placed, whatever is read of each, and the
-- next starts at byte a.
-- Assumes nothing.
use Rattle.std.proofs.Common.{length, ◌≤◌, ◌<◌, ◌∙◌, sym, refl, arith}
use Rattle.std.proofs.lemmas.Fn.{says_at}
use lib.Seq.{set_out}
use Rattle.fields.proofs.Placed.{starting, reading-on, all_placed}
use Rattle.fields.proofs.read_each.Goals as goal
use Rattle.fields.proofs.read_each.Goals.{then-n-v, else-n-v}

pub loop-a-init : goal.loop-a-init
loop-a-init g c = (starting, λ f d is. starting)

pub overflow_add-n : goal.overflow_add-n
overflow_add-n g c = omega (arith, c.loop-a.invariant.0.few)

pub loop-a-preserved : goal.loop-a-preserved
loop-a-preserved g c =
    let a = c.args in
    let there : c.loop-a.a ≤ length a.s.now = omega arith in (
      reading-on c.loop-a.invariant.0 there c.end-e.ensures refl refl,
      λ f d is. reading-on (c.loop-a.invariant.1 f d is) there c.end-e.ensures
          (is _ _ (says_at g.F.Fn c.read-x.ensures refl))
          (elim c.if-n-v.branch [
            | then-n-v w ↦ w.v-is
            | else-n-v w ↦ w.v-is ∙ sym (set_out c.loop-a.v c.loop-a.n _ w.if-n-v.false)
          ]),
    )

pub returns-clause-value : goal.returns-clause-value
returns-clause-value g c =
    let past : length c.args.s.now < c.loop-a.a = omega arith in
    sym (c.loop-a.invariant.0.done past)

pub returns-clause-placed : goal.returns-clause-placed
returns-clause-placed g c f d is =
    let past : length c.args.s.now < c.loop-a.a = omega arith in
    all_placed (c.loop-a.invariant.1 f d is) past
