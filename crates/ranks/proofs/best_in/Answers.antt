-- `ranks::best_in` meets its contract: the loop holds the best of those that are not left.
-- Assumes nothing.
use Prim.Native.Nat.{◌≤◌}
use mathlib.Core.Bool.{true, false}
use mathlib.Core.Path.{◌∙◌, ◌≡◌, ap, sym}
use native.Mathlib.Omega.{arith}
use borrow.Author.Rules.{rules}
use Rattle.sets.specs.Sets.{count_of, less_of, member, without_of}
use Rattle.sets.proofs.Walks.{passed, passed-all, passed-more, some_left, still-in}
use Rattle.ranks.proofs.Keeping.{few-best, first_some, keeps-all, keeps-first, keeps_same, none-best}
use Rattle.ranks.proofs.Left.{past-in}
use Rattle.ranks.proofs.best_in.Goals as goal

pub returns-then-count-m : goal.returns-then-count-m
returns-then-count-m c =
    let a = c.args in
    let few = c.if-count-m.true in
    few-best a.keys.now a.s a.m (omega arith) (rw c.count.ensures at few)

pub returns-then-m-eq0 : goal.returns-then-m-eq0
returns-then-m-eq0 c =
    let a = c.args in
    none-best a.keys.now a.s a.m (omega arith) c.if-m-eq0.true

pub past-left-requires : goal.past-left-requires
past-left-requires c = omega (arith, c.if-count-m.false, c.count.ensures)

pub lowest_in-requires : goal.lowest_in-requires
lowest_in-requires c =
    let a = c.args in
    let few : a.m ≤ count_of a.s = omega (arith, c.if-count-m.false, c.count.ensures) in
    rw (c.less-t.ensures, c.past-left.ensures)
    (first_some a.keys.now a.s a.m (omega arith) few c.if-m-eq0.false)

pub loop-left-init : goal.loop-left-init
loop-left-init c =
    let a = c.args in
    let few : a.m ≤ count_of a.s = omega (arith, c.if-count-m.false, c.count.ensures) in
    let past = c.past-left.ensures in
    let less = c.less-t.ensures ∙ ap (less_of a.s) past in (
      c.lowest_in.ensures.1,
      c.less-t.type_inv,
      λ d b e. past-in a.s (omega arith) a.m d b (rw past at e),
      rw (less, past)
          (keeps-first a.keys.now a.s a.m (omega arith) few (rw less at c.lowest_in.ensures.0)),
    )

pub first-requires : goal.first-requires
first-requires c = some_left c.loop-left.left c.loop-left-test.true

pub seen-k-requires : goal.seen-k-requires
seen-k-requires c = (c.first.ensures.1, c.loop-left.invariant.0)

pub rest-left-requires : goal.rest-left-requires
rest-left-requires c = some_left c.loop-left.left c.loop-left-test.true

pub loop-left-smaller : goal.loop-left-smaller
loop-left-smaller c = c.rest-left.ensures.1

pub loop-left-preserved : goal.loop-left-preserved
loop-left-preserved c =
    let f = c.first in
    let l = c.loop-left in
    let a = c.args in
    let x = f.result in
    let in-s : member a.s x ≡ true = l.invariant.2 x f.ensures.1 f.ensures.2 in
    let w : c.rest-left.result ≡ without_of l.left x =
    c.rest-left.ensures.0 ∙ ap (without_of l.left) (sym f.ensures.0) in
    let new : passed a.s l.left x ≡ false = rw (in-s, f.ensures.2) in
    rw w (
      c.seen-k.ensures.1,
      search rules,
      λ d b e. l.invariant.2 d b (still-in l.left x d b e),
      keeps_same (c.seen-k.ensures.0 a.m (passed a.s l.left) l.invariant.3 new)
          (λ d b. passed-more a.s l.left x d (omega arith) in-s),
    )

pub returns : goal.returns
returns c =
    let l = c.loop-left in
    let a = c.args in
    keeps-all a.keys.now a.s a.m (omega arith) l.invariant.1
    (keeps_same l.invariant.3 (λ d b. rw c.loop-left-test.false (passed-all a.s d)))
