-- `charging::overcharges` meets its contract: none of the clients passed is overcharged.
-- Assumes nothing.
use mathlib.Core.Bool.{and-false, false, true}
use mathlib.Core.Path.{◌∙◌, ◌≡◌, ap, sym}
use native.Mathlib.Omega.{arith}
use Rattle.rules.specs.Limits.{max_clients}
use Rattle.rules.proofs.Counts.{some_is, some-not}
use Rattle.rules.proofs.Tests.{by-test, clash, upd-at}
use Rattle.sets.specs.Sets.{member, without_of}
use Rattle.sets.proofs.Walks.{passed, passed-all, passed-more, passed_none, some_left, still-in}
use Rattle.charging.specs.Charged.{overcharges_in}
use Rattle.charging.proofs.overcharges.Goals as goal

pub loop-left-init : goal.loop-left-init
loop-left-init c = (λ d b e. e, λ d b e. clash e (passed_none c.args.set d))

pub first-requires : goal.first-requires
first-requires c = some_left c.loop-left.left c.loop-left-test.true

pub returns-then-overcharged : goal.returns-then-overcharged
returns-then-overcharged c =
    let o = c.overcharged in
    let f = c.first in
    let l = c.loop-left in
    let a = c.args in
    sym (some_is (overcharges_in a.charges.now a.set a.n) max_clients f.result f.ensures.1
    (rw (l.invariant.0 f.result f.ensures.1 f.ensures.2) (sym o.ensures ∙ c.if-overcharged.true)))

pub rest-left-requires : goal.rest-left-requires
rest-left-requires c =
    some_left c.loop-left.left c.loop-left-test.true

pub loop-left-smaller : goal.loop-left-smaller
loop-left-smaller c = c.rest-left.ensures.1

pub loop-left-preserved : goal.loop-left-preserved
loop-left-preserved c =
    let o = c.overcharged in
    let f = c.first in
    let l = c.loop-left in
    let a = c.args in
    let x = f.result in
    let in-s = l.invariant.0 x f.ensures.1 f.ensures.2 in
    let fine : overcharges_in a.charges.now a.set a.n x ≡ false =
    rw (← o.ensures, c.if-overcharged.false) (and-false (member a.set x)) in
    let w : c.rest-left.result ≡ without_of l.left x =
    c.rest-left.ensures.0 ∙ ap (without_of l.left) (sym f.ensures.0) in
    rw w (
      λ d b e. l.invariant.0 d b (still-in l.left x d b e),
      λ d b e. upd-at (λ y. y ≡ true → overcharges_in a.charges.now a.set a.n d ≡ false)
          (passed a.set l.left) x true d (λ q g. rw q fine) (λ q g. l.invariant.1 d b g)
          (passed-more a.set l.left x d (omega arith) in-s ∙ e),
    )

pub returns : goal.returns
returns c =
    let l = c.loop-left in
    let a = c.args in
    sym (some-not (overcharges_in a.charges.now a.set a.n) max_clients (λ d b. by-test (member a.set d)
    (λ e. l.invariant.1 d b (rw c.loop-left-test.false (passed-all a.set d ∙ e))) (λ e. rw e)))
