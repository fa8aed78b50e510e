-- `charging::charge` meets its contract: the charges of the clients passed have grown.
-- Assumes nothing.
use Prim.Native.Nat.{◌+◌}
use mathlib.Core.Path.{◌∙◌, ◌≡◌, ap, sym}
use native.Mathlib.Omega.{arith}
use lib.ListN.{get_or, length, set}
use Rattle.rules.specs.Limits.{max_clients}
use Rattle.rules.proofs.Counts.{none_below}
use Rattle.sets.specs.Sets.{without_of}
use Rattle.sets.proofs.Walks.{some_left, still-in}
use Rattle.gate.specs.Shown.{table}
use Rattle.charging.specs.Charged.{overcharges_in}
use Rattle.charging.proofs.Growing.{paid, paid-all, paid-next, paid-none, paid-yet, within}
use Rattle.charging.proofs.charge.Goals as goal

pub loop-left-init : goal.loop-left-init
loop-left-init c =
    let a = c.args in
    (c.requires, λ d b e. e, paid-none a.charges.now a.set a.n)

pub first-c-requires : goal.first-c-requires
first-c-requires c = some_left c.loop-left.left c.loop-left-test.true

pub overflow_add-charges : goal.overflow_add-charges
overflow_add-charges c =
    let l = c.loop-left in
    let a = c.args in
    let f = c.first-c.ensures in
    let x = c.first-c.result in
    let cs = a.charges.now in
    let e : get_or l.charges x 0 ≡ get_or cs x 0 =
    rw l.invariant.2 (paid-yet cs a.set a.n l.left x f.2) in
    let low = within (get_or cs x 0) a.n
    (none_below (overcharges_in cs a.set a.n) max_clients x l.invariant.0 f.1) (l.invariant.1 x f.1 f.2) in
    omega (arith, e, low)

pub rest-left-requires : goal.rest-left-requires
rest-left-requires c = some_left c.loop-left.left c.loop-left-test.true

pub loop-left-smaller : goal.loop-left-smaller
loop-left-smaller c = c.rest-left.ensures.1

pub loop-left-preserved : goal.loop-left-preserved
loop-left-preserved c =
    let l = c.loop-left in
    let a = c.args in
    let f = c.first-c.ensures in
    let x = c.first-c.result in
    let cs = a.charges.now in
    let in-s = l.invariant.1 x f.1 f.2 in
    let e : get_or l.charges x 0 ≡ get_or cs x 0 =
    rw l.invariant.2 (paid-yet cs a.set a.n l.left x f.2) in
    let w : c.rest-left.result ≡ without_of l.left x = c.rest-left.ensures.0 ∙ ap (without_of l.left) (sym f.0) in (
      l.invariant.0,
      rw w (λ d b g. l.invariant.1 d b (still-in l.left x d b g)),
      ap (λ m. set l.charges x (get_or l.charges x 0 + m)) c.from.ensures
          ∙ ap (λ y. set l.charges x (y + a.n)) e ∙ ap (λ y. set y x (get_or cs x 0 + a.n)) l.invariant.2
          ∙ paid-next cs a.set a.n l.left x f.2 (omega arith) in-s
          ∙ ap (λ y. table (length cs) (paid cs a.set a.n y)) (sym w),
    )

pub returns : goal.returns
returns c =
    let l = c.loop-left in
    let a = c.args in
    let cs = a.charges.now in
    l.invariant.2 ∙ ap (λ y. table (length cs) (paid cs a.set a.n y)) c.loop-left-test.false
    ∙ paid-all cs a.set a.n
