-- `parts::keys_of` meets its contract: before each turn, the keys up to there are the priorities.
-- Assumes nothing.
use Prim.Native.Nat.{◌<◌}
use mathlib.Core.Path.{◌≡◌, refl, ◌∙◌}
use native.Mathlib.Omega.{arith}
use lib.Dec.{eqb}
use lib.ListN.{length, get_or, length-set}
use lib.Seq.{ext_get_or, get_or-set_same, get_or-set_other}
use borrow.Author.Tests.{eqb-true, eqb-false}
use Rattle.std.proofs.Common.{rules}
use Rattle.rules.proofs.Tests.{by-test}
use Rattle.parts.proofs.keys_of.Goals as goal

pub returns-then-timed : goal.returns-then-timed
returns-then-timed c = rw c.if-timed.true

pub loop-c-init : goal.loop-c-init
loop-c-init c = (refl, λ i h. absurd (omega arith))

pub loop-c-preserved : goal.loop-c-preserved
loop-c-preserved c =
    let l = c.loop-c in
    let p = c.args.priorities in
    let long : l.c < length l.keys = omega (arith, l.invariant.0) in
    rw c.from.ensures (
      length-set l.keys l.c (get_or p l.c 0) ∙ l.invariant.0,
      λ i h. by-test (eqb i l.c)
          (λ e. rw (eqb-true i l.c e) (get_or-set_same l.keys l.c (get_or p l.c 0) 0 long))
          (λ e.
          let n = eqb-false i l.c e in
          get_or-set_other l.keys l.c i (get_or p l.c 0) 0 n ∙ l.invariant.1 i (omega arith)),
    )

pub returns : goal.returns
returns c =
    let l = c.loop-c in
    let p = c.args.priorities in
    let long : length p ≡ 64 = search rules in
    rw c.if-timed.false (ext_get_or 0 l.keys p (omega (arith, l.invariant.0))
    (λ i h. l.invariant.1 i (omega (arith, l.invariant.0))))
