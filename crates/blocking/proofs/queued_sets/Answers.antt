-- `blocking::queued_sets` meets its contract: the loop holds the sets of those that it has passed.
-- Assumes nothing.
use Prim.Native.Nat.{◌<◌}
use mathlib.Core.Path.{◌≡◌, refl, ap₂, ◌∙◌}
use native.Mathlib.Omega.{arith}
use lib.Dec.{eqb}
use lib.ListN.{length, get_or, length-set}
use lib.Seq.{get_or-set_same, get_or-set_other}
use borrow.Author.Tests.{eqb-true, eqb-false}
use Rattle.rules.proofs.Tests.{by-test}
use Rattle.rules.proofs.Lists.{get_d_any}
use Rattle.group_rules.specs.Groups.{no_tickets, no_calls}
use Rattle.blocking.specs.Queue.{queued_set}
use Rattle.blocking.proofs.Shape.{tickets-length, stacks-length}
use Rattle.blocking.proofs.queued_sets.Goals as goal

pub loop-c-init : goal.loop-c-init
loop-c-init c = (refl, λ i h. absurd (omega arith))

pub loop-c-preserved : goal.loop-c-preserved
loop-c-preserved c =
    let l = c.loop-c in
    let a = c.args in
    let v = c.queued_set.result in
    let long : l.c < length l.set-items = omega (arith, l.invariant.0) in
    let own : v ≡ queued_set (get_or a.tickets l.c no_tickets).counts (get_or a.stacks l.c no_calls).places =
    c.queued_set.ensures ∙ ap₂ (λ t s. queued_set t.counts s.places)
    (get_d_any a.tickets l.c _ no_tickets (omega (arith, tickets-length a.tickets 8 _ c.well_formed.0)))
    (get_d_any a.stacks l.c _ no_calls (omega (arith, stacks-length a.stacks 8 _ c.well_formed.1.0))) in (
      length-set l.set-items l.c v ∙ l.invariant.0,
      λ i h. by-test (eqb i l.c)
          (λ e. rw (eqb-true i l.c e) (get_or-set_same l.set-items l.c v 0 long ∙ own))
          (λ e. get_or-set_other l.set-items l.c i v 0 (eqb-false i l.c e)
          ∙ l.invariant.1 i (omega (arith, eqb-false i l.c e))),
    )

pub returns : goal.returns
returns c =
    let l = c.loop-c in
    (l.invariant.0, λ i h. l.invariant.1 i (omega arith))
