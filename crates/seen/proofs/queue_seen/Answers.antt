-- `seen::queue_seen` meets its contract: who is seen from here on is who is seen in the whole queue.
-- Assumes nothing.
use mathlib.Core.Path.{◌≡◌, refl, sym, ap, ◌∙◌}
use mathlib.Core.Bool.{Bool, true, false, cond}
use mathlib.Core.Option as math
use native.Mathlib.Omega.{arith}
use lib.ListN.{drop}
use Rattle.std.proofs.Common.{ℕ}
use Rattle.std.specs.Bool.{then_some}
use Rattle.sets.specs.Sets.{member}
use Rattle.seen.specs.Seen.{seen_of}
use Rattle.seen.proofs.Queues.{Ended, queue-turn, queue-bad, queue-twice, queue-end, queue-past, ended_here}
use Rattle.seen.proofs.queue_seen.Goals as goal
use Rattle.seen.proofs.queue_seen.Goals.{then-not-member-via-then-not-member, then-not-member-via-else-not-member+then-member}

told : (b : Bool) (s : ℕ) → seen_of (then_some b s) ≡ cond b (math.some s) math.none
told true s = refl
told false s = refl

pub returns-then-x : goal.returns-then-x
returns-then-x c =
    let o = c.loop-i in
    let a = c.args in
    let e : Ended (drop o.i a.q.now) = ended_here a.q.now o.i (omega arith) c.if-x.true in
    ap seen_of c.then_some.ensures ∙ told c.holds_only_from.result o.everyone
    ∙ rw c.holds_only_from.ensures (sym (queue-end (member a.known) (drop o.i a.q.now) o.everyone e))
    ∙ o.invariant

pub returns-then-not-member : goal.returns-then-not-member
returns-then-not-member c =
    let o = c.loop-i in
    let a = c.args in
    elim c.then-not-member.branch [
      | then-not-member-via-then-not-member w ↦
          sym (queue-bad (member a.known) o.everyone a.q.now c.from-c.ensures (omega arith) c.if-x.false
          (sym c.member.ensures ∙ w.if-not-member.true))
          ∙ o.invariant
      | then-not-member-via-else-not-member+then-member w ↦
          sym (queue-twice (member a.known) o.everyone a.q.now c.from-c.ensures (omega arith) c.if-x.false
          (sym w.member-else-not-member.ensures ∙ w.if-member.true))
          ∙ o.invariant
    ]

pub loop-i-preserved : goal.loop-i-preserved
loop-i-preserved c =
    let o = c.loop-i in
    let a = c.args in
    rw c.with-everyone.ensures
    (sym (queue-turn (member a.known) o.everyone a.q.now c.from-c.ensures (omega arith) c.if-x.false
    (sym c.member.ensures ∙ c.if-not-member.false)
    (sym c.member-else-not-member.ensures ∙ c.if-member.false))
    ∙ o.invariant)

pub returns : goal.returns
returns c =
    let o = c.loop-i in
    let a = c.args in
    sym (queue-past (member a.known) a.q.now o.everyone o.i (omega arith)) ∙ o.invariant
