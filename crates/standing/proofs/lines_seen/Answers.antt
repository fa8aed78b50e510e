-- `standing::lines_seen` meets its contract: lines passed are sound; who is seen from here on is who is seen in all.
-- Assumes nothing.
use Prim.Native.Nat.{ℕ, ◌<◌}
use mathlib.Core.Path.{◌≡◌, refl, sym, ap, ◌∙◌}
use native.Mathlib.Omega.{arith}
use borrow.Author.Rules.{rules}
use lib.ListN.{length, get_or, drop}
use Rattle.rules.specs.Limits.{max_clusters, unused_place}
use Rattle.sets.specs.Sets.{member}
use Rattle.gate.specs.Shown.{blank_line}
use Rattle.places.specs.Places.{holds_only}
use Rattle.places.proofs.Turns.{same_end}
use Rattle.places.proofs.Tests.{all_none, all_more, all_done}
use Rattle.seen.specs.Seen.{seen_from}
use Rattle.seen.proofs.Queues.{Ended, ended_here, ended-past}
use Rattle.standing.specs.Answers.{lines_in, line_fits}
use Rattle.standing.proofs.Shape.{lines-each}
use Rattle.standing.proofs.Queues.{line-start, line-turn, line-bad, line-end, stands-below, stands-new, stands-twice}
use Rattle.standing.proofs.LineTurns.{joined-turn, joined_end, fits, line-fails, seen-fails, lines-pass}
use Rattle.standing.proofs.lines_seen.Goals as goal
use Rattle.standing.proofs.lines_seen.Goals.{then-not-may_stand-via-then-not-may_stand, then-not-may_stand-via-else-not-may_stand+then-member}

pub lines-init : goal.lines-init
lines-init c =
    let a = c.args in
    (all_none (fits a.sizes.now a.own a.lines), refl)

pub returns : goal.returns
unfolding seen_from
returns c =
    let o = c.lines in
    let a = c.args in
    let n : length a.lines ≡ 8 = search rules in
    sym (lines-pass a.sizes.now a.own a.lines o.seen n
    (all_done max_clusters o.k (fits a.sizes.now a.own a.lines) (omega arith) (omega arith) o.invariant.0)
    (sym o.invariant.1 ∙ rw (joined_end (lines_in a.lines) o.k max_clusters (omega arith))))

pub loop-j-init : goal.loop-j-init
loop-j-init c =
    let o = c.lines in
    let a = c.args in
    let q = (get_or a.lines o.k blank_line).places in
    let known = member (get_or a.own o.k 0) in
    let w : length a.lines ≡ 8 = search rules in
    let n = lines-each a.lines 8 _ c.well_formed.1.1.0 o.k blank_line (omega arith) in (
      omega arith,
      n,
      line-start c.from-m.result known q n ∙ ap (λ (m : ℕ). line_fits m known q) c.from-m.ensures,
      ap (seen_from o.seen) (sym (joined-turn (lines_in a.lines) o.k max_clusters (omega arith))) ∙ o.invariant.1,
    )

pub loop-j-preserved : goal.loop-j-preserved
loop-j-preserved c =
    let a = c.args in
    let m = c.from-m.result in
    let known = member (get_or a.own c.lines.k 0) in
    let i = c.loop-j in
    let q = (get_or a.lines c.lines.k blank_line).places in
    let b : i.j < length q = omega (arith, i.invariant.1) in
    let stand = sym c.may_stand.ensures ∙ c.if-not-may_stand.false in (
      omega (arith, stands-below i.j m _ stand),
      i.invariant.1,
      sym (line-turn m known q c.from-c.ensures b c.if-x.false stand) ∙ i.invariant.2,
      rw c.with-seen.ensures
          (sym (stands-new q c.from-c.ensures b c.if-x.false i.seen _
          (sym c.member.ensures ∙ c.if-member.false))
          ∙ i.invariant.3),
    )

-- a line whose places are all used
pub lines-preserved : goal.lines-preserved
lines-preserved c =
    let a = c.args in
    let i = c.loop-j in
    let q = (get_or a.lines c.lines.k blank_line).places in
    let ended : Ended (drop i.j q) = ended-past q i.j (omega arith) in
    let rest : fits a.sizes.now a.own a.lines c.lines.k ≡ holds_only unused_place (drop i.j q) =
    sym i.invariant.2 ∙ line-end _ _ (drop i.j q) i.j i.invariant.0 ended in (
      all_more c.lines.k (fits a.sizes.now a.own a.lines)
          (rest ∙ same_end unused_place q i.j (omega arith)) c.lines.invariant.0,
      rw ended.nobody at i.invariant.3,
    )

-- and one behind whose first unused place nobody stands
pub lines-preserved-then-holds_only_from : goal.lines-preserved-then-holds_only_from
lines-preserved-then-holds_only_from c =
    let a = c.args in
    let i = c.loop-j in
    let q = (get_or a.lines c.lines.k blank_line).places in
    let ended : Ended (drop i.j q) = ended_here q i.j (omega arith) c.if-x.true in
    let rest : fits a.sizes.now a.own a.lines c.lines.k ≡ holds_only unused_place (drop i.j q) =
    sym i.invariant.2 ∙ line-end _ _ (drop i.j q) i.j i.invariant.0 ended in (
      all_more c.lines.k (fits a.sizes.now a.own a.lines)
          (rest ∙ sym c.holds_only_from.ensures ∙ c.if-holds_only_from.true) c.lines.invariant.0,
      rw ended.nobody at i.invariant.3,
    )

pub returns-then-x : goal.returns-then-x
returns-then-x c =
    let a = c.args in
    let i = c.loop-j in
    let q = (get_or a.lines c.lines.k blank_line).places in
    let ended : Ended (drop i.j q) = ended_here q i.j (omega arith) c.if-x.true in
    let rest : fits a.sizes.now a.own a.lines c.lines.k ≡ holds_only unused_place (drop i.j q) =
    sym i.invariant.2 ∙ line-end _ _ (drop i.j q) i.j i.invariant.0 ended in
    sym (line-fails a.sizes.now a.own a.lines c.lines.k (omega arith)
    (rest ∙ sym c.holds_only_from.ensures ∙ c.if-holds_only_from.false))

pub returns-then-not-may_stand : goal.returns-then-not-may_stand
returns-then-not-may_stand c =
    let a = c.args in
    let i = c.loop-j in
    let q = (get_or a.lines c.lines.k blank_line).places in
    elim c.then-not-may_stand.branch [
      | then-not-may_stand-via-then-not-may_stand w ↦
          let bad = line-bad c.from-m.result (member (get_or a.own c.lines.k 0)) q c.from-c.ensures
          (omega (arith, i.invariant.1)) c.if-x.false (sym c.may_stand.ensures ∙ w.if-not-may_stand.true) in
          sym (line-fails a.sizes.now a.own a.lines c.lines.k (omega arith) (sym i.invariant.2 ∙ bad))
      | then-not-may_stand-via-else-not-may_stand+then-member w ↦
          let twice = stands-twice q c.from-c.ensures (omega (arith, i.invariant.1)) c.if-x.false i.seen _
          (sym w.member.ensures ∙ w.if-member.true) in
          sym (seen-fails a.sizes.now a.own a.lines (sym i.invariant.3 ∙ twice))
    ]
