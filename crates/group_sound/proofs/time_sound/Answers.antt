-- `group_sound::time_sound` meets its contract: nobody that the loop has passed has the timestamp.
-- Assumes nothing.
use mathlib.Core.Path.{◌≡◌, sym, ap, ◌∙◌}
use mathlib.Core.Bool.{not, ◌&&◌, and-false}
use native.Mathlib.Numerals.{add-one}
use native.Mathlib.Omega.{arith}
use lib.Dec.{leb}
use lib.ListN.{get_or}
use borrow.Author.Tests.{lt-leb, le-leb}
use Rattle.rules.specs.Lists.{some_below}
use Rattle.rules.proofs.Counts.{some_is}
use Rattle.group_rules.specs.Limits.{max_contexts}
use Rattle.group_sound.specs.Answers.{has_time, time_fits}
use Rattle.group_sound.proofs.time_sound.Goals as goal
use Rattle.group_sound.proofs.time_sound.Goals.{then-not-g-via-then-not-g, then-not-g-via-else-not-g+then-g-c}

pub returns-then-not-g : goal.returns-then-not-g
unfolding time_fits
returns-then-not-g c =
    elim c.then-not-g.branch [
      | then-not-g-via-then-not-g w ↦ rw w.if-not-g.true
      | then-not-g-via-else-not-g+then-g-c w ↦ rw (w.if-not-g.false, lt-leb _ _ w.if-g-c.true)
    ]

pub returns-then-has_time : goal.returns-then-has_time
unfolding time_fits
returns-then-has_time c =
    let a = c.args in
    let g = a.g.now in
    rw (
      sym c.without-others.ensures,
      some_is (has_time g.times c.without-others.result a.c) max_contexts c.loop-b.b (omega arith)
          (sym c.has_time.ensures ∙ c.if-has_time.true),
    ) (sym (and-false (g.entered && leb (get_or g.times a.c 0) g.last)))

pub loop-b-preserved : goal.loop-b-preserved
loop-b-preserved c = rw (add-one c.loop-b.b, sym c.has_time.ensures ∙ c.if-has_time.false) c.loop-b.invariant

pub returns : goal.returns
unfolding time_fits
returns c =
    let a = c.args in
    let e : c.loop-b.b ≡ max_contexts = omega arith in
    let same = has_time a.g.now.times c.without-others.result a.c in
    rw (
      sym c.without-others.ensures,
      c.if-not-g.false,
      le-leb _ _ c.if-g-c.false,
    ) (sym (ap not (ap (some_below same) (sym e) ∙ c.loop-b.invariant)))
