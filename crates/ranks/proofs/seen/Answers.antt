-- `ranks::seen` meets its contract: c stays out, or takes the place of the lowest.
-- Assumes nothing.
use mathlib.Core.Path.{◌∙◌, ap, sym}
use Rattle.sets.specs.Sets.{with_of}
use Rattle.sets.proofs.Counts.{with-some}
use Rattle.ranks.proofs.Keeping.{seen-keep, seen-swap}
use Rattle.ranks.proofs.Ranks.{ranked}
use Rattle.ranks.proofs.seen.Goals as goal

pub returns-then-not-outranks : goal.returns-then-not-outranks
returns-then-not-outranks c =
    let a = c.args in
    let o = c.outranks in
    let r = sym o.ensures ∙ c.if-not-outranks.true in
    (λ m p h new. seen-keep (ranked a.keys.now) h a.c c.requires.0 new r, c.requires.1)

pub lowest_in-requires : goal.lowest_in-requires
lowest_in-requires c =
    rw c.with-t.ensures (with-some _ c.args.c c.requires.0)

pub returns : goal.returns
returns c =
    let a = c.args in
    let o = c.outranks in
    let r = sym o.ensures ∙ c.if-not-outranks.false in
    let e = c.with-t.ensures ∙ ap (λ x. with_of x a.c) c.without.ensures in (
      λ m p h new. rw e (seen-swap (ranked a.keys.now) h a.c c.requires.0 new r
          (rw (← e) c.lowest_in.ensures.0)),
      c.lowest_in.ensures.1,
    )
