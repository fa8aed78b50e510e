-- `fronts::firsts` meets its contract: the loop holds the fronts of the lines passed.
-- Assumes nothing.
use mathlib.Core.Path.{◌≡◌, sym, ap, ◌∙◌}
use native.Mathlib.Omega.{arith}
use lib.ListN.{length}
use borrow.Author.Rules.{rules}
use Rattle.rules.specs.Limits.{max_clusters}
use Rattle.fronts.specs.Answers.{firsts_of}
use Rattle.fronts.proofs.Fronts.{firsts-none, firsts_more}
use Rattle.fronts.proofs.firsts.Goals as goal

pub loop-line-init : goal.loop-line-init
loop-line-init c = sym (firsts-none c.args.lines)

pub loop-line-preserved : goal.loop-line-preserved
loop-line-preserved c =
    rw (c.with-fronts.ensures, c.from.ensures, c.front.ensures, c.loop-line.invariant)
    (firsts_more c.args.lines c.loop-line.line-index)

pub returns : goal.returns
returns c =
    let o = c.loop-line in
    let n : length c.args.lines ≡ max_clusters = search rules in
    let e : o.line-index ≡ max_clusters = omega arith in
    o.invariant ∙ ap (firsts_of c.args.lines) e
