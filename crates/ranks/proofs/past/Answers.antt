-- `ranks::past` meets its contract: after i turns the i lowest by number are gone.
-- Assumes nothing.
use mathlib.Core.Path.{◌∙◌, ◌≡◌, ap, refl}
use native.Mathlib.Omega.{arith}
use Rattle.sets.specs.Sets.{first_of, without_of}
use Rattle.ranks.specs.Ranks.{past_of}
use Rattle.ranks.proofs.Left.{past_next, past-some}
use Rattle.ranks.proofs.past.Goals as goal

pub loop-i-init : goal.loop-i-init
unfolding past_of
loop-i-init c = refl

pub rest-left-requires : goal.rest-left-requires
rest-left-requires c =
    let l = c.loop-i in
    let s = c.args.s in
    rw l.invariant (past-some s (omega arith) l.i (omega (arith, c.requires)))

pub loop-i-preserved : goal.loop-i-preserved
loop-i-preserved c =
    let l = c.loop-i in
    let s = c.args.s in
    c.rest-left.ensures.0 ∙ ap (λ x. without_of x (first_of x)) l.invariant ∙ past_next s l.i

pub returns : goal.returns
returns c =
    let l = c.loop-i in
    let e : l.i ≡ c.args.m = omega arith in
    l.invariant ∙ ap (past_of c.args.s) e
