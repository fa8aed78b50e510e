-- `tracing::deadline_in` meets its contract.
-- Assumes nothing.
use Prim.Native.Nat.{◌≤◌}
use mathlib.Core.Path.{sym, ◌∙◌, subst}
use mathlib.Core.Bool.{Bool, true, cond}
use lib.ListN.{get_or}
use Rattle.text.specs.Text.{bits32}
use Rattle.tracing.proofs.shapes.deadline_in.Goals as goal

pub double-requires : goal.double-requires
double-requires c =
    let carries = sym c.carries_ranks.ensures ∙ c.if-carries_ranks.true in
    let there : cond true (get_or c.args.vs.now 2 0) 0 ≤ bits32
    = subst (λ (b : Bool). cond b (get_or c.args.vs.now 2 0) 0 ≤ bits32) carries c.requires in
    rw c.value_at.ensures there

pub returns-then-carries_ranks : goal.returns-then-carries_ranks
returns-then-carries_ranks c =
    rw (sym c.carries_ranks.ensures ∙ c.if-carries_ranks.true) (c.double.ensures ∙ c.value_at.ensures)

pub returns : goal.returns
returns c =
    rw (sym c.carries_ranks.ensures ∙ c.if-carries_ranks.false)
