-- `tracing::head_setup` meets its contract.
-- Assumes nothing.
use mathlib.Core.Path.{◌∙◌}
use Rattle.tracing.specs.Shapes.{head_setup}
use Rattle.tracing.proofs.shapes.head_setup.Goals as goal

pub returns : goal.returns
unfolding head_setup
returns c =
    let clusters = c.byte.ensures ∙ c.value_at.ensures in
    let clients = c.byte-2.ensures ∙ c.value_at-2.ensures in
    let cap = c.word.ensures ∙ c.value_at-3.ensures in
    let tidy = c.word-2.ensures ∙ c.value_at-4.ensures in
    rw (clusters, clients, cap, tidy, c.ranks_in.ensures)
