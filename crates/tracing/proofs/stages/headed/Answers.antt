-- `tracing::headed` meets its contract.
-- Assumes nothing.
use mathlib.Core.Path.{◌∙◌}
use Rattle.tracing.proofs.Taken.{headed-is}
use Rattle.tracing.proofs.stages.headed.Goals as goal

pub returns : goal.returns
returns c =
    let a = c.args in (
      headed-is a.t a.vs.now c.head_setup-s.ensures
          (c.word.ensures ∙ c.value_at.ensures) c.start-k.ensures.value
          c.awaits_sizes.ensures c.ranks_in.ensures,
      c.start-k.ensures.going,
    )
