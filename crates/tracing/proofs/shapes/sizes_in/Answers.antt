-- `tracing::sizes_in` meets its contract: the places before the loop's are filled.
-- Assumes nothing.
use Prim.Native.Nat.{ℕ}
use native.Mathlib.Omega.{arith}
use mathlib.Core.Path.{refl, ◌∙◌}
use lib.ListN.{get_or}
use borrow.Author.Tests.{lt-ltb}
use Rattle.rules.specs.Limits.{max_clusters}
use Rattle.rules.specs.Setup.{up_to}
use Rattle.gate.specs.Shown.{table}
use Rattle.gate.proofs.Tables.{table_same}
use Rattle.layout.proofs.Columns.{column-turn}
use Rattle.tracing.proofs.shapes.sizes_in.Goals as goal

pub loop-k-init : goal.loop-k-init
unfolding table
loop-k-init c = refl

pub byte-requires : goal.byte-requires
byte-requires c =
    rw c.value_at.ensures (c.requires c.loop-k.k)

pub loop-k-preserved : goal.loop-k-preserved
loop-k-preserved c =
    let vs = c.args.vs.now in
    rw (c.byte.ensures, c.value_at.ensures, c.loop-k.invariant)
    (column-turn max_clusters (λ (j : ℕ). get_or vs j 0) c.loop-k.k)

pub returns : goal.returns
returns c =
    let vs = c.args.vs.now in
    c.loop-k.invariant
    ∙ table_same max_clusters (up_to c.loop-k.k (λ (j : ℕ). get_or vs j 0)) (λ (j : ℕ). get_or vs j 0)
    (λ i b. rw (lt-ltb i c.loop-k.k (omega arith)))
