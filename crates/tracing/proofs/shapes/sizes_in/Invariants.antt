-- `tracing::sizes_in` meets its contract: the places before the loop's are filled.
-- Assumes nothing.
use Prim.Native.Nat.{ℕ}
use mathlib.Core.Path.{◌≡◌}
use lib.ListN.{get_or}
use Rattle.rules.specs.Limits.{max_clusters}
use Rattle.rules.specs.Setup.{up_to}
use Rattle.gate.specs.Shown.{table}
use Rattle.tracing.proofs.shapes.sizes_in.Given as goal

abbrev pub invariant-loop-k : goal.invariant-loop-k
invariant-loop-k l = l.size-items ≡ table max_clusters (up_to l.k (λ (j : ℕ). get_or l.vs j 0))
