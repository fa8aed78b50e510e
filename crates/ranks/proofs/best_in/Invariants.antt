-- `ranks::best_in` meets its contract: the loop holds the best of those that are not left.
-- Assumes nothing.
use Prim.Native.Nat.{ℕ, ◌^◌, ◌<◌}
use mathlib.Core.Bool.{true}
use mathlib.Core.Path.{◌≡◌}
use Rattle.rules.specs.Limits.{max_clients}
use Rattle.sets.specs.Sets.{member}
use Rattle.sets.proofs.Walks.{passed}
use Rattle.ranks.specs.Keeps.{Keeps}
use Rattle.ranks.specs.Ranks.{rank_by}
use Rattle.ranks.proofs.best_in.Given as goal

abbrev pub invariant-loop-left : goal.invariant-loop-left
invariant-loop-left l =
    (l.k.last < max_clients) × (l.k.best < 2 ^ max_clients)
    × ((d : ℕ) → d < max_clients → member l.left d ≡ true → member l.s d ≡ true)
    × Keeps (rank_by l.keys) l.m (passed l.s l.left) l.k

abbrev pub decreases-loop-left : goal.decreases-loop-left
decreases-loop-left l = l.left
