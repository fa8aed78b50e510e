-- `ranks::first_by` meets its contract: the loop holds the first of those that are not left, by whatever order is told.
-- Assumes nothing.
use Rattle.std.proofs.Common.{◌≡◌, Bool, ℕ, ◌<◌}
use Rattle.rules.specs.Limits.{max_clients}
use Rattle.rules.specs.Rank.{Rank}
use Rattle.rules.proofs.Highest.{StrictTotal}
use Rattle.ranks.proofs.Tops.{Tops}
use Rattle.ranks.proofs.first_by.Given as goal

abbrev pub invariant-loop-left : goal.invariant-loop-left
invariant-loop-left g l =
    (l.b < max_clients) × ((rank : Rank) → StrictTotal rank
    → ((a b : ℕ) (r : Bool) → a < max_clients → b < max_clients → g.F.Fn.post l.before (a, (b, tt)) r → r ≡ rank a b)
    → Tops rank l.s l.left l.b)

abbrev pub decreases-loop-left : goal.decreases-loop-left
decreases-loop-left g l = l.left
