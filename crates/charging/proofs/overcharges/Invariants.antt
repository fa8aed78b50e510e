-- `charging::overcharges` meets its contract: none of the clients passed is overcharged.
-- Assumes nothing.
use Prim.Native.Nat.{ℕ, ◌<◌}
use mathlib.Core.Bool.{false, true}
use mathlib.Core.Path.{◌≡◌}
use Rattle.rules.specs.Limits.{max_clients}
use Rattle.sets.specs.Sets.{member}
use Rattle.sets.proofs.Walks.{passed}
use Rattle.charging.specs.Charged.{overcharges_in}
use Rattle.charging.proofs.overcharges.Given as goal

abbrev pub invariant-loop-left : goal.invariant-loop-left
invariant-loop-left l =
    ((c : ℕ) → c < max_clients → member l.left c ≡ true → member l.set c ≡ true)
    × ((c : ℕ) → c < max_clients → passed l.set l.left c ≡ true → overcharges_in l.charges l.set l.n c ≡ false)

abbrev pub decreases-loop-left : goal.decreases-loop-left
decreases-loop-left l = l.left
