-- `charging::charge` meets its contract: the charges of the clients passed have grown.
-- Assumes nothing.
use Prim.Native.Nat.{ℕ, ◌<◌}
use mathlib.Core.Bool.{false, true}
use mathlib.Core.Path.{◌≡◌}
use lib.ListN.{length}
use Rattle.rules.specs.Limits.{max_clients}
use Rattle.rules.specs.Lists.{some_below}
use Rattle.sets.specs.Sets.{member}
use Rattle.gate.specs.Shown.{table}
use Rattle.charging.specs.Charged.{overcharges_in}
use Rattle.charging.proofs.Growing.{paid}
use Rattle.charging.proofs.charge.Given as goal

abbrev pub invariant-loop-left : goal.invariant-loop-left
invariant-loop-left l =
    (some_below (overcharges_in l.initial.charges l.set l.n) max_clients ≡ false)
    × ((c : ℕ) → c < max_clients → member l.left c ≡ true → member l.set c ≡ true)
    × (l.charges ≡ table (length l.initial.charges) (paid l.initial.charges l.set l.n l.left))

abbrev pub decreases-loop-left : goal.decreases-loop-left
decreases-loop-left l = l.left
