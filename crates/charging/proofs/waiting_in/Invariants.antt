-- `charging::waiting_in` meets its contract: what is left of the line, and the set, make the whole.
-- Assumes nothing.
use Prim.Native.Nat.{◌<◌, ◌^◌}
use mathlib.Core.Path.{◌≡◌}
use lib.ListN.{drop}
use Rattle.rules.specs.Limits.{max_clients}
use Rattle.charging.specs.Charged.{waiting_in}
use Rattle.charging.proofs.waiting_in.Given as goal

abbrev pub invariant-loop-x : goal.invariant-loop-x
invariant-loop-x l =
    (l.s < 2 ^ max_clients) × (waiting_in (drop l.x-index l.x-items) l.s ≡ waiting_in l.x-items l.room)
