-- `parts::keys_of` meets its contract: before each turn, the keys up to there are the priorities.
-- Assumes nothing.
use Prim.Native.Nat.{ℕ, ◌<◌}
use mathlib.Core.Path.{◌≡◌}
use lib.ListN.{length, get_or}
use Rattle.parts.proofs.keys_of.Given as goal

abbrev pub invariant-loop-c : goal.invariant-loop-c
invariant-loop-c l =
    (length l.keys ≡ 64) × ((i : ℕ) → i < l.c → get_or l.keys i 0 ≡ get_or l.priorities i 0)
