-- `sound_check::charges_sound` meets its contract.
-- Assumes nothing.
use Prim.Native.Nat.{ℕ}
use mathlib.Core.Path.{◌≡◌}
use mathlib.Core.Bool.{Bool, true}
use mathlib.Core.List.{List}
use lib.ListN.{get_or}
use Rattle.places.specs.Tests.{all_below}
use Rattle.sound_check.specs.Answers.{charge_fits}
use Rattle.sound_check.proofs.charges_sound.Given as goal

abbrev pub fits : ℕ → List ℕ → ℕ → Bool
fits real q c = charge_fits real c (get_or q c 0)

abbrev pub invariant-loop-c : goal.invariant-loop-c
invariant-loop-c l = all_below l.c (fits l.real l.q) ≡ true
