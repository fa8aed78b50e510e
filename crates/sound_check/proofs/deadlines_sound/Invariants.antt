-- `sound_check::deadlines_sound` meets its contract.
-- Assumes nothing.
use Prim.Native.Nat.{ℕ}
use mathlib.Core.Path.{◌≡◌}
use mathlib.Core.Bool.{Bool, true}
use mathlib.Core.List.{List}
use lib.ListN.{get_or}
use Rattle.places.specs.Tests.{all_below}
use Rattle.sound_check.specs.Answers.{deadline_fits}
use Rattle.sound_check.proofs.deadlines_sound.Given as goal

abbrev pub fits : List ℕ → List ℕ → Bool → ℕ → List ℕ → ℕ → Bool
fits homes rooms timed seen q c = deadline_fits homes rooms timed seen c (get_or q c 0)

abbrev pub invariant-loop-c : goal.invariant-loop-c
invariant-loop-c l = all_below l.c (fits l.setup.homes l.rooms l.setup.timed l.seen l.q) ≡ true
