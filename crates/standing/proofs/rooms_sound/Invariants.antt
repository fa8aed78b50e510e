-- `standing::rooms_sound` meets its contract.
-- Assumes nothing.
use Prim.Native.Nat.{ℕ}
use mathlib.Core.Path.{◌≡◌}
use mathlib.Core.Bool.{Bool, true}
use mathlib.Core.List.{List}
use lib.ListN.{get_or}
use Rattle.gate.specs.declared.Line.{Line}
use Rattle.places.specs.Tests.{all_below}
use Rattle.standing.specs.Answers.{lines_in}
use Rattle.standing.specs.Answers.{room_fits}
use Rattle.standing.proofs.rooms_sound.Given as goal

abbrev pub fits : List ℕ → List ℕ → ℕ → List Line → List ℕ → ℕ → Bool
fits sizes own stand lines rooms k =
    room_fits (get_or sizes k 0) (get_or own k 0) stand (lines_in lines k) (get_or rooms k 0)

abbrev pub invariant-loop-k : goal.invariant-loop-k
invariant-loop-k l = all_below l.k (fits l.sizes l.own l.stand l.lines l.rooms) ≡ true
