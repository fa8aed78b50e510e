-- Whoever is in the waiting room waits: an abort that hits a client in the room hits it during its wait.
-- Assumes nothing.
use Prim.Native.Nat.{ℕ}
use mathlib.Core.Path.{◌≡◌, refl}
use mathlib.Core.Bool.{Bool, true, false, ◌||◌, cond}
use mathlib.Core.List.{List, [], ◌∷◌}
use lib.Dec.{eqb}
use Rattle.rules.specs.Refusals.{accepted}
use Rattle.rules.specs.Setup.{Setup}
use Rattle.rules.specs.State.{State}
use Rattle.rules.specs.Rank.{Rank, outranks}
use Rattle.rules.specs.Queues.{waits}
use Rattle.rules.specs.Events.{Event}
use Rattle.rules.specs.Step.{answer_by}
use Rattle.rules.specs.History.{after, changed, begins, hits, strikes, strikes_in_room, passed_in}
use Rattle.rules.specs.History.{struck, struck_in_room}
use Rattle.rules.proofs.Tests.{by-test, clash}
use Rattle.rules.proofs.Goes.{room_waits}

module _ (u : Setup) (c : ℕ) where
  missed : (s : State) (e : Event) → strikes u c s e ≡ false → strikes_in_room u c s e ≡ false
  missed s e h =
      by-test (s.room c)
      (λ r. let w : waits u s c ≡ true = room_waits u s c r in rw r (rw w at h))
      (λ r. rw r (by-test (hits u c s e) (λ q. rw q) (λ q. rw q)))

  not_yet : (b p q m n : Bool) → (p ≡ false → q ≡ false) → (m ≡ false → n ≡ false)
      → cond b false (p || m) ≡ false → cond b false (q || n) ≡ false
  not_yet true p q m n f g h = refl
  not_yet false true q m n f g h = clash refl h
  not_yet false false q m n f g h = rw (f refl) (g h)

  kept-so : (e : Event) (rank : Rank) (s : State) (m n : Bool) → (m ≡ false → n ≡ false)
      → changed u (λ (r : Rank). passed_in u (strikes u) c) rank s e m ≡ false
      → changed u (λ (r : Rank). passed_in u (strikes_in_room u) c) rank s e n ≡ false
  kept-so e rank s m n g h =
      by-test (eqb (answer_by u rank s e) accepted)
      (λ a. rw a (not_yet (begins u c e) (strikes u c s e) (strikes_in_room u c s e) m n (missed s e) g (rw a at h)))
      (λ a. rw a (g (rw a at h)))

  pub unstruck-in-room : (h : List Event) → struck u c h ≡ false → struck_in_room u c h ≡ false
  unstruck-in-room [] z = refl
  unstruck-in-room (e ∷ h) z =
      kept-so e (outranks u (after u h)) (after u h) (struck u c h) (struck_in_room u c h) (unstruck-in-room h) z
