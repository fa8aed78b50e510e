-- A wait by events is a place in a line or a waiting room.
-- Assumes nothing.
use Prim.Native.Nat.{ℕ}
use mathlib.Core.Path.{◌≡◌, refl, sym}
use mathlib.Core.List.{List, [], ◌∷◌}
use lib.Dec.{eqb}
use borrow.Author.Tests.{eqb-true}
use Rattle.rules.specs.Refusals.{accepted}
use Rattle.rules.specs.Setup.{Setup, Accepted}
use Rattle.rules.specs.Rank.{outranks}
use Rattle.rules.specs.Queues.{waits}
use Rattle.rules.specs.Events.{Event}
use Rattle.rules.specs.Step.{step_by, answer}
use Rattle.rules.specs.History.{after, waiting}
use Rattle.rules.proofs.Tests.{by-test}
use Rattle.rules.proofs.ByNumber.{own-order}
use Rattle.rules.proofs.Waits.{next-waits}
use Rattle.rules.proofs.Reached.{own-reached}

-- A wait by events, from an accepted invoke to the reply that ends it or the client's accepted abort, is a place in the
-- client's line or waiting room.
pub waiting-waits : (u : Setup) (x : ℕ) → Accepted u → (h : List Event) → waiting u x h ≡ waits u (after u h) x
unfolding step_by
waiting-waits u x ok [] = refl
waiting-waits u x ok (e ∷ h) =
    let s = after u h in
    let i = own-reached u ok h in
    by-test (eqb (answer u s e) accepted)
    (λ q. rw (q, waiting-waits u x ok h)
    (sym (next-waits u x (outranks u s) (own-order u s) s i.in_order i.placed e
    (eqb-true (answer u s e) accepted q))))
    (λ q. rw q (waiting-waits u x ok h))
