-- What a record does: what the events that it says do.
-- Assumes nothing.
use mathlib.Core.Path.{◌≡◌, refl}
use mathlib.Core.Bool.{Bool, true, false, cond}
use mathlib.Core.List.{List, [], ◌∷◌}
use lib.Dec.{eqb}
use borrow.Author.Tests.{ne_eqb}
use Rattle.rules.specs.Refusals.{accepted}
use Rattle.rules.specs.Setup.{Setup}
use Rattle.rules.specs.State.{State}
use Rattle.rules.specs.Events.{Event, reply, ready}
use Rattle.rules.specs.Step.{step_by, answer, step, after_from}
use Rattle.rules.specs.Records.{Heard, known, reply_ready, unknown, answer_of, said_of, step_of}

module _ (u : Setup) where
  pub said-step : (s : State) (h : List Event) (x : Heard)
      → after_from u s (said_of u (after_from u s h) x h) ≡ step_of u (after_from u s h) x
  said-step s h (known e) = refl
  said-step s h reply_ready = go (eqb (answer u (after_from u s h) reply) accepted)
    where
      go : (b : Bool)
          → after_from u s (cond b (ready ∷ reply ∷ h) (reply ∷ h))
          ≡ after_from u (after_from u s h) (cond b (ready ∷ reply ∷ []) (reply ∷ []))
      go true = refl
      go false = refl
  said-step s h unknown = refl

  -- what every event keeps, every record keeps
  pub record-keeps {ℓ} : (P : State → Type ℓ) → ((s : State) (e : Event) → P s → P (step u s e))
      → (s : State) (x : Heard) → P s → P (step_of u s x)
  record-keeps P keep s (known e) h = keep s e h
  record-keeps P keep s reply_ready h = go (eqb (answer u s reply) accepted)
    where
      go : (b : Bool) → P (after_from u s (cond b (ready ∷ reply ∷ []) (reply ∷ [])))
      go true = keep (step u s reply) ready (keep s reply h)
      go false = keep s reply h
  record-keeps P keep s unknown h = h

  -- a refused record leaves the state as it was
  pub refused-record : (s : State) (x : Heard) → (answer_of u s x ≡ accepted → ⊥) → step_of u s x ≡ s
  unfolding step_by
  refused-record s (known e) n = rw (ne_eqb (answer u s e) accepted n)
  refused-record s reply_ready n =
      rw (ne_eqb (answer u s reply) accepted n) (rw (ne_eqb (answer u s reply) accepted n))
  refused-record s unknown n = refl
