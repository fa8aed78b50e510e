-- What holds of every state that a fresh gate of an accepted setup comes to, by any ranks that are a strict total order
-- at each event.
-- Assumes nothing.
use Prim.Native.Nat.{ℕ}
use mathlib.Core.Path.{refl}
use mathlib.Core.List.{List, [], ◌∷◌}
use native.Mathlib.Omega.{arith}
use lib.Dec.{eqb}
use borrow.Author.Tests.{eqb-true}
use Rattle.rules.specs.Refusals.{accepted}
use Rattle.rules.specs.Setup.{Setup, Accepted, Trimmed}
use Rattle.rules.specs.State.{State, fresh}
use Rattle.rules.specs.Sound.{Sound, DeadlineSound}
use Rattle.rules.specs.Rank.{Rank}
use Rattle.rules.specs.Events.{Event}
use Rattle.rules.specs.Step.{answer_by, step_by, Ranks, own_ranks}
use Rattle.rules.specs.History.{after, after_by}
use Rattle.rules.proofs.Tests.{by-test, clash}
use Rattle.rules.proofs.Highest.{StrictTotal}
use Rattle.rules.proofs.ByNumber.{own-order}
use Rattle.rules.proofs.Setups.{valid}
use Rattle.rules.proofs.InOrder.{InOrder}
use Rattle.rules.proofs.Goes.{differ}
use Rattle.rules.proofs.Placed.{Placed}
use Rattle.rules.proofs.SoundStates.{sound-is}
use Rattle.rules.proofs.Steps.{next-in-order, next-placed}
use Rattle.rules.proofs.Dated.{next-dated}

module _ (u : Setup) where
  -- THE FRESH GATE

  pub fresh-in-order : InOrder u fresh
  fresh-in-order =
      record {
        lined = record {
          line = λ k. record {
            fits = omega arith;
            known = λ c h. clash h refl;
            real = λ c h. clash h refl;
            home = λ c h. clash h refl;
            once = tt;
          };
          in-room = λ c h. clash h refl;
        };
        full = λ c h. clash h refl;
        ordered = record {
          global-front = λ d h. clash h refl;
          served-front = λ d h. differ h refl;
          turn-once = tt;
          turn_below = λ k h. clash h refl;
          turn-of = λ k q h. absurd (omega arith);
        };
        rests = λ e. (refl, refl);
        units-fit = omega arith;
      }

  fresh-placed : Placed u fresh
  fresh-placed =
      record {
        background = record { known = λ c h. clash h refl; effort = λ c h. clash h refl; once = tt };
        charge = λ c. record { effort = λ h. refl; past = λ h. refl; limit = omega arith };
        served = refl;
      }

  fresh-dated : (c : ℕ) → DeadlineSound u fresh c
  fresh-dated c = record { bits = omega arith; away = λ h. refl; untimed = λ h. refl }

  -- EVERY HISTORY

  pub record Stands (s : State) : Type 0 where
    pub in_order : InOrder u s
    pub placed : Placed u s
    pub dated : (c : ℕ) → DeadlineSound u s c

  module _ (a : Accepted u) where
    event-stands : (rank : Rank) → StrictTotal rank → (s : State) → Stands s → (e : Event) → Stands (step_by u rank s e)
    unfolding step_by
    event-stands rank order s i e =
        by-test (eqb (answer_by u rank s e) accepted)
        (λ q.
        let ok = eqb-true (answer_by u rank s e) accepted q in
        rw q (record {
          in_order = next-in-order u (valid u a) rank order s i.in_order i.placed e ok;
          placed = next-placed u (valid u a) rank order s i.in_order i.placed e ok;
          dated = next-dated u rank order s i.in_order i.placed i.dated e ok;
        }))
        (λ q. rw q i)

    pub reached : (ranks : Ranks) → ((h : List Event) → StrictTotal (ranks h (after_by u ranks h)))
        → (h : List Event) → Stands (after_by u ranks h)
    reached ranks order [] = record { in_order = fresh-in-order; placed = fresh-placed; dated = fresh-dated }
    reached ranks order (e ∷ h) =
        event-stands (ranks h (after_by u ranks h)) (order h) (after_by u ranks h) (reached ranks order h) e

    pub own-reached : (h : List Event) → Stands (after u h)
    own-reached = reached (own_ranks u) (λ h. own-order u (after u h))

    pub reached-sound : Trimmed u → (h : List Event) → Sound u (after u h)
    reached-sound t h =
        let i = own-reached h in sound-is u (after u h) a t i.in_order i.placed i.dated
