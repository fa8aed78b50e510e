-- The charges of all waits of a client: at most (2 + 2mK)S for each accepted invoke.
-- Assumes nothing.
use Prim.Native.Nat.{ℕ, suc, ◌+◌, ◌*◌, ◌≤◌, ◌<◌}
use mathlib.Core.Path.{◌≡◌, refl}
use mathlib.Core.Bool.{true, false}
use mathlib.Core.List.{List, [], ◌∷◌}
use native.Mathlib.Omega.{arith}
use lib.Dec.{eqb}
use borrow.Author.Tests.{eqb-true, eqb-false}
use Rattle.rules.specs.Refusals.{accepted}
use Rattle.rules.specs.Setup.{Setup, Accepted, real_time, span}
use Rattle.rules.specs.Rank.{outranks}
use Rattle.rules.specs.Queues.{waits}
use Rattle.rules.specs.Events.{Event, invoke, run, reply, abort, ready, charged}
use Rattle.rules.specs.Step.{answer, own_ranks}
use Rattle.rules.specs.History.{after, begins, owes, owed, owes_in_all, owed_in_all}
use Rattle.rules.specs.History.{calls_again, calls, ends, waiting}
use Rattle.rules.specs.Demands.{worst}
use Rattle.rules.proofs.Tests.{by-test, clash}
use Rattle.rules.proofs.Ranking.{ranking-of}
use Rattle.rules.proofs.Run.{charged-facts}
use Rattle.rules.proofs.Bounded.{bounded-by}
use Rattle.rules.proofs.Waiting.{waiting-waits}

module _ (u : Setup) (ok : Accepted u) (c : ℕ) (real : real_time u c ≡ true) where
  -- who was never accepted with an invoke does not wait ..
  uncalled : (h : List Event) → calls u c h ≡ 0 → waiting u c h ≡ false
  uncalled [] z = refl
  uncalled (e ∷ h) z =
      by-test (eqb (answer u (after u h) e) accepted)
      (λ a. by-test (begins u c e)
      (λ b. let y : suc (calls u c h) ≡ 0 = rw (a, b) at z in absurd (omega arith))
      (λ b. rw (a, b, uncalled h (rw (a, b) at z)) (by-test (ends u c (after u h) e) (λ q. rw q) (λ q. rw q))))
      (λ a. rw a (uncalled h (rw a at z)))

  -- .. and is not charged
  uncharged : (h : List Event) → calls u c h ≡ 0 → charged u (outranks u (after u h)) (after u h) c ≡ false
  uncharged h z =
      by-test (charged u (outranks u (after u h)) (after u h) c)
      (λ e.
      let w : waits u (after u h) c ≡ false = rw (← waiting-waits u c ok h) (uncalled h z) in
      clash (charged-facts u (outranks u (after u h)) (after u h) c e).waiting w)
      (λ e. e)

  -- (2 + 2mK)S
  abbrev W : ℕ
  W = worst (u.size (u.cluster c)) u.clusters (span u)

  within : (h : List Event) → owed u c h ≤ W
  within h = omega (arith, bounded-by u ok (own_ranks u) (ranking-of u ok) h c real)

  -- all waits but the latest took at most W each
  record Covered (n total now : ℕ) : Type 0 where
    none : n ≡ 0 → total ≡ 0
    some : 0 < n → total + W ≤ n * W + now

  event-covered : (h : List Event) (e : Event) (n total now : ℕ) → now ≤ W
      → (n ≡ 0 → charged u (outranks u (after u h)) (after u h) c ≡ false) → Covered n total now
      → Covered (calls_again u c (after u h) e n) (owes_in_all u c (outranks u (after u h)) (after u h) e total)
      (owes u c (outranks u (after u h)) (after u h) e now)
  event-covered h (invoke d o) n total now b f i =
      by-test (begins u c (invoke d o))
      (λ q. rw q (record {
        none = λ z. absurd (omega arith);
        some = λ z. by-test (eqb n 0)
            (λ y. omega (arith, i.none (eqb-true n 0 y)))
            (λ y. omega (arith, i.some (omega (arith, eqb-false n 0 y))));
      }))
      (λ q. rw q (record { none = λ z. omega (arith, i.none z); some = λ z. omega (arith, i.some z) }))
  event-covered h (run t) n total now b f i =
      by-test (charged u (outranks u (after u h)) (after u h) c)
      (λ q. rw q (record { none = λ z. clash q (f z); some = λ z. omega (arith, i.some z) }))
      (λ q. rw q (record { none = λ z. omega (arith, i.none z); some = λ z. omega (arith, i.some z) }))
  event-covered h reply n total now b f i =
      record { none = λ z. omega (arith, i.none z); some = λ z. omega (arith, i.some z) }
  event-covered h (abort d) n total now b f i =
      record { none = λ z. omega (arith, i.none z); some = λ z. omega (arith, i.some z) }
  event-covered h ready n total now b f i =
      record { none = λ z. omega (arith, i.none z); some = λ z. omega (arith, i.some z) }

  covered : (h : List Event) → Covered (calls u c h) (owed_in_all u c h) (owed u c h)
  covered [] = record { none = λ z. refl; some = λ z. absurd (omega arith) }
  covered (e ∷ h) =
      by-test (eqb (answer u (after u h) e) accepted)
      (λ a. rw a
      (event-covered h e (calls u c h) (owed_in_all u c h) (owed u c h) (within h) (uncharged h) (covered h)))
      (λ a. rw a (covered h))

  pub covers : (h : List Event) → owed_in_all u c h ≤ calls u c h * W
  covers h =
      let i = covered h in
      by-test (eqb (calls u c h) 0)
      (λ z. omega (arith, i.none (eqb-true (calls u c h) 0 z)))
      (λ z. omega (arith, i.some (omega (arith, eqb-false (calls u c h) 0 z)), within h))
