-- Deadlines: an event gives one where a wait begins and takes it where a wait ends, so each is fixed for its wait, and
-- they stay as sound states have them. All else holds whatever the deadlines are.
-- Assumes nothing.
use Prim.Native.Nat.{ℕ, ◌≤◌}
use mathlib.Core.Path.{◌≡◌, refl, sym, ◌∙◌}
use mathlib.Core.Bool.{Bool, true, false, cond}
use mathlib.Core.Option.{Option, some, none}
use native.Mathlib.Omega.{arith}
use lib.Dec.{eqb, leb}
use borrow.Author.Tests.{eqb-true, eqb-false, leb-true}
use Rattle.rules.specs.Limits.{max_deadline}
use Rattle.rules.specs.Refusals.{accepted}
use Rattle.rules.specs.Lists.{upd, has}
use Rattle.rules.specs.Setup.{Setup, real_time}
use Rattle.rules.specs.State.{State, Server, idle, front, best, spent, tidying, serves}
use Rattle.rules.specs.Changes.{with_deadline}
use Rattle.rules.specs.Rank.{Rank}
use Rattle.rules.specs.Queues.{waits}
use Rattle.rules.specs.Sound.{DeadlineSound}
use Rattle.rules.specs.Events.{Event, invoke, run, reply, abort, ready, due_by, answered}
use Rattle.rules.specs.Step.{fit_form, deadlines, answer_by, next_by}
use Rattle.rules.specs.History.{begins, ends, waits_on}
use Rattle.rules.proofs.Tests.{by-test, clash, not_so, either_true, both_true, upd_same, upd_other}
use Rattle.rules.proofs.Highest.{StrictTotal}
use Rattle.rules.proofs.InOrder.{InOrder}
use Rattle.rules.proofs.Kept.{Kept}
use Rattle.rules.proofs.Placed.{Placed}
use Rattle.rules.proofs.Answers.{invoke-accepted}
use Rattle.rules.proofs.Waits.{waits-real, next-waits}

module _ (u : Setup) where
  -- WHAT DOESN'T LOOK AT DEADLINES

  pub dated-in-order : (f : ℕ → ℕ) (t : State) → InOrder u t → InOrder u (with_deadline f t)
  dated-in-order f t i =
      record {
        lined = i.lined;
        full = i.full;
        ordered = i.ordered;
        rests = i.rests;
        units-fit = i.units-fit;
      }

  pub dated-placed : (f : ℕ → ℕ) (t : State) → Placed u t → Placed u (with_deadline f t)
  dated-placed f t p = record { background = p.background; charge = p.charge; served = p.served }

  pub dated-kept : (rank : Rank) (f : ℕ → ℕ) (t : State) (c : ℕ) (g : Bool)
      → Kept u rank t c g → Kept u rank (with_deadline f t) c g
  dated-kept rank f t c g k = record { in-room = k.in-room; not-in-room = k.not-in-room }

  -- THE FORM

  fit-bits : (o : Option ℕ) → fit_form u.timed o ≡ true → due_by o ≤ max_deadline
  fit-bits none h = omega arith
  fit-bits (some d) h = leb-true d max_deadline (both_true u.timed (leb d max_deadline) h).1

  fit-untimed : (o : Option ℕ) → fit_form u.timed o ≡ true → u.timed ≡ false → due_by o ≡ 0
  fit-untimed none h n = refl
  fit-untimed (some d) h n = clash (both_true u.timed (leb d max_deadline) h).0 n

  -- AN EVENT

  -- the deadline that an event brings
  abbrev brings : Event → ℕ
  brings (invoke d o) = due_by o
  brings (run n) = 0
  brings reply = 0
  brings (abort d) = 0
  brings ready = 0

  -- f with v at d, by the test for d
  upd-test : (f : ℕ → ℕ) (d v c : ℕ) → upd f d v c ≡ cond (eqb d c) v (f c)
  upd-test f d v c =
      by-test (eqb d c)
      (λ e. rw e (upd_same f d v c (sym (eqb-true d c e))))
      (λ e. rw e (upd_other f d v c (λ q. eqb-false d c e (sym q))))

  module _ (rank : Rank) (order : StrictTotal rank) (s : State) (i : InOrder u s) (p : Placed u s)
      (h : (c : ℕ) → DeadlineSound u s c) where
    -- whoever is in service and doesn't wait has none
    not-front : (c : ℕ) → (waits u s c ≡ true → ⊥) → s.deadline c ≡ 0
    not-front c n = (h c).away (not_so (waits u s c) n)

    answered-is : (c : ℕ) (v : Server) → s.server ≡ v
        → answered v s.deadline c ≡ cond (serves v c) 0 (s.deadline c)
    answered-is c idle e = refl
    answered-is c (front d) e = upd-test s.deadline d 0 c
    answered-is c (best d) e =
        by-test (eqb d c)
        (λ q.
        let w : real_time u c ≡ false = rw (eqb-true d c q) at (rw e at p.served).effort in
        rw q (not-front c (λ z. clash (waits-real u s c i z) w)))
        (λ q. rw q)
    answered-is c (spent d) e =
        by-test (eqb d c)
        (λ q.
        let z = rw (e, eqb-true d c q) at p.served in
        rw q (not-front c (λ w. either_true (has c (s.lines (u.cluster c))) (s.room c) w
        (λ y. clash y z.apart) (λ y. clash y z.out))))
        (λ q. rw q)
    answered-is c tidying e = refl

    -- A deadline comes with the invoke that begins a wait, and goes when the wait ends.
    deadline-is : (e : Event) (c : ℕ)
        → deadlines u s e c ≡ cond (begins u c e) (brings e) (cond (ends u c s e) 0 (s.deadline c))
    deadline-is (invoke d o) c =
        by-test (real_time u d)
        (λ r. rw r (upd-test s.deadline d (due_by o) c ∙ by-test (eqb d c)
        (λ q. let t : real_time u c ≡ true = rw (eqb-true d c q) at r in rw (q, t))
        (λ q. rw q)))
        (λ r. rw r (by-test (eqb d c)
        (λ q. let t : real_time u c ≡ false = rw (eqb-true d c q) at r in rw (q, t))
        (λ q. rw q)))
    deadline-is (run n) c = refl
    deadline-is reply c = answered-is c s.server refl
    deadline-is (abort d) c = upd-test s.deadline d 0 c
    deadline-is ready c = refl

    module _ (e : Event) (a : answer_by u rank s e ≡ accepted) (c : ℕ) where
      after_is : waits u (next_by u rank s e) c ≡ waits_on u c s e (waits u s c)
      after_is = next-waits u c rank order s i p e a

      -- whose wait begins did not wait
      begins-anew : begins u c e ≡ true → waits u s c ≡ false
      begins-anew = go e a
        where
          go : (e : Event) → answer_by u rank s e ≡ accepted → begins u c e ≡ true → waits u s c ≡ false
          go (invoke d o) a b =
              let q = eqb-true d c (both_true (eqb d c) (real_time u c) b).0 in
              rw q at (invoke-accepted u rank s d o a).not-waiting
          go (run n) a b = clash b refl
          go reply a b = clash b refl
          go (abort d) a b = clash b refl
          go ready a b = clash b refl

      -- It is fixed for that wait.
      pub fixed-deadline : waits u s c ≡ true → waits u (next_by u rank s e) c ≡ true
          → (next_by u rank s e).deadline c ≡ s.deadline c
      unfolding next_by
      fixed-deadline w w' =
          deadline-is e c ∙ by-test (begins u c e)
          (λ b. clash w (begins-anew b))
          (λ b. by-test (ends u c s e)
          (λ z. let y : ◌≡◌ {A = Bool} false true = rw (b, z) at (sym after_is ∙ w') in clash y refl)
          (λ z. rw (b, z)))

      brings-fit : begins u c e ≡ true → (brings e ≤ max_deadline) × (u.timed ≡ false → brings e ≡ 0)
      brings-fit = go e a
        where
          go : (e : Event) → answer_by u rank s e ≡ accepted → begins u c e ≡ true
              → (brings e ≤ max_deadline) × (u.timed ≡ false → brings e ≡ 0)
          go (invoke d o) a b =
              let f = (invoke-accepted u rank s d o a).form in (fit-bits o f, fit-untimed o f)
          go (run n) a b = clash b refl
          go reply a b = clash b refl
          go (abort d) a b = clash b refl
          go ready a b = clash b refl

      pub next-dated : DeadlineSound u (next_by u rank s e) c
      unfolding next_by
      next-dated =
          by-test (begins u c e)
          (λ b.
          let z : deadlines u s e c ≡ brings e = deadline-is e c ∙ rw b in
          let y : waits u (next_by u rank s e) c ≡ true = after_is ∙ rw b in
          record {
            bits = rw z (brings-fit b).0;
            away = λ w. clash y w;
            untimed = λ n. z ∙ (brings-fit b).1 n;
          })
          (λ b. by-test (ends u c s e)
          (λ g.
          let z : deadlines u s e c ≡ 0 = deadline-is e c ∙ rw (b, g) in
          record { bits = rw z (omega arith); away = λ w. z; untimed = λ n. z })
          (λ g.
          let z : deadlines u s e c ≡ s.deadline c = deadline-is e c ∙ rw (b, g) in
          let y : waits u (next_by u rank s e) c ≡ waits u s c = after_is ∙ rw (b, g) in
          record {
            bits = rw z (h c).bits;
            away = λ w. z ∙ (h c).away (sym y ∙ w);
            untimed = λ n. z ∙ (h c).untimed n;
          }))
