-- The charges that an invoke, a reply, a ready and an abort leave.
-- Assumes nothing.
use Prim.Native.Nat.{ℕ, ◌+◌}
use mathlib.Core.Bool.{◌&&◌, cond, false, true}
use mathlib.Core.List.{List}
use mathlib.Core.Path.{◌∙◌, ◌≡◌, refl, sym}
use native.Mathlib.Omega.{arith}
use mathlib.Core.Option.{Option}
use lib.Dec.{eqb}
use lib.ListN.{set}
use borrow.Author.Tests.{eq-eqb, eqb-false, eqb-true, ne_eqb}
use Rattle.rules.specs.Events.{Event, abort, invoke, ready, reply}
use Rattle.rules.specs.Limits.{max_clients}
use Rattle.rules.specs.Lists.{upd}
use Rattle.rules.specs.Rank.{outranks}
use Rattle.rules.specs.Setup.{real_time}
use Rattle.rules.specs.State.{State}
use Rattle.rules.specs.Step.{next}
use Rattle.rules.proofs.Charge.{next-charge}
use Rattle.rules.proofs.Tests.{by-test}
use Rattle.gate.specs.Shown.{setup_of, table}
use Rattle.parts.specs.declared.Queues.{Queues}
use Rattle.gate.specs.declared.Setup.{Setup}
use Rattle.gate.proofs.Tables.{set-table, table_same}
use Rattle.answers.specs.Answers.{Holds}

module _ {v : Setup} {s : State} {q : Queues} {cs ks : List ℕ} (h : Holds v s q cs ks) where
  same-charge : (e : Event) → ((c : ℕ) → s.charge c ≡ (next (setup_of v) s e).charge c)
      → cs ≡ table max_clients (next (setup_of v) s e).charge
  same-charge e f = h.charges ∙ table_same max_clients s.charge _ (λ c b. f c)

  pub reply-charge : cs ≡ table max_clients (next (setup_of v) s reply).charge
  reply-charge = same-charge reply (λ c. omega (arith, next-charge (setup_of v) c (outranks (setup_of v) s) s reply))

  pub ready-charge : cs ≡ table max_clients (next (setup_of v) s ready).charge
  ready-charge = same-charge ready (λ c. omega (arith, next-charge (setup_of v) c (outranks (setup_of v) s) s ready))

  pub abort-charge : (d : ℕ) → cs ≡ table max_clients (next (setup_of v) s (abort d)).charge
  abort-charge d =
      same-charge (abort d) (λ c. omega (arith, next-charge (setup_of v) c (outranks (setup_of v) s) s (abort d)))

  -- a real-time client's charge became 0
  pub invoke-charge : (d : ℕ) (o : Option ℕ) {cs' : List ℕ} → cs' ≡ cond (real_time (setup_of v) d) (set cs d 0) cs
      → cs' ≡ table max_clients (next (setup_of v) s (invoke d o)).charge
  invoke-charge d o e =
      e ∙ by-test (real_time (setup_of v) d)
      (λ r. rw (r, h.charges) (set-table max_clients s.charge d 0
      ∙ table_same max_clients (upd s.charge d 0) _ (λ c b.
      sym (next-charge (setup_of v) c (outranks (setup_of v) s) s (invoke d o)
      ∙ here c r))))
      (λ r. rw (r, h.charges) (table_same max_clients s.charge _ (λ c b.
      sym (next-charge (setup_of v) c (outranks (setup_of v) s) s (invoke d o)
      ∙ away c r))))
    where
      here : (c : ℕ) → real_time (setup_of v) d ≡ true
          → cond (eqb d c && real_time (setup_of v) c) 0 (s.charge c + 0) ≡ upd s.charge d 0 c
      here c r =
          by-test (eqb d c)
          (λ e. rw (← eqb-true d c e, r, eq-eqb d d refl))
          (λ e. rw (e, ne_eqb c d (λ q. eqb-false d c e (sym q))) (omega arith))

      away : (c : ℕ) → real_time (setup_of v) d ≡ false
          → cond (eqb d c && real_time (setup_of v) c) 0 (s.charge c + 0) ≡ s.charge c
      away c r =
          by-test (eqb d c) (λ e. rw (← eqb-true d c e, eq-eqb d d refl, r) (omega arith)) (λ e. rw e (omega arith))
