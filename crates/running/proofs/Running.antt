-- The answers to a run, from the tests that the code makes, in their order, and what is left of it.
-- Assumes nothing.
use Prim.Native.Nat.{◌+◌, ℕ}
use mathlib.Core.Bool.{Bool, false, true}
use mathlib.Core.List.{List}
use mathlib.Core.Path.{◌≡◌, refl}
use lib.Dec.{ltb}
use borrow.Author.Tests.{eq-eqb, ne_eqb}
use Rattle.rules.specs.Events.{ran, run}
use Rattle.rules.specs.Limits.{max_clients}
use Rattle.rules.specs.Rank.{outranks}
use Rattle.rules.specs.Refusals.{run_of_none, run_past_cap, server_idle}
use Rattle.rules.specs.State.{State, cap_of, is_idle}
use Rattle.rules.specs.Step.{answer, answer_by, moved_by, next_by, overcharges, step_by}
use Rattle.rules.specs.Records.{known}
use Rattle.rules.proofs.Tests.{by-test}
use Rattle.gate.specs.Shown.{setup_of, table}
use Rattle.parts.specs.Shows.{ShowsQueues}
use Rattle.parts.proofs.Keys.{keys_kept}
use Rattle.parts.specs.declared.Queues.{Queues}
use Rattle.gate.specs.declared.Setup.{Setup}
use Rattle.answers.specs.Answers.{Answers, Holds}
use Rattle.answers.specs.declared.Answer.TheVariants as is
use Rattle.answers.specs.declared.Outcome.{Outcome}
use Rattle.running.specs.Runs.{Charges}

module _ (v : Setup) (s : State) where
  pub run_none : (n : ℕ) → n ≡ 0 → answer (setup_of v) s (run n) ≡ run_of_none
  unfolding answer_by
  run_none n e = rw (eq-eqb n 0 e)

  module _ {b : Bool} (rests : b ≡ is_idle s.server) where
    module _ (n : ℕ) (positive : n ≡ 0 → ⊥) where
      pub run-idle : b ≡ true → answer (setup_of v) s (run n) ≡ server_idle
      unfolding answer_by
      run-idle t = rw (ne_eqb n 0 positive, ← rests, t)

      module _ (busy : b ≡ false) {p : Bool} (past : p ≡ ltb (cap_of (setup_of v) s.server) (s.units + n)) where
        pub run_past : p ≡ true → answer (setup_of v) s (run n) ≡ run_past_cap
        unfolding answer_by
        run_past t = rw (ne_eqb n 0 positive, ← rests, busy, ← past, t)

        -- what is left of a run decides
        pub run-charges : {r : Outcome} {cs ks : List ℕ} → p ≡ false → Charges v s n r cs ks
            → Answers v s (known (run n)) r cs ks
        unfolding answer_by moved_by next_by step_by ran
        run-charges {r} t q =
            by-test (overcharges (setup_of v) (outranks (setup_of v) s) s n)
            (λ o. record {
              number = rw (ne_eqb n 0 positive, ← rests, busy, ← past, t) q.number;
              queues = rw (ne_eqb n 0 positive, ← rests, busy, ← past, t, o) (rw o at q.queues);
              charges = rw (ne_eqb n 0 positive, ← rests, busy, ← past, t, o) (rw o at q.charges);
              keys = rw (ne_eqb n 0 positive, ← rests, busy, ← past, t, o) (rw o at q.keys);
            })
            (λ o. record {
              number = rw (ne_eqb n 0 positive, ← rests, busy, ← past, t) q.number;
              queues = rw (ne_eqb n 0 positive, ← rests, busy, ← past, t, o) (rw o at q.queues);
              charges = rw (ne_eqb n 0 positive, ← rests, busy, ← past, t, o) (rw o at q.charges);
              keys = rw (ne_eqb n 0 positive, ← rests, busy, ← past, t, o) (rw o at q.keys);
            })

-- THE LAST OF A RUN

module _ {v : Setup} {s : State} (n : ℕ) {o : Bool} (over : o ≡ overcharges (setup_of v) (outranks (setup_of v) s) s n)
    {q : Queues} {cs ks : List ℕ} (h : Holds v s q cs ks) where
  pub charges-over : o ≡ true → Charges v s n (record { answer = is.Unsound; queues = q }) cs ks
  charges-over t =
      record {
        number = rw (← over, t);
        queues = rw (← over, t) h.queues;
        charges = rw (← over, t) h.charges;
        keys = rw (← over, t) h.keys;
      }

  -- the deadlines stay, and so do the keys
  pub charges-fine : {r : Queues} {cs' : List ℕ} → o ≡ false
      → ShowsQueues v (ran (setup_of v) (outranks (setup_of v) s) n s) r
      → cs' ≡ table max_clients (ran (setup_of v) (outranks (setup_of v) s) n s).charge
      → Charges v s n (record { answer = is.Accepted; queues = r }) cs' ks
  unfolding ran
  charges-fine t e f =
      record {
        number = rw (← over, t);
        queues = rw (← over, t) e;
        charges = rw (← over, t) f;
        keys = rw (← over, t) (keys_kept h.keys refl);
      }
