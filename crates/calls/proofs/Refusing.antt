-- The answers to invoke, reply, ready and abort, from the tests that the code makes, in their order.
-- Assumes nothing.
use Prim.Native.Nat.{◌<◌, ◌≤◌, ℕ}
use mathlib.Core.Bool.{Bool, false, true, or-true}
use mathlib.Core.Path.{◌≡◌}
use mathlib.Core.Option.{Option}
use native.Mathlib.Omega.{arith}
use lib.Dec.{leb}
use borrow.Author.Tests.{le-leb, lt-leb}
use Rattle.rules.specs.Events.{abort, invoke, ready, reply}
use Rattle.rules.specs.Queues.{waits}
use Rattle.rules.specs.Refusals.{accepted, best_effort, no_client, not_tidying, not_waiting, server_idle, spent_already}
use Rattle.rules.specs.Refusals.{unknown_record, waits_already}
use Rattle.rules.specs.Setup.{real_time}
use Rattle.rules.specs.State.{State, is_serving, is_spent, is_tidying}
use Rattle.rules.specs.Step.{fit_form, present, answer_by, answer}
use Rattle.gate.specs.Shown.{setup_of}
use Rattle.gate.specs.declared.Setup.{Setup}

module _ (v : Setup) (s : State) where
  -- INVOKE

  pub invoke-unfit : (c : ℕ) (o : Option ℕ) → fit_form v.timed o ≡ false
      → answer (setup_of v) s (invoke c o) ≡ unknown_record
  unfolding answer_by
  invoke-unfit c o f = rw f

  module _ (c : ℕ) {n : ℕ} (clients : n ≡ v.clients) where
    pub invoke-unknown : (o : Option ℕ) → fit_form v.timed o ≡ true → n ≤ c
        → answer (setup_of v) s (invoke c o) ≡ no_client
    unfolding answer_by
    invoke-unknown o f b = rw (f, le-leb v.clients c (omega (arith, clients)))

    pub abort-unknown : n ≤ c → answer (setup_of v) s (abort c) ≡ no_client
    unfolding answer_by
    abort-unknown b = rw (le-leb v.clients c (omega (arith, clients)))

    module _ (known : c < n) where
      known_is : leb v.clients c ≡ false
      known_is = lt-leb v.clients c (omega (arith, clients))

      pub invoke-present : (o : Option ℕ) → fit_form v.timed o ≡ true → {b : Bool} → b ≡ present (setup_of v) s c
          → b ≡ true → answer (setup_of v) s (invoke c o) ≡ waits_already
      unfolding answer_by
      invoke-present o f e t = rw (f, known_is, ← e, t)

      pub invoke-fine : (o : Option ℕ) → fit_form v.timed o ≡ true → {b : Bool} → b ≡ present (setup_of v) s c
          → b ≡ false → answer (setup_of v) s (invoke c o) ≡ accepted
      unfolding answer_by
      invoke-fine o f e t = rw (f, known_is, ← e, t)

      -- ABORT

      module _ {r : Bool} (kind : r ≡ real_time (setup_of v) c) where
        pub abort-effort : r ≡ false → answer (setup_of v) s (abort c) ≡ best_effort
        unfolding answer_by
        abort-effort t = rw (known_is, ← kind, t)

        module _ (real : r ≡ true) {p : Bool} (served : p ≡ is_spent s.server c) where
          pub abort-spent : p ≡ true → answer (setup_of v) s (abort c) ≡ spent_already
          unfolding answer_by
          abort-spent t = rw (known_is, ← kind, real, ← served, t, or-true (waits (setup_of v) s c))

          module _ (unspent : p ≡ false) {w : Bool} (waiting : w ≡ waits (setup_of v) s c) where
            pub abort-absent : w ≡ false → answer (setup_of v) s (abort c) ≡ not_waiting
            unfolding answer_by
            abort-absent t = rw (known_is, ← kind, real, ← served, unspent, ← waiting, t)

            pub abort-fine : w ≡ true → answer (setup_of v) s (abort c) ≡ accepted
            unfolding answer_by
            abort-fine t = rw (known_is, ← kind, real, ← served, unspent, ← waiting, t)

  -- REPLY AND READY

  module _ {b : Bool} (serves : b ≡ is_serving s.server) where
    pub reply-idle : b ≡ false → answer (setup_of v) s reply ≡ server_idle
    unfolding answer_by
    reply-idle t = rw (← serves, t)

    pub reply-fine : b ≡ true → answer (setup_of v) s reply ≡ accepted
    unfolding answer_by
    reply-fine t = rw (← serves, t)

  module _ {b : Bool} (tidies : b ≡ is_tidying s.server) where
    pub ready_refused : b ≡ false → answer (setup_of v) s ready ≡ not_tidying
    unfolding answer_by
    ready_refused t = rw (← tidies, t)

    pub ready-fine : b ≡ true → answer (setup_of v) s ready ≡ accepted
    unfolding answer_by
    ready-fine t = rw (← tidies, t)
