-- The answer of an event, test by test in their order.
-- Assumes nothing.
use Prim.Native.Nat.{ℕ, ◌≤◌, ◌<◌}
use mathlib.Core.Path.{◌≡◌}
use mathlib.Core.Bool.{true, false, ◌&&◌}
use mathlib.Core.List.{List}
use native.Mathlib.Omega.{arith}
use lib.Dec.{eqb, ltb, leb}
use lib.ListN.{length, get_or}
use borrow.Author.Tests.{lt-ltb, le-ltb, le-leb, lt-leb, eqb-true, eqb-false, eq-eqb, ne_eqb}
use Rattle.rules.specs.Lists.{has}
use Rattle.rules.specs.Refusals.{accepted}
use Rattle.rules.proofs.Tests.{by-test}
use Rattle.group_rules.specs.declared.Group.{Group}
use Rattle.group_rules.specs.Limits.{max_contexts, max_servers, max_depth}
use Rattle.group_rules.specs.Refusals.{no_such, queued_already, many_tickets, no_first_ticket, not_later}
use Rattle.group_rules.specs.Refusals.{no_ticket, on_stack, stack_full}
use Rattle.group_rules.specs.Groups.{tickets_for, calls_of, queued}
use Rattle.group_rules.specs.Blocking.{committed}
use Rattle.group_rules.specs.Sound.{few_tickets}
use Rattle.group_rules.specs.Events.{entry_answer, serves, call_answer, reply_answer}

module _ (g : Group) where
  -- ENTRY

  module _ (c time first : ℕ) (tickets : List ℕ) where
    pub entry-no-context : max_contexts ≤ c → entry_answer g c time first tickets ≡ no_such
    unfolding entry_answer
    entry-no-context h = rw (le-ltb c max_contexts h)

    module _ (low : c < max_contexts) where
      pub entry-no-server : max_servers ≤ first → entry_answer g c time first tickets ≡ no_such
      unfolding entry_answer
      entry-no-server h = rw (lt-ltb c max_contexts low, le-ltb first max_servers h)

      module _ (server : first < max_servers) where
        pub entry-queued : queued g c ≡ true → entry_answer g c time first tickets ≡ queued_already
        unfolding entry_answer
        entry-queued q = rw (lt-ltb c max_contexts low, lt-ltb first max_servers server, q)

        module _ (q : queued g c ≡ false) where
          pub entry-many : few_tickets tickets ≡ false → entry_answer g c time first tickets ≡ many_tickets
          unfolding entry_answer
          entry-many f = rw (lt-ltb c max_contexts low, lt-ltb first max_servers server, q, f)

          module _ (f : few_tickets tickets ≡ true) where
            pub entry-no-ticket : get_or tickets first 0 ≡ 0 → entry_answer g c time first tickets ≡ no_first_ticket
            unfolding entry_answer
            entry-no-ticket n =
                rw (lt-ltb c max_contexts low, lt-ltb first max_servers server, q, f, eq-eqb (get_or tickets first 0) 0 n)

            module _ (n : get_or tickets first 0 ≡ 0 → ⊥) where
              pub entry-late : (g.entered && leb time g.last) ≡ true
                  → entry_answer g c time first tickets ≡ not_later
              unfolding entry_answer
              entry-late l =
                  rw (
                    lt-ltb c max_contexts low,
                    lt-ltb first max_servers server,
                    q,
                    f,
                    ne_eqb (get_or tickets first 0) 0 n,
                    l,
                  )

              pub entry-taken : (g.entered && leb time g.last) ≡ false
                  → entry_answer g c time first tickets ≡ accepted
              unfolding entry_answer
              entry-taken l =
                  rw (
                    lt-ltb c max_contexts low,
                    lt-ltb first max_servers server,
                    q,
                    f,
                    ne_eqb (get_or tickets first 0) 0 n,
                    l,
                  )

  -- CALL

  module _ (c s : ℕ) where
    pub call-no-context : max_contexts ≤ c → call_answer g c s ≡ no_such
    unfolding call_answer
    call-no-context h = rw (le-ltb c max_contexts h)

    module _ (low : c < max_contexts) where
      pub call-no-server : max_servers ≤ s → call_answer g c s ≡ no_such
      unfolding call_answer
      call-no-server h = rw (lt-ltb c max_contexts low, le-ltb s max_servers h)

      module _ (server : s < max_servers) where
        pub call-unserved : (n : ℕ) → ((rest : ℕ) → serves g c rest ≡ n) → call_answer g c s ≡ n
        unfolding call_answer
        call-unserved n h = rw (lt-ltb c max_contexts low, lt-ltb s max_servers server) (h _)

        module _ (q : queued g c ≡ true) where
          module _ (k : committed g c ≡ true) where
            pub call-no-ticket : tickets_for g c s ≡ 0 → call_answer g c s ≡ no_ticket
            unfolding call_answer
            call-no-ticket n =
                rw (
                  lt-ltb c max_contexts low,
                  lt-ltb s max_servers server,
                  q,
                  k,
                  le-ltb 0 (tickets_for g c s) (omega arith),
                )

            module _ (n : tickets_for g c s ≡ 0 → ⊥) where
              abbrev ticket : ltb 0 (tickets_for g c s) ≡ true
              ticket =
                  by-test (eqb (tickets_for g c s) 0)
                  (λ e. absurd (n (eqb-true (tickets_for g c s) 0 e)))
                  (λ e. lt-ltb 0 (tickets_for g c s) (omega (arith, eqb-false (tickets_for g c s) 0 e)))

              pub call-on-stack : has s (calls_of g c) ≡ true → call_answer g c s ≡ on_stack
              unfolding call_answer
              call-on-stack o = rw (lt-ltb c max_contexts low, lt-ltb s max_servers server, q, k, ticket, o)

              module _ (o : has s (calls_of g c) ≡ false) where
                pub call-full : max_depth ≤ length (calls_of g c) → call_answer g c s ≡ stack_full
                unfolding call_answer
                call-full l =
                    rw (
                      lt-ltb c max_contexts low,
                      lt-ltb s max_servers server,
                      q,
                      k,
                      ticket,
                      o,
                      le-leb max_depth (length (calls_of g c)) l,
                    )

                pub call-taken : length (calls_of g c) < max_depth → call_answer g c s ≡ accepted
                unfolding call_answer
                call-taken l =
                    rw (
                      lt-ltb c max_contexts low,
                      lt-ltb s max_servers server,
                      q,
                      k,
                      ticket,
                      o,
                      lt-leb max_depth (length (calls_of g c)) l,
                    )

  -- REPLY

  module _ (c : ℕ) where
    pub reply-no-context : max_contexts ≤ c → reply_answer g c ≡ no_such
    unfolding reply_answer
    reply-no-context h = rw (le-ltb c max_contexts h)

    module _ (low : c < max_contexts) where
      pub reply-unserved : (n : ℕ) → ((rest : ℕ) → serves g c rest ≡ n) → reply_answer g c ≡ n
      unfolding reply_answer
      reply-unserved n h = rw (lt-ltb c max_contexts low) (h _)

      module _ (q : queued g c ≡ true) where
        pub reply-taken : committed g c ≡ true → reply_answer g c ≡ accepted
        unfolding reply_answer
        reply-taken k = rw (lt-ltb c max_contexts low, q, k)
