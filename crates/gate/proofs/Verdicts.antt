-- The verdict on a setup, case by case in the order of the check.
-- Assumes nothing.
use Prim.Native.Nat.{ℕ, ◌≤◌, ◌<◌}
use mathlib.Core.Path.{◌≡◌}
use native.Mathlib.Omega.{arith}
use lib.Dec.{eqb}
use Rattle.std.proofs.Common.{Ok, Err}
use borrow.Author.Tests.{eq-eqb, ne_eqb, lt-ltb, le-ltb, lt-leb, le-leb}
use Rattle.rules.specs.Limits.{max_clusters, max_clients}
use Rattle.rules.specs.Refusals.{bad_size, bad_row}
use Rattle.rules.specs.Setup.{Setup, setup_answer, size_fits, row_fits, first_bad_size, first_bad_row}
use Rattle.rules.proofs.Tests.{by-test}
use Rattle.rules.proofs.Counts.{first_failing-le}
use Rattle.gate.specs.Made.{told, verdict_of}
use Rattle.gate.specs.declared.Refusal.TheVariants.{BadClusters, NoCap, ManyClients, BadSize, BadRow}

module _ (u : Setup) where
  pub no-clusters : u.clusters < 1 → told (Err BadClusters) ≡ verdict_of u
  unfolding verdict_of setup_answer
  no-clusters h = rw (lt-leb 1 u.clusters h)

  module _ (some : 1 ≤ u.clusters) where
    pub many-clusters : max_clusters < u.clusters → told (Err BadClusters) ≡ verdict_of u
    unfolding verdict_of setup_answer
    many-clusters h = rw (le-leb 1 u.clusters some, lt-leb u.clusters max_clusters h)

    module _ (few : u.clusters ≤ max_clusters) where
      pub no-cap : u.cap ≡ 0 → told (Err NoCap) ≡ verdict_of u
      unfolding verdict_of setup_answer
      no-cap h =
          rw (le-leb 1 u.clusters some, le-leb u.clusters max_clusters few, eq-eqb u.cap 0 h)

      module _ (cap : u.cap ≡ 0 → ⊥) where
        pub many-clients : max_clients < u.clients → told (Err ManyClients) ≡ verdict_of u
        unfolding verdict_of setup_answer
        many-clients h =
            rw (
              le-leb 1 u.clusters some,
              le-leb u.clusters max_clusters few,
              ne_eqb u.cap 0 cap,
              lt-ltb max_clients u.clients h,
            )

        module _ (known : u.clients ≤ max_clients) where
          pub bad-size : first_bad_size u < u.clusters → told (Err (BadSize (first_bad_size u))) ≡ verdict_of u
          unfolding verdict_of setup_answer
          bad-size h =
              rw (
                le-leb 1 u.clusters some,
                le-leb u.clusters max_clusters few,
                ne_eqb u.cap 0 cap,
                le-ltb max_clients u.clients known,
                lt-ltb (first_bad_size u) u.clusters h,
              )

          module _ (sizes : u.clusters ≤ first_bad_size u) where
            pub bad-row : first_bad_row u < u.clients → told (Err (BadRow (first_bad_row u))) ≡ verdict_of u
            unfolding verdict_of setup_answer
            bad-row h =
                rw (
                  le-leb 1 u.clusters some,
                  le-leb u.clusters max_clusters few,
                  ne_eqb u.cap 0 cap,
                  le-ltb max_clients u.clients known,
                  le-ltb (first_bad_size u) u.clusters sizes,
                  lt-ltb (first_bad_row u) u.clients h,
                )

            pub all-fits : u.clients ≤ first_bad_row u → told (Ok tt) ≡ verdict_of u
            unfolding verdict_of setup_answer
            all-fits h =
                rw (
                  le-leb 1 u.clusters some,
                  le-leb u.clusters max_clusters few,
                  ne_eqb u.cap 0 cap,
                  le-ltb max_clients u.clients known,
                  le-ltb (first_bad_size u) u.clusters sizes,
                  le-ltb (first_bad_row u) u.clients h,
                )

-- what a verdict tells is at most the number of clusters or clients
pub which-le : (u : Setup) (n : ℕ) → u.clusters ≤ n → u.clients ≤ n → (verdict_of u).which ≤ n
unfolding verdict_of
which-le u n h k =
    by-test (eqb (setup_answer u) bad_size)
    (λ e. rw e (omega (arith, first_failing-le (size_fits u) u.clusters)))
    (λ e. rw e (by-test (eqb (setup_answer u) bad_row)
    (λ f. rw f (omega (arith, first_failing-le (row_fits u) u.clients)))
    (λ f. rw f (omega arith))))
