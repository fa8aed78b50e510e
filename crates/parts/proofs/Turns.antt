-- In a sound state each cluster has at most one turn, so the global queue has room for one more.
-- Assumes nothing.
use Prim.Native.Nat.{◌<◌, ℕ}
use mathlib.Core.Bool.{true}
use mathlib.Core.List.{◌∷◌, map}
use mathlib.Core.Path.{◌≡◌}
use native.Mathlib.Omega.{arith}
use lib.Dec.{eqb}
use lib.ListN.{length, length-map}
use borrow.Author.Tests.{eqb-true}
use Rattle.rules.specs.Limits.{max_clusters}
use Rattle.rules.specs.Lists.{Distinct, has, heads}
use Rattle.rules.specs.Sound.{Sound}
use Rattle.rules.specs.State.{State}
use Rattle.rules.proofs.Counts.{distinct-below}
use Rattle.rules.proofs.Images.{map-has}
use Rattle.rules.proofs.InOrder.{InOrder, own}
use Rattle.rules.proofs.Lists.{distinct-right}
use Rattle.rules.proofs.SoundStates.{sound-in-order}
use Rattle.rules.proofs.Tests.{not_so, either_true}
use Rattle.gate.specs.Shown.{setup_of}
use Rattle.parts.specs.Shows.{Fine}
use Rattle.gate.specs.declared.Setup.{Setup}
use Rattle.parts.proofs.SoundShows.{accepted-fine}

module _ (v : Setup) (s : State) (sound : Sound (setup_of v) s) where
  pub order : InOrder (setup_of v) s
  order = sound-in-order (setup_of v) s sound

  pub fine : Fine v
  fine = accepted-fine v sound.setup sound.trimmed

  -- the clusters of the global queue
  pub queue-once : Distinct (map (setup_of v).cluster s.global)
  queue-once =
      distinct-right (own (setup_of v) s.server) (map (setup_of v).cluster s.global)
      order.ordered.turn-once

  pub queue-below : (k : ℕ) → has k (map (setup_of v).cluster s.global) ≡ true → k < max_clusters
  queue-below k e = map-has (setup_of v).cluster k s.global e (λ d a b. rw (← b) (fine.homes d))

  -- a cluster that is not there leaves room for one more
  pub turn-free : (k : ℕ) → k < max_clusters
      → ((d : ℕ) → has d s.global ≡ true → (setup_of v).cluster d ≡ k → ⊥) → length s.global < max_clusters
  turn-free k low away =
      let apart = not_so (has k (map (setup_of v).cluster s.global))
      (λ z. map-has (setup_of v).cluster k s.global z away) in
      omega (
        arith,
        distinct-below max_clusters (k ∷ map (setup_of v).cluster s.global) (apart, queue-once) below,
        length-map s.global (setup_of v).cluster,
      )
    where
      below : (j : ℕ) → has j (k ∷ map (setup_of v).cluster s.global) ≡ true → j < max_clusters
      below j e =
          either_true (eqb k j) (has j (map (setup_of v).cluster s.global)) e
          (λ q. omega (arith, eqb-true k j q)) (queue-below j)

  -- who is in the global queue is the front of its line
  pub front-there : (c d : ℕ) → has d s.global ≡ true → (setup_of v).cluster d ≡ (setup_of v).cluster c
      → heads d (s.lines ((setup_of v).cluster c)) ≡ true
  front-there c d a b = rw b at (order.ordered.global-front d a)
