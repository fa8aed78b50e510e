-- Pick, as the queues show it: the first of the global queue, or of the background queue, or nobody.
-- Assumes nothing.
use Prim.Native.Nat.{ℕ}
use mathlib.Core.List.{List, [], ◌∷◌}
use mathlib.Core.Path.{◌≡◌, ap, refl}
use native.Mathlib.Omega.{arith}
use lib.ListN.{get_or}
use Rattle.rules.specs.Limits.{max_clients, max_clusters, unused_place}
use Rattle.rules.specs.Queues.{pick, start}
use Rattle.rules.specs.State.{State, best, front}
use Rattle.places.specs.Places.{close_up_of}
use Rattle.parts.specs.Parts.{put_background, put_global, put_server}
use Rattle.gate.specs.Shown.{client}
use Rattle.parts.specs.Shows.{ShowsList, ShowsQueues}
use Rattle.parts.specs.declared.Queues.{Queues}
use Rattle.gate.specs.declared.Server.TheVariants.{Best, Front, Idle}
use Rattle.gate.specs.declared.Setup.{Setup}
use Rattle.parts.proofs.Fits.{fits-first}
use Rattle.parts.proofs.Parts.{closed-up, first-empty, first-is, shows-background, shows-global, shows-server}

module _ {v : Setup} {s : State} {q : Queues} (h : ShowsQueues v s q) where
  global-is : {l : List ℕ} → s.global ≡ l → ShowsList max_clusters l q.global
  global-is p = rw p at h.global

  background-is : {l : List ℕ} → s.background ≡ l → ShowsList max_clients l q.background
  background-is p = rw p at h.background

  pub pick-front : (get_or q.global 0 0 ≡ unused_place → ⊥)
      → ShowsQueues v (pick s)
      (put_server (Front (client (get_or q.global 0 0))) 0 (put_global (close_up_of 0 q.global) q))
  unfolding pick
  pick-front n = go s.global s.background refl refl
    where
      go : (f b : List ℕ) → s.global ≡ f → s.background ≡ b → ShowsQueues v (start s f b)
          (put_server (Front (client (get_or q.global 0 0))) 0 (put_global (close_up_of 0 q.global) q))
      go [] b p o = absurd (n (first-empty 7 (global-is p) refl))
      go (y ∷ f) b p o =
          shows-server (shows-global (shows-background h (background-is o)) (closed-up (global-is p)))
          (ap front (first-is 7 (global-is p) refl)) (fits-first (global-is p).fits)

  module _ (z : get_or q.global 0 0 ≡ unused_place) where
    pub pick-best : (get_or q.background 0 0 ≡ unused_place → ⊥)
        → ShowsQueues v (pick s)
        (put_server (Best (client (get_or q.background 0 0))) 0 (put_background (close_up_of 0 q.background) q))
    unfolding pick
    pick-best n = go s.global s.background refl refl
      where
        go : (f b : List ℕ) → s.global ≡ f → s.background ≡ b → ShowsQueues v (start s f b)
            (put_server (Best (client (get_or q.background 0 0))) 0 (put_background (close_up_of 0 q.background) q))
        go (x ∷ f) b p o = absurd (omega (arith, z, first-is 7 (global-is p) refl, fits-first (global-is p).fits))
        go [] [] p o = absurd (n (first-empty 63 (background-is o) refl))
        go [] (x ∷ b) p o =
            shows-server (shows-global (shows-background h (closed-up (background-is o))) (global-is p))
            (ap best (first-is 63 (background-is o) refl)) (fits-first (background-is o).fits)

    pub pick-none : get_or q.background 0 0 ≡ unused_place → ShowsQueues v (pick s) (put_server Idle 0 q)
    unfolding pick
    pick-none e = go s.global s.background refl refl
      where
        go : (f b : List ℕ) → s.global ≡ f → s.background ≡ b → ShowsQueues v (start s f b) (put_server Idle 0 q)
        go (x ∷ f) b p o = absurd (omega (arith, z, first-is 7 (global-is p) refl, fits-first (global-is p).fits))
        go [] (x ∷ b) p o =
            absurd (omega (arith, e, first-is 63 (background-is o) refl, fits-first (background-is o).fits))
        go [] [] p o = shows-server (shows-global (shows-background h (background-is o)) (global-is p)) refl tt
