-- A front that joins the global queue, as the queues show it: its cluster is blocked, its line is empty, or it joins.
-- Assumes nothing.
use Prim.Native.Nat.{◌<◌, ℕ}
use mathlib.Core.Bool.{Bool, false, true}
use mathlib.Core.List.{List, [], ◌∷◌}
use mathlib.Core.Path.{◌∙◌, ◌≡◌, ap, refl}
use native.Mathlib.Omega.{arith}
use lib.ListN.{get_or, length}
use Rattle.rules.specs.Limits.{max_clusters, max_size, unused_place}
use Rattle.rules.specs.Queues.{join, queue}
use Rattle.rules.specs.State.{State, blocks}
use Rattle.rules.specs.Changes.{with_global}
use Rattle.places.specs.Places.{append_of}
use Rattle.parts.specs.Parts.{put_global}
use Rattle.gate.specs.Shown.{server_of, setup_of}
use Rattle.parts.specs.Shows.{ShowsList, ShowsQueues}
use Rattle.gate.specs.declared.Line.{Line}
use Rattle.parts.specs.declared.Queues.{Queues}
use Rattle.gate.specs.declared.Setup.{Setup}
use Rattle.parts.proofs.Fits.{fits-first}
use Rattle.parts.proofs.Parts.{appended, first-empty, first-is, line_at, shows-global}

-- whether the cluster is blocked, from the one in service that is shown
pub blocked-is : {v : Setup} {s : State} {q : Queues} → ShowsQueues v s q → (k : ℕ) {b : Bool}
    → b ≡ blocks (setup_of v) (server_of q.service.server) k → b ≡ blocks (setup_of v) s.server k
blocked-is {v} h k e = e ∙ ap (λ x. blocks (setup_of v) x k) h.service.server

module _ {v : Setup} {s : State} {q : Queues} (h : ShowsQueues v s q) (k : ℕ) {b : Bool}
    (told : b ≡ blocks (setup_of v) s.server k) where
  pub queue-blocked : b ≡ true → ShowsQueues v (queue (setup_of v) k s) q
  unfolding queue
  queue-blocked t = rw (← told, t) h

  module _ (free : b ≡ false) (low : k < max_clusters) (d : Line) {x : ℕ}
      (first : x ≡ get_or (get_or q.lines k d).places 0 0) where
    here : {l : List ℕ} → s.lines k ≡ l → ShowsList max_size l (get_or q.lines k d).places
    here p = rw p at (line_at h.lines k low d)

    pub queue-empty : x ≡ unused_place → ShowsQueues v (queue (setup_of v) k s) q
    unfolding queue
    queue-empty e = rw (← told, free) (go (s.lines k) refl)
      where
        go : (l : List ℕ) → s.lines k ≡ l → ShowsQueues v (with_global (join l s.global) s) q
        go [] p = h
        go (y ∷ l) p = absurd (omega (arith, first-is 7 (here p) first, fits-first (here p).fits))

    pub queue-joins : (x ≡ unused_place → ⊥) → length s.global < max_clusters
        → ShowsQueues v (queue (setup_of v) k s) (put_global (append_of x q.global) q)
    unfolding queue
    queue-joins e short = rw (← told, free) (go (s.lines k) refl)
      where
        go : (l : List ℕ) → s.lines k ≡ l
            → ShowsQueues v (with_global (join l s.global) s) (put_global (append_of x q.global) q)
        go [] p = absurd (e (first-empty 7 (here p) first))
        go (y ∷ l) p =
            rw (first-is 7 (here p) first)
            (shows-global h (appended h.global y short (fits-first (here p).fits)))
