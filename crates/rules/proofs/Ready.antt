-- The end of a tidying keeps what holds.
-- Assumes nothing.
use Prim.Native.Nat.{ℕ, ◌+◌, ◌*◌, ◌≤◌}
use mathlib.Core.Path.{◌≡◌, refl, subst}
use mathlib.Core.Bool.{Bool}
use mathlib.Core.List.{map}
use native.Mathlib.Omega.{arith}
use Rattle.rules.specs.Setup.{Setup, service, span}
use Rattle.rules.specs.State.{State, idle, tidying}
use Rattle.rules.specs.Rank.{Rank}
use Rattle.rules.specs.Queues.{start, pick}
use Rattle.rules.specs.Events.{readied}
use Rattle.rules.proofs.Images.{at}
use Rattle.rules.proofs.InOrder.{Valid, all_clusters, Ordered, InOrder}
use Rattle.rules.proofs.Ahead.{ahead}
use Rattle.rules.proofs.Passes.{Passes}
use Rattle.rules.proofs.Goes.{Goes, same-passes, line-there, differ}
use Rattle.rules.proofs.Pick.{start-put, start-charge, start-in-order, start-ahead, start-extra}

module _ (u : Setup) (ok : Valid u) (rank : Rank) (s : State) (i : InOrder u s) (e : s.server ≡ tidying) where
  -- while the server tidies every front is in the global queue
  all-queued : Ordered u all_clusters s.lines idle s.global
  all-queued =
      record {
        global-front = i.ordered.global-front;
        served-front = λ d z. differ z refl;
        turn-once = rw e at i.ordered.turn-once;
        turn_below = rw e at i.ordered.turn_below;
        turn-of = λ k q z. rw e at (i.ordered.turn-of k q z);
      }

  -- the service after it was counted already
  counted : (j : ℕ) → service u + at j (map u.cluster s.global) * span u ≤ ahead u s j
  counted j = rw e (omega arith)

  pub readied-goes : (x : ℕ) (f : Bool) → Goes u rank s (readied s) x f f
  unfolding readied pick
  readied-goes x f =
      record {
        in_order = start-in-order u s s.global s.background i.lined i.full all-queued;
        passes = subst (λ z. Passes u rank s z x f f) (start-put s s.global s.background)
            (same-passes u rank s i (start s s.global s.background) x f
            (λ j n. omega (
              arith,
              start-ahead u s s.global s.background j (all-queued.turn-of j tt n),
              counted j,
            ))
            (start-charge s s.global s.background)
            (λ r. omega (
              arith,
              start-extra u s s.global s.background (u.cluster x)
                  (all-queued.turn-of (u.cluster x) tt (line-there u ok s i x r)),
            )));
      }
