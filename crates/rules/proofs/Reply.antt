-- An accepted reply keeps what holds.
-- Assumes nothing.
use Prim.Native.Nat.{ℕ, suc, ◌*◌, ◌≤◌, ◌<◌}
use mathlib.Core.Path.{◌≡◌, refl, sym, ap}
use mathlib.Core.Bool.{Bool, true}
use mathlib.Core.List.{List, ◌∷◌, map}
use native.Mathlib.Omega.{arith}
use lib.Dec.{eqb}
use lib.ListN.{length}
use borrow.Author.Tests.{eqb-true, eqb-false, eq-eqb, ne_eqb}
use Rattle.rules.specs.Lists.{has, Distinct}
use Rattle.rules.specs.Setup.{Setup, span}
use Rattle.rules.specs.State.{State, Server, idle, front, best, spent, tidying, is_serving}
use Rattle.rules.specs.Changes.{with_global}
use Rattle.rules.specs.Rank.{Rank}
use Rattle.rules.specs.Sound.{Full}
use Rattle.rules.specs.Queues.{join, queue}
use Rattle.rules.specs.Events.{freed, ended, replied}
use Rattle.rules.proofs.Tests.{by-test, clash}
use Rattle.rules.proofs.Lists.{has-head, has-tail, heads-has}
use Rattle.rules.proofs.Images.{at}
use Rattle.rules.proofs.Highest.{StrictTotal}
use Rattle.rules.proofs.InOrder.{all_clusters, but, turns, Lined, Ordered, InOrder}
use Rattle.rules.proofs.Ahead.{turn_of, ahead, ahead-le, round}
use Rattle.rules.proofs.Leaving.{Left, left-cases, put}
use Rattle.rules.proofs.Turns.{ordered-but, ordered-join, join-same}
use Rattle.rules.proofs.Goes.{Goes, same-passes, left-passes, front-shifts, differ}

module _ (u : Setup) (rank : Rank) (s : State) (i : InOrder u s) where
  -- the server begins to tidy, with the global queue g
  abbrev tidied : List ℕ → State
  tidied g = with_global g (freed s)

  tidied-in-order : (l : ℕ → List ℕ) (r : ℕ → Bool) (g : List ℕ) → Lined u l r → Full u l r
      → Ordered u all_clusters l tidying g → InOrder u (put l r (tidied g))
  tidied-in-order l r g h f o =
      record { lined = h; full = f; ordered = o; rests = λ e. differ e refl; units-fit = omega arith }

  -- whoever keeps its place in the global queue is served no later: the tidying was counted
  sooner : (l : ℕ → List ℕ) (r : ℕ → Bool) (g : List ℕ) (j : ℕ)
      → at j (map u.cluster g) ≡ at j (map u.cluster s.global)
      → turn_of u s.server (map u.cluster s.global) j ≡ suc (at j (map u.cluster s.global))
      → ahead u (put l r (tidied g)) j ≤ ahead u s j
  sooner l r g j e q = omega (arith, ap (λ n. n * span u) e, ap (λ n. n * span u) q)

  -- A BEST-EFFORT REQUEST ENDS

  best-over : (c : ℕ) → s.server ≡ best c → (x : ℕ) (f : Bool) → Goes u rank s (freed s) x f f
  best-over c e x f =
      record {
        in_order = tidied-in-order s.lines s.room s.global i.lined i.full o;
        passes = same-passes u rank s i (freed s) x f
            (λ j n. sooner s.lines s.room s.global j refl (rw e)) refl (λ r. omega arith);
      }
    where
      o : Ordered u all_clusters s.lines tidying s.global
      o =
          record {
            global-front = i.ordered.global-front;
            served-front = λ d z. differ z refl;
            turn-once = rw e at i.ordered.turn-once;
            turn_below = rw e at i.ordered.turn_below;
            turn-of = λ k q z. rw e at (i.ordered.turn-of k q z);
          }

  -- A FRONT'S OR A SPENT CLIENT'S REQUEST ENDS: ITS CLUSTER HAD THE FIRST TURN

  module _ (c : ℕ) (q : turns u s.server s.global ≡ u.cluster c ∷ map u.cluster s.global) where
    alone : Distinct (u.cluster c ∷ map u.cluster s.global)
    alone = rw q at i.ordered.turn-once

    low : u.cluster c < u.clusters
    low = i.ordered.turn_below (u.cluster c) (rw q (has-head (u.cluster c) (map u.cluster s.global)))

    there : (j : ℕ) → (j ≡ u.cluster c → ⊥) → 0 < length (s.lines j) → has j (map u.cluster s.global) ≡ true
    there j n z = rw (ne_eqb (u.cluster c) j (λ w. n (sym w))) at (rw q at (i.ordered.turn-of j tt z))

    freed-but : Ordered u (but (u.cluster c)) s.lines tidying s.global
    freed-but =
        record {
          global-front = i.ordered.global-front;
          served-front = λ d z. differ z refl;
          turn-once = alone.1;
          turn_below = λ j z.
              i.ordered.turn_below j (rw q (has-tail j (u.cluster c) (map u.cluster s.global) z));
          turn-of = there;
        }

    spent-over : s.server ≡ spent c → (x : ℕ) (f : Bool) → Goes u rank s (queue u (u.cluster c) (freed s)) x f f
    unfolding queue
    spent-over e x f =
        record {
          in_order = now;
          passes = same-passes u rank s i (tidied g) x f
              (λ j n. by-test (eqb j (u.cluster c))
              (λ w.
              let a = ahead-le u (put s.lines s.room (tidied g)) j now n in
              omega (arith, a, held j (eqb-true j (u.cluster c) w)))
              (λ w.
              let y = eqb-false j (u.cluster c) w in
              sooner s.lines s.room g j (join-same u (s.lines (u.cluster c)) s.global j (there j y n))
              (rw (e, ne_eqb (u.cluster c) j (λ v. y (sym v))))))
              refl (λ r. omega arith);
        }
      where
        g : List ℕ
        g = join (s.lines (u.cluster c)) s.global

        now : InOrder u (put s.lines s.room (tidied g))
        now =
            tidied-in-order s.lines s.room g i.lined i.full
            (ordered-join u (u.cluster c) s.lines tidying s.global low (i.lined.line (u.cluster c)) alone.0
            freed-but)

        -- the blocked cluster's front had a round ahead
        held : (j : ℕ) → j ≡ u.cluster c → round u ≤ ahead u s j
        held j y = rw (e, y, eq-eqb (u.cluster c) (u.cluster c) refl) (omega arith)

    front-over : s.server ≡ front c → (l : ℕ → List ℕ) (r : ℕ → Bool)
        → Left u rank (u.cluster c) c s.lines s.room l r → (x : ℕ) (f : Bool)
        → Goes u rank s (queue u (u.cluster c) (put l r (freed s))) x f f
    unfolding queue
    front-over e l r left x f =
        record {
          in_order = now;
          passes = left-passes u rank c s i l r left (tidied g) x f f
              (front-shifts u rank c s i l r left (tidied g) (i.ordered.served-front c e)
              (λ z. omega (arith, ahead-le u (put l r (tidied g)) (u.cluster c) now z)))
              (λ j n z. sooner l r g j (join-same u (l (u.cluster c)) s.global j (there j n z))
              (rw (e, ne_eqb (u.cluster c) j (λ v. n (sym v)))))
              refl (λ z. z) (λ z w. omega arith);
        }
      where
        g : List ℕ
        g = join (l (u.cluster c)) s.global

        now : InOrder u (put l r (tidied g))
        now =
            tidied-in-order l r g left.lined left.full
            (ordered-join u (u.cluster c) l tidying s.global low (left.lined.line (u.cluster c)) alone.0
            (ordered-but u (u.cluster c) s.lines l tidying s.global left.others alone.0
            (λ d z w. differ z refl) freed-but))

  -- ANY

  module _ (order : StrictTotal rank) where
    pub replied-goes : is_serving s.server ≡ true → (x : ℕ) (f : Bool) → Goes u rank s (replied u rank s) x f f
    unfolding replied
    replied-goes n x f = go s.server refl n
      where
        go : (v : Server) → s.server ≡ v → is_serving v ≡ true → Goes u rank s (ended u rank v s) x f f
        go idle e n = clash n refl
        go (front c) e n =
            left-cases u rank order (u.cluster c) c (freed s)
            (λ t. Goes u rank s (queue u (u.cluster c) t) x f f) i.lined i.full
            (heads-has c (s.lines (u.cluster c)) (i.ordered.served-front c e))
            (λ l r g. front-over c (rw e) e l r g x f)
        go (best c) e n = best-over c e x f
        go (spent c) e n = spent-over c (rw e) e x f
        go tidying e n = clash n refl
