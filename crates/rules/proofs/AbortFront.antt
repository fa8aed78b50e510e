-- An accepted abort of a front, in service or not.
-- Assumes nothing.
use Prim.Native.Nat.{ℕ, ◌≤◌, ◌<◌}
use mathlib.Core.Path.{◌≡◌, refl, sym}
use mathlib.Core.Bool.{Bool, true, false, ◌||◌}
use mathlib.Core.List.{List, map}
use native.Mathlib.Nat.{mul-le-mul_right}
use native.Mathlib.Omega.{arith}
use lib.Dec.{eqb}
use lib.ListN.{length}
use borrow.Author.Tests.{eq-eqb, ne_eqb}
use Rattle.rules.specs.Lists.{has, heads, remove}
use Rattle.rules.specs.Setup.{Setup, span}
use Rattle.rules.specs.State.{State, front, spent, is_front, blocks}
use Rattle.rules.specs.Changes.{with_global}
use Rattle.rules.specs.Rank.{Rank}
use Rattle.rules.specs.Queues.{join}
use Rattle.rules.specs.Events.{abort, spend}
use Rattle.rules.specs.History.{strikes_in_room}
use Rattle.rules.proofs.Tests.{by-test, clash, not_so, both_false}
use Rattle.rules.proofs.Lists.{distinct-right, heads-length}
use Rattle.rules.proofs.Lists.{remove-none}
use Rattle.rules.proofs.Images.{has-map, at}
use Rattle.rules.proofs.InOrder.{all_clusters, but, own, turns, InOrder, Ordered, busy}
use Rattle.rules.proofs.Ahead.{turn_of, ahead-le, extra-le}
use Rattle.rules.proofs.Leaving.{Left, put}
use Rattle.rules.proofs.Turns.{ordered-but, ordered-join, ordered-blocked, ordered-unqueue}
use Rattle.rules.proofs.Turns.{weaken, turn-mono, turns-right, blocked-apart, join-at}
use Rattle.rules.proofs.Goes.{Goes, left-passes, front-shifts, other-served, front-queued}
use Rattle.rules.proofs.Goes.{differ}

module _ (u : Setup) (rank : Rank) (c : ℕ) (s : State) (i : InOrder u s) where
  module _ (l : ℕ → List ℕ) (r : ℕ → Bool)
      (g : Left u rank (u.cluster c) c s.lines s.room l r) where
    -- THE FRONT, IN SERVICE

    module _ (e : s.server ≡ front c) (out : s.room c ≡ false) where
      first-now : heads c (s.lines (u.cluster c)) ≡ true
      first-now = i.ordered.served-front c e

      -- the spent client keeps the turn of its cluster
      held : Ordered u all_clusters s.lines (spent c) s.global
      held =
          record {
            global-front = i.ordered.global-front;
            served-front = λ d z. differ z refl;
            turn-once = rw e at i.ordered.turn-once;
            turn_below = rw e at i.ordered.turn_below;
            turn-of = λ k q z. rw e at (i.ordered.turn-of k q z);
          }

      spent-ordered : Ordered u all_clusters l (spent c) s.global
      spent-ordered =
          ordered-blocked u (u.cluster c) l (spent c) s.global (eq-eqb (u.cluster c) (u.cluster c) refl)
          (ordered-but u (u.cluster c) s.lines l (spent c) s.global g.others held.turn-once.0
          (λ d z w. differ z refl)
          (weaken u (but (u.cluster c)) s.lines (spent c) s.global held))

      -- who is in a room and is not struck is of another cluster
      elsewhere : (x : ℕ) (f : Bool) → s.room x ≡ true → strikes_in_room u x s (abort c) || f ≡ false
          → eqb (u.cluster c) (u.cluster x) ≡ false
      elsewhere x f z h =
          by-test (eqb (u.cluster c) (u.cluster x))
          (λ q.
          let n : eqb c x ≡ false = ne_eqb c x (λ w. clash z (rw (← w) out)) in
          clash (rw (z, n, e, eq-eqb c c refl, q)) h)
          (λ q. q)

      pub spent-goes : (x : ℕ) (f : Bool) → Goes u rank s (put l r (spend c s)) x f (strikes_in_room u x s (abort c) || f)
      spent-goes x f =
          record {
            in_order = record {
              lined = g.lined;
              full = g.full;
              ordered = spent-ordered;
              rests = λ z. differ z refl;
              units-fit = rw e at i.units-fit;
            };
            passes = left-passes u rank c s i l r g (spend c s) x f (strikes_in_room u x s (abort c) || f)
                (front-shifts u rank c s i l r g (spend c s) first-now
                (λ n. rw (e, eq-eqb (u.cluster c) (u.cluster c) refl) (omega arith)))
                (λ j n z. rw (e, ne_eqb (u.cluster c) j (λ q. n (sym q))) (omega arith))
                refl
                (λ z. (both_false (strikes_in_room u x s (abort c)) f z).1)
                (λ a b. rw (elsewhere x f a b) (omega arith));
          }

    -- THE FRONT, NOT IN SERVICE

    module _ (first : heads c (s.lines (u.cluster c)) ≡ true) (n : is_front s.server c ≡ false) where
      not-served : (d : ℕ) → s.server ≡ front d → u.cluster d ≡ u.cluster c → ⊥
      not-served = other-served u s i c first n

      -- the global queue becomes q, in which nobody else has fallen back
      front_goes : (q : List ℕ) → Ordered u all_clusters l s.server q
          → ((j : ℕ) → (j ≡ u.cluster c → ⊥) → has j (map u.cluster s.global) ≡ true
          → at j (map u.cluster q) ≤ at j (map u.cluster s.global))
          → (x : ℕ) (f f' : Bool) → (f' ≡ false → f ≡ false) → Goes u rank s (put l r (with_global q s)) x f f'
      front_goes q o a x f f' h =
          record {
            in_order = now;
            passes = left-passes u rank c s i l r g (with_global q s) x f f'
                (front-shifts u rank c s i l r g (with_global q s) first
                (λ z.
                let a = ahead-le u (put l r (with_global q s)) (u.cluster c) now z in
                omega (arith, a, extra-le u s (u.cluster c))))
                (λ j w z. omega (arith, mul-le-mul_right (span u) (sooner j w z)))
                refl h (λ y z. omega arith);
          }
        where
          now : InOrder u (put l r (with_global q s))
          now =
              record {
                lined = g.lined;
                full = g.full;
                ordered = o;
                rests = λ z. absurd (busy u s (u.cluster c) i (heads-length c (s.lines (u.cluster c)) first) z);
                units-fit = i.units-fit;
              }

          sooner : (j : ℕ) → (j ≡ u.cluster c → ⊥) → 0 < length (s.lines j)
              → turn_of u s.server (map u.cluster q) j ≤ turn_of u s.server (map u.cluster s.global) j
          sooner j w z =
              turn-mono u s.server (map u.cluster s.global) (map u.cluster q) j (a j w)
              (i.ordered.turn-of j tt z)

      pub blocked-goes : blocks u s.server (u.cluster c) ≡ true → (x : ℕ) (f f' : Bool) → (f' ≡ false → f ≡ false)
          → Goes u rank s (put l r (with_global (remove c s.global) s)) x f f'
      blocked-goes b x f f' h =
          let away = blocked-apart u s.server s.global (u.cluster c) b i.ordered.turn-once in
          let none : has c s.global ≡ false = not_so (has c s.global)
          (λ z. clash (has-map u.cluster c s.global z) away) in
          rw (remove-none c s.global none)
          (front_goes s.global
          (ordered-blocked u (u.cluster c) l s.server s.global b
          (ordered-but u (u.cluster c) s.lines l s.server s.global g.others away not-served
          (weaken u (but (u.cluster c)) s.lines s.server s.global i.ordered)))
          (λ j w z. omega arith) x f f' h)

      pub queued-goes : blocks u s.server (u.cluster c) ≡ false → (x : ℕ) (f f' : Bool) → (f' ≡ false → f ≡ false)
          → Goes u rank s (put l r (with_global (join (l (u.cluster c)) (remove c s.global)) s)) x f f'
      queued-goes b x f f' h =
          front_goes (join (l (u.cluster c)) (remove c s.global))
          (ordered-join u (u.cluster c) l s.server (remove c s.global)
          (i.ordered.turn_below (u.cluster c) turn) (g.lined.line (u.cluster c)) o.1
          (ordered-but u (u.cluster c) s.lines l s.server (remove c s.global) g.others
          (turns-right u s.server (remove c s.global) (u.cluster c) o.1) not-served o.0))
          (λ j w z. join-at u (l (u.cluster c)) s.global c j there
          (distinct-right (own u s.server) (map u.cluster s.global) i.ordered.turn-once) w z)
          x f f' h
        where
          turn : has (u.cluster c) (turns u s.server s.global) ≡ true
          turn = i.ordered.turn-of (u.cluster c) tt (heads-length c (s.lines (u.cluster c)) first)

          there : has c s.global ≡ true
          there = front-queued u s i c first b not-served

          o : Ordered u (but (u.cluster c)) s.lines s.server (remove c s.global)
              × (has (u.cluster c) (turns u s.server (remove c s.global)) ≡ false)
          o = ordered-unqueue u c s.lines s.server s.global there i.ordered
