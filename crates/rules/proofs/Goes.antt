-- An event that is no run: the state after it is in order, and each client's invariant goes over it.
-- Assumes nothing.
use Prim.Native.Nat.{ℕ, ◌+◌, ◌≤◌, ◌<◌}
use mathlib.Core.Path.{◌≡◌, refl, ap}
use mathlib.Core.Bool.{Bool, true, false}
use mathlib.Core.List.{List, tail}
use native.Mathlib.Omega.{arith}
use lib.Dec.{eqb}
use lib.ListN.{length}
use borrow.Author.Tests.{eqb-true, eqb-false, eq-eqb}
use Rattle.rules.specs.Lists.{has, heads}
use Rattle.rules.specs.Setup.{Setup}
use Rattle.rules.specs.State.{State, Server, idle, front, best, spent, tidying, is_front, blocks}
use Rattle.rules.specs.Rank.{Rank}
use Rattle.rules.specs.Queues.{waits}
use Rattle.rules.proofs.Tests.{by-test, clash}
use Rattle.rules.proofs.Lists.{heads-same, heads-length, heads-cons, heads-tail}
use Rattle.rules.proofs.Images.{map-has}
use Rattle.rules.proofs.InOrder.{Valid, InOrder}
use Rattle.rules.proofs.Ahead.{ahead, extra, round}
use Rattle.rules.proofs.Turns.{turns-global}
use Rattle.rules.proofs.Passes.{Falls, keeps, shifts, Passes}
use Rattle.rules.proofs.Leaving.{Left, put}

-- THE CASES OF A SERVER DIFFER

abbrev pub case_of : Server → ℕ
case_of idle = 0
case_of (front d) = 1
case_of (best d) = 2
case_of (spent d) = 3
case_of tidying = 4

pub differ {ℓ} : {X : Type ℓ} {v w : Server} → v ≡ w → eqb (case_of v) (case_of w) ≡ false → X
differ {v} {w} e n = clash (eq-eqb (case_of v) (case_of w) (ap case_of e)) n

pub front-is : (v : Server) (c : ℕ) → is_front v c ≡ true → v ≡ front c
front-is idle c h = clash h refl
front-is (front d) c h = ap front (eqb-true d c h)
front-is (best d) c h = clash h refl
front-is (spent d) c h = clash h refl
front-is tidying c h = clash h refl

module _ (u : Setup) where
  -- who is in the line waits
  pub line-waits : (s : State) (d : ℕ) → has d (s.lines (u.cluster d)) ≡ true → waits u s d ≡ true
  line-waits s d h = rw h

  pub room_waits : (s : State) (d : ℕ) → s.room d ≡ true → waits u s d ≡ true
  room_waits s d h = by-test (has d (s.lines (u.cluster d))) (λ e. rw e) (λ e. rw e h)

  -- whoever is in the room has a line that is not empty
  pub line-there : Valid u → (s : State) → InOrder u s → (x : ℕ) → s.room x ≡ true
      → 0 < length (s.lines (u.cluster x))
  line-there ok s i x r =
      omega (arith, i.full x r, ok.sizes (u.cluster x) (ok.homes x (i.lined.in-room x r).known))

  -- where a front is not in service, no front of its cluster is
  pub other-served : (s : State) → InOrder u s → (c : ℕ) → heads c (s.lines (u.cluster c)) ≡ true
      → is_front s.server c ≡ false → (d : ℕ) → s.server ≡ front d → u.cluster d ≡ u.cluster c → ⊥
  other-served s i c first n d e q =
      let h : heads d (s.lines (u.cluster c)) ≡ true = rw q at (i.ordered.served-front d e) in
      let w : d ≡ c = heads-same d c (s.lines (u.cluster c)) h first in
      clash (rw (e, w, eq-eqb c c refl)) n

  -- a front that is neither in service nor blocked is in the global queue
  pub front-queued : (s : State) → InOrder u s → (c : ℕ) → heads c (s.lines (u.cluster c)) ≡ true
      → blocks u s.server (u.cluster c) ≡ false
      → ((d : ℕ) → s.server ≡ front d → u.cluster d ≡ u.cluster c → ⊥) → has c s.global ≡ true
  front-queued s i c first b n =
      let turn = i.ordered.turn-of (u.cluster c) tt (heads-length c (s.lines (u.cluster c)) first) in
      map-has u.cluster (u.cluster c) s.global (turns-global u s.server s.global (u.cluster c) b n turn)
      (λ d y z.
      let h : heads d (s.lines (u.cluster c)) ≡ true = rw z at (i.ordered.global-front d y) in
      let w : d ≡ c = heads-same d c (s.lines (u.cluster c)) h first in
      rw w at y)

  pub record Goes (rank : Rank) (s s' : State) (x : ℕ) (f f' : Bool) : Type 0 where
    pub in_order : InOrder u s'
    pub passes : Passes u rank s s' x f f'

  -- nobody left its line; `t`: the state but for lines and rooms
  pub same-passes : (rank : Rank) (s : State) → InOrder u s → (t : State) (x : ℕ) (f : Bool)
      → ((j : ℕ) → 0 < length (s.lines j) → ahead u (put s.lines s.room t) j ≤ ahead u s j)
      → t.charge ≡ s.charge
      → (s.room x ≡ true → extra u (put s.lines s.room t) (u.cluster x) ≤ extra u s (u.cluster x))
      → Passes u rank s (put s.lines s.room t) x f f
  same-passes rank s i t x f a e z =
      record {
        falls = keeps (λ p n. omega arith) (a (u.cluster x));
        same-charge = ap (λ n. n x) e;
        no_return = λ r. r;
        outranked = λ r d y w. clash y w;
        waited = λ r d y. line-waits s d (rw ((i.lined.line (u.cluster x)).home d y) y);
        not_new = λ r y. y;
        flags = λ h. h;
        extras = λ r h. z r;
      }

  -- c left its line and the highest of its room, if any, moved up; `t`: the state but for lines and rooms
  module _ (rank : Rank) (c : ℕ) (s : State) (i : InOrder u s) (l : ℕ → List ℕ) (r : ℕ → Bool)
      (g : Left u rank (u.cluster c) c s.lines s.room l r) where
    -- who is in c's line now waited before
    waited-here : (d : ℕ) → has d (l (u.cluster c)) ≡ true → waits u s d ≡ true
    waited-here d e =
        by-test (s.room d) (room_waits s d) λ n.
        let h = g.not_new d n e in
        line-waits s d (rw ((i.lined.line (u.cluster c)).home d h) h)

    -- where c was the front, every place shifts by one
    pub front-shifts : (t : State) → heads c (s.lines (u.cluster c)) ≡ true
        → (0 < length (l (u.cluster c)) → ahead u (put l r t) (u.cluster c) ≤ ahead u s (u.cluster c) + round u)
        → Falls u s (put l r t) (u.cluster c)
    front-shifts t first a =
        shifts c (tail (s.lines (u.cluster c))) (heads-cons c (s.lines (u.cluster c)) first)
        (λ p n. rw (← heads-tail c (s.lines (u.cluster c)) first) (g.no-later p n)) a

    pub left-passes : (t : State) (x : ℕ) (f f' : Bool)
        → Falls u s (put l r t) (u.cluster c)
        → ((j : ℕ) → (j ≡ u.cluster c → ⊥) → 0 < length (s.lines j) → ahead u (put l r t) j ≤ ahead u s j)
        → t.charge ≡ s.charge → (f' ≡ false → f ≡ false)
        → (s.room x ≡ true → f' ≡ false → extra u (put l r t) (u.cluster x) ≤ extra u s (u.cluster x))
        → Passes u rank s (put l r t) x f f'
    left-passes t x f f' a b e h z =
        by-test (eqb (u.cluster x) (u.cluster c))
        (λ q.
        let w : u.cluster x ≡ u.cluster c = eqb-true (u.cluster x) (u.cluster c) q in
        record {
          falls = rw w a;
          same-charge = ap (λ n. n x) e;
          no_return = g.no_return x;
          outranked = λ n d y v. g.outranked x n w d (rw w at y) (rw w at v);
          waited = λ n d y. waited-here d (rw w at y);
          not_new = λ n y. rw w (g.not_new x n (rw w at y));
          flags = h;
          extras = z;
        })
        (λ q.
        let w = eqb-false (u.cluster x) (u.cluster c) q in
        let o = g.others (u.cluster x) w in
        record {
          falls = keeps (λ p n. rw o (omega arith)) (b (u.cluster x) w);
          same-charge = ap (λ n. n x) e;
          no_return = g.no_return x;
          outranked = λ n d y v. clash (rw o at y) v;
          waited = λ n d y.
              let y' = rw o at y in
              line-waits s d (rw ((i.lined.line (u.cluster x)).home d y') y');
          not_new = λ n y. rw o at y;
          flags = h;
          extras = z;
        })
