-- A client has come to the gate: what that keeps, before and after the pick.
-- Assumes nothing.
use Prim.Native.Nat.{ℕ, ◌≤◌, ◌<◌}
use mathlib.Core.Path.{◌≡◌, refl, sym, ap, ◌∙◌, subst}
use mathlib.Core.Bool.{Bool, true}
use native.Mathlib.Omega.{arith}
use lib.ListN.{length}
use Rattle.rules.specs.Lists.{has}
use Rattle.rules.specs.Setup.{Setup}
use Rattle.rules.specs.State.{State, Server, idle, front, best, spent, tidying, cap_of}
use Rattle.rules.specs.Rank.{Rank}
use Rattle.rules.specs.Sound.{Full}
use Rattle.rules.specs.Queues.{waits, start, pick, pick_idle}
use Rattle.rules.specs.Events.{behind}
use Rattle.rules.proofs.Tests.{clash}
use Rattle.rules.proofs.InOrder.{Valid, all_clusters, Lined, Ordered, InOrder, busy}
use Rattle.rules.proofs.Ahead.{ahead, extra}
use Rattle.rules.proofs.Passes.{NoLater, keeps, Passes}
use Rattle.rules.proofs.Goes.{line-waits, line-there, differ}
use Rattle.rules.proofs.Pick.{start-put, start-charge, start-in-order}

module _ (u : Setup) (c : ℕ) (s : State) where
  -- c has come, and nothing is picked yet
  pub record Arrived (t : State) : Type 0 where
    pub lined : Lined u t.lines t.room
    pub full : Full u t.lines t.room
    pub ordered : Ordered u all_clusters t.lines s.server t.global
    pub same-server : t.server ≡ s.server
    pub units-fit : t.units ≤ cap_of u t.server
    pub no_longer : (j : ℕ) → 0 < length (s.lines j) → ahead u t j ≤ ahead u s j
    pub same-extra : (j : ℕ) → extra u t j ≤ extra u s j
    pub same-charge : (x : ℕ) → (x ≡ c → ⊥) → t.charge x ≡ s.charge x
    pub no-later : (j : ℕ) → NoLater (s.lines j) (s.lines j) (t.lines j)
    pub no_return : (x : ℕ) → (x ≡ c → ⊥) → t.room x ≡ true → s.room x ≡ true
    pub same_line : (x : ℕ) → (x ≡ c → ⊥) → t.room x ≡ true → t.lines (u.cluster x) ≡ s.lines (u.cluster x)
    pub not_new : (x : ℕ) → (x ≡ c → ⊥) → has x (t.lines (u.cluster x)) ≡ true
        → has x (s.lines (u.cluster x)) ≡ true

module _ (u : Setup) (ok : Valid u) (rank : Rank) (c : ℕ) (s : State) (i : InOrder u s) where
  -- LAST, IF THE SERVER IS IDLE, PICK

  -- what an accepted invoke keeps, of others than c
  abbrev pub Comes : State → Type 0
  Comes t = InOrder u t × ((x : ℕ) (f : Bool) → (x ≡ c → ⊥) → Passes u rank s t x f f)

  module _ (t : State) (a : Arrived u c s t) where
    waited : (x : ℕ) → (x ≡ c → ⊥) → t.room x ≡ true
        → (d : ℕ) → has d (t.lines (u.cluster x)) ≡ true → waits u s d ≡ true
    waited x o r d y =
        let h : has d (s.lines (u.cluster x)) ≡ true = rw (a.same_line x o r) at y in
        line-waits u s d (rw ((i.lined.line (u.cluster x)).home d h) h)

    -- the server is busy
    busy-comes : (s.server ≡ idle → ⊥) → Comes t
    busy-comes n = (
      record {
        lined = a.lined;
        full = a.full;
        ordered = rw a.same-server a.ordered;
        rests = λ e. absurd (n (sym a.same-server ∙ e));
        units-fit = a.units-fit;
      },
      λ x f o. record {
        falls = keeps (a.no-later (u.cluster x)) (a.no_longer (u.cluster x));
        same-charge = a.same-charge x o;
        no_return = a.no_return x o;
        outranked = λ r d y z. clash (rw (a.same_line x o r) at y) z;
        waited = waited x o;
        not_new = λ r. a.not_new x o;
        flags = λ e. e;
        extras = λ r e. a.same-extra (u.cluster x);
      },
    )

    -- the server is idle: nobody waited
    idle-comes : s.server ≡ idle → Comes (start t t.global t.background)
    idle-comes e = (
      start-in-order u t t.global t.background a.lined a.full (rw e at a.ordered),
      λ x f o. subst (λ z. Passes u rank s z x f f) (start-put t t.global t.background)
          (record {
            falls = keeps (a.no-later (u.cluster x)) (λ n. absurd (busy u s (u.cluster x) i n e));
            same-charge = ap (λ n. n x) (start-charge t t.global t.background) ∙ a.same-charge x o;
            no_return = a.no_return x o;
            outranked = λ r d y z. clash (rw (a.same_line x o r) at y) z;
            waited = waited x o;
            not_new = λ r. a.not_new x o;
            flags = λ f. f;
            extras = λ r z. absurd (busy u s (u.cluster x) i (line-there u ok s i x r) e);
          }),
    )

    pub picked-comes : (v : Server) → s.server ≡ v → Comes (pick_idle v t)
    unfolding pick
    picked-comes idle e = idle-comes e
    picked-comes (front d) e = busy-comes (λ z. differ (sym e ∙ z) refl)
    picked-comes (best d) e = busy-comes (λ z. differ (sym e ∙ z) refl)
    picked-comes (spent d) e = busy-comes (λ z. differ (sym e ∙ z) refl)
    picked-comes tidying e = busy-comes (λ z. differ (sym e ∙ z) refl)

  -- BEST-EFFORT

  pub behind-arrived : Arrived u c s (behind c s)
  behind-arrived =
      record {
        lined = i.lined;
        full = i.full;
        ordered = i.ordered;
        same-server = refl;
        units-fit = i.units-fit;
        no_longer = λ j n. omega arith;
        same-extra = λ j. omega arith;
        same-charge = λ x o. refl;
        no-later = λ j p n. omega arith;
        no_return = λ x o r. r;
        same_line = λ x o r. refl;
        not_new = λ x o y. y;
      }
