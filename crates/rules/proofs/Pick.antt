-- A pick keeps what holds, and whoever has a turn in the global queue is that many services,
-- each with a tidying, from its own.
-- Assumes nothing.
use Prim.Native.Nat.{ℕ, ◌+◌, ◌*◌}
use mathlib.Core.Path.{◌≡◌, refl}
use mathlib.Core.Bool.{true}
use mathlib.Core.List.{List, [], ◌∷◌, map}
use native.Mathlib.Omega.{arith}
use Rattle.rules.specs.Lists.{has}
use Rattle.rules.specs.Setup.{Setup, service, span}
use Rattle.rules.specs.State.{State, idle}
use Rattle.rules.specs.Sound.{Full}
use Rattle.rules.specs.Queues.{start}
use Rattle.rules.proofs.Tests.{clash}
use Rattle.rules.proofs.Lists.{has-head, has-tail}
use Rattle.rules.proofs.Images.{at}
use Rattle.rules.proofs.InOrder.{all_clusters, Lined, Ordered, InOrder}
use Rattle.rules.proofs.Ahead.{ahead, extra}
use Rattle.rules.proofs.Leaving.{put}
use Rattle.rules.proofs.Goes.{differ}

pub start-put : (t : State) (g b : List ℕ) → put t.lines t.room (start t g b) ≡ start t g b
start-put t [] [] = refl
start-put t [] (x ∷ b) = refl
start-put t (x ∷ g) b = refl

pub start-charge : (t : State) (g b : List ℕ) → (start t g b).charge ≡ t.charge
start-charge t [] [] = refl
start-charge t [] (x ∷ b) = refl
start-charge t (x ∷ g) b = refl

module _ (u : Setup) where
  pub start-in-order : (t : State) (g b : List ℕ) → Lined u t.lines t.room → Full u t.lines t.room
      → Ordered u all_clusters t.lines idle g → InOrder u (start t g b)
  start-in-order t [] [] h f o =
      record { lined = h; full = f; ordered = o; rests = λ e. (refl, refl); units-fit = omega arith }
  start-in-order t [] (x ∷ b) h f o =
      record {
        lined = h;
        full = f;
        ordered = record {
          global-front = o.global-front;
          served-front = λ d e. differ e refl;
          turn-once = o.turn-once;
          turn_below = o.turn_below;
          turn-of = o.turn-of;
        };
        rests = λ e. differ e refl;
        units-fit = omega arith;
      }
  start-in-order t (x ∷ g) b h f o =
      record {
        lined = h;
        full = f;
        ordered = record {
          global-front = λ d e. o.global-front d (has-tail d x g e);
          served-front = λ d e. let q : x ≡ d = cc in rw (← q) (o.global-front x (has-head x g));
          turn-once = o.turn-once;
          turn_below = o.turn_below;
          turn-of = o.turn-of;
        };
        rests = λ e. differ e refl;
        units-fit = omega arith;
      }

  module _ (t : State) (g b : List ℕ) (j : ℕ) (h : has j (map u.cluster g) ≡ true) where
    pub start-ahead : ahead u (start t g b) j ≡ service u + at j (map u.cluster g) * span u
    start-ahead = go g h
      where
        go : (g : List ℕ) → has j (map u.cluster g) ≡ true
            → ahead u (start t g b) j ≡ service u + at j (map u.cluster g) * span u
        go [] h = clash h refl
        go (x ∷ g) h = omega arith

    pub start-extra : extra u (start t g b) j ≡ 0
    start-extra = go g h
      where
        go : (g : List ℕ) → has j (map u.cluster g) ≡ true → extra u (start t g b) j ≡ 0
        go [] h = clash h refl
        go (x ∷ g) h = refl
