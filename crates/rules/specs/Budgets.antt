-- What a quote is for: a client that keeps to its order is charged no more than the budget, over all of its waits.
-- Assumes nothing.
use Rattle.std.specs.Prelude.{ℕ, ◌+◌, ◌*◌, ◌≤◌, ◌≡◌, true, List, [], ◌∷◌, ℤ, nat_abs}
use Rattle.rules.specs.Setup.{Setup, Accepted, real_time, span}
use Rattle.rules.specs.Events.{Event}
use Rattle.rules.specs.History.{owed_in_all, calls}
use Rattle.rules.specs.Demands.{worst}
use Rattle.rules.specs.Quote.{Order}

-- In any history from a fresh gate a client's charges over all its waits come to at most (2 + 2mK)S for each accepted
-- invoke.
abbrev pub BoundedInAll : Setup → Type 0
BoundedInAll u = (h : List Event) (c : ℕ) → real_time u c ≡ true
    → owed_in_all u c h ≤ calls u c h * worst (u.size (u.cluster c)) u.clusters (span u)

-- A client's use of one server: the gate's setup, its number there, and the events at that gate.
pub record Use : Type 0 where
  pub setup : Setup
  pub client : ℕ
  pub events : List Event

-- The use keeps to one line of an order: a gate with the order's m and K and the line's caps L and W, and at most its N
-- accepted invokes.
pub record KeepsLine (m K n l w : ℕ) (x : Use) : Type 0 where
  pub gate : Accepted x.setup
  pub real : real_time x.setup x.client ≡ true
  pub size : x.setup.size (x.setup.cluster x.client) ≡ m
  pub clusters : x.setup.clusters ≡ K
  pub cap : x.setup.cap ≡ l
  pub tidy : x.setup.tidy ≡ w
  pub within : calls x.setup x.client x.events ≤ n

-- a use a line, in their order
abbrev pub KeepLines : ℕ → ℕ → List ℤ → List ℤ → List ℤ → List Use → Type 0
KeepLines m K [] caps tidies [] = Unit {0}
KeepLines m K [] caps tidies (x ∷ xs) = ⊥
KeepLines m K (n ∷ calls) [] tidies xs = ⊥
KeepLines m K (n ∷ calls) (l ∷ caps) [] xs = ⊥
KeepLines m K (n ∷ calls) (l ∷ caps) (w ∷ tidies) [] = ⊥
KeepLines m K (n ∷ calls) (l ∷ caps) (w ∷ tidies) (x ∷ xs) =
    KeepsLine m K (nat_abs n) (nat_abs l) (nat_abs w) x × KeepLines m K calls caps tidies xs

abbrev pub Keeps : Order → List Use → Type 0
Keeps o xs = KeepLines (nat_abs o.size) (nat_abs o.clusters) o.calls o.caps o.tidies xs

-- all that was charged
abbrev pub charged_for : List Use → ℕ
charged_for [] = 0
charged_for (x ∷ xs) = owed_in_all x.setup x.client x.events + charged_for xs
