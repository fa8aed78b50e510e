-- The invariant of a client: what it has been charged, and what it may still be charged, stay within the bound.
-- Assumes nothing.
use Prim.Native.Nat.{ℕ, ◌+◌, ◌*◌, ◌≤◌}
use mathlib.Core.Path.{◌≡◌}
use mathlib.Core.Bool.{Bool, true, false, not, cond}
use native.Mathlib.Omega.{arith}
use lib.Dec.{eqb}
use Rattle.rules.specs.Lists.{has}
use Rattle.rules.specs.Setup.{Setup, service, span}
use Rattle.rules.specs.State.{State}
use Rattle.rules.specs.Rank.{Rank}
use Rattle.rules.specs.Demands.{worst, reach, reach_unstruck}
use Rattle.rules.proofs.Tests.{by-test}
use Rattle.rules.proofs.Due.{last, last-le, last-same, due, due-full, unless-le}
use Rattle.rules.proofs.InOrder.{InOrder}
use Rattle.rules.proofs.Ahead.{ahead, ahead-le, extra, extra-le, extra-short, round}

-- x is c
abbrev pub is_it : ℕ → ℕ → Bool
is_it c x = eqb x c

module _ (u : Setup) where
  -- m rounds
  abbrev pub rounds : ℕ → ℕ
  rounds c = u.size (u.cluster c) * round u

  -- what is due to c in a line at whose front a service of `X` may still be in the way; the test finds c's last place
  abbrev pub due_in : State → ℕ → ℕ → (ℕ → Bool) → ℕ
  due_in s c X p = due X (ahead u s (u.cluster c)) (round u) (last p (s.lines (u.cluster c)))

  -- a service in the way of one in the room, unless an abort in service has been counted already
  abbrev pub in_the_way : State → ℕ → Bool → ℕ
  in_the_way s c f = cond f 0 (extra u s (u.cluster c))

  pub in_the_way-le : (s : State) (c : ℕ) (f : Bool) → in_the_way s c f ≤ ahead u s (u.cluster c)
  in_the_way-le s c f =
      omega (arith, extra-le u s (u.cluster c), unless-le f (extra u s (u.cluster c)))

  module _ (rank : Rank) where
    -- x does not outrank c
    abbrev pub lower : ℕ → ℕ → Bool
    lower c x = not (rank x c)

    -- `f`: an abort hit the cluster's request in service while c was in the room
    pub record Kept (s : State) (c : ℕ) (f : Bool) : Type 0 where
      pub in-room : s.room c ≡ true
          → s.charge c + due_in s c (in_the_way s c f) (lower c) ≤ service u + rounds c
      pub not-in-room : s.room c ≡ false
          → s.charge c + due_in s c 0 (is_it c) ≤ service u + 2 * rounds c + cond f (service u) 0

    -- a wait begins
    pub begun : (s : State) (c : ℕ) (f : Bool) → InOrder u s → s.charge c ≡ 0 → Kept s c f
    begun s c f i e =
        record {
          in-room = λ r.
              omega (arith, full (in_the_way s c f) (lower c) (unless-le f (extra u s (u.cluster c))), small);
          not-in-room = λ r. omega (arith, full 0 (is_it c) (omega arith), small);
        }
      where
        small : extra u s (u.cluster c) ≤ service u
        small = extra-short u s (u.cluster c)

        full : (X : ℕ) (p : ℕ → Bool) → X ≤ extra u s (u.cluster c)
            → due_in s c X p ≤ extra u s (u.cluster c) + rounds c
        full X p h =
            let q = last-le p (s.lines (u.cluster c)) in
            due-full X (ahead u s (u.cluster c)) (extra u s (u.cluster c)) (round u) (u.size (u.cluster c))
            (last p (s.lines (u.cluster c))) h (omega (arith, (i.lined.line (u.cluster c)).fits))
            (λ z. ahead-le u s (u.cluster c) i (omega arith))

  -- another rank, which is the same between c and its line
  pub kept-rank : (rank rank' : Rank) (s : State) (c : ℕ) (f : Bool)
      → (s.room c ≡ true → (d : ℕ) → has d (s.lines (u.cluster c)) ≡ true → rank' d c ≡ rank d c)
      → Kept rank s c f → Kept rank' s c f
  kept-rank rank rank' s c f a h =
      record {
        in-room = λ r. rw (same r) (h.in-room r);
        not-in-room = h.not-in-room;
      }
    where
      same : s.room c ≡ true
          → last (lower rank' c) (s.lines (u.cluster c)) ≡ last (lower rank c) (s.lines (u.cluster c))
      same r = last-same (lower rank' c) (lower rank c) (s.lines (u.cluster c)) (λ x e. rw (a r x e))

  -- WHAT IT MEANS FOR THE CHARGE

  module _ (rank : Rank) (s : State) (c : ℕ) where
    kept-bound : (f : Bool) → Kept rank s c f
        → s.charge c ≤ service u + 2 * rounds c + cond f (service u) 0
    kept-bound f i =
        by-test (s.room c) (λ e. omega (arith, i.in-room e)) (λ e. omega (arith, i.not-in-room e))

    pub kept-unstruck : Kept rank s c false
        → s.charge c ≤ reach_unstruck (u.size (u.cluster c)) u.clusters (service u) (span u)
    kept-unstruck i = omega (arith, kept-bound false i)

    pub kept-reach : (f : Bool) → Kept rank s c f
        → s.charge c ≤ reach (u.size (u.cluster c)) u.clusters (service u) (span u)
    kept-reach true i = omega (arith, kept-bound true i)
    kept-reach false i = omega (arith, kept-bound false i)

    pub kept-worst : (f : Bool) → Kept rank s c f
        → s.charge c ≤ worst (u.size (u.cluster c)) u.clusters (span u)
    kept-worst f i = omega (arith, kept-reach f i)
