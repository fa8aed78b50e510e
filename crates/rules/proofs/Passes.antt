-- How a client's invariant goes over an event other than a run and its own invoke.
-- Assumes nothing.
use Prim.Native.Nat.{ℕ, ◌+◌, ◌*◌, ◌≤◌, ◌<◌}
use mathlib.Core.Path.{◌≡◌, refl}
use mathlib.Core.Bool.{Bool, true, false, cond}
use mathlib.Core.List.{List, ◌∷◌}
use native.Mathlib.Omega.{arith}
use lib.Dec.{eqb}
use lib.ListN.{length}
use borrow.Author.Tests.{eqb-true}
use Rattle.rules.specs.Lists.{has}
use Rattle.rules.specs.Setup.{Setup, service}
use Rattle.rules.specs.State.{State}
use Rattle.rules.specs.Rank.{Rank}
use Rattle.rules.specs.Queues.{waits}
use Rattle.rules.proofs.Tests.{by-test, clash}
use Rattle.rules.proofs.Due.{last, last-le, due-keep, due-shift, due-low, due-full}
use Rattle.rules.proofs.InOrder.{InOrder}
use Rattle.rules.proofs.Ahead.{ahead, ahead-le, extra, extra-short, round}
use Rattle.rules.proofs.Kept.{is_it, lower, rounds, due_in, in_the_way, in_the_way-le, Kept}

-- the test fails for whoever is new in the line
abbrev pub Fails : (ℕ → Bool) → List ℕ → List ℕ → Type 0
Fails p l l' = (d : ℕ) → has d l' ≡ true → has d l ≡ false → p d ≡ false

-- for such a test, the last place in l' is no later than that in l
abbrev pub NoLater : List ℕ → List ℕ → List ℕ → Type 0
NoLater l₀ l l' = (p : ℕ → Bool) → Fails p l₀ l' → last p l' ≤ last p l

module _ (u : Setup) where
  -- in the line of k nobody falls back, or its front left and a round is all that is added
  pub data Falls (s s' : State) (k : ℕ) : Type 0 where
    keeps : NoLater (s.lines k) (s.lines k) (s'.lines k)
        → (0 < length (s.lines k) → ahead u s' k ≤ ahead u s k) → Falls s s' k
    shifts : (x : ℕ) (t : List ℕ) → s.lines k ≡ x ∷ t → NoLater (s.lines k) t (s'.lines k)
        → (0 < length (s'.lines k) → ahead u s' k ≤ ahead u s k + round u) → Falls s s' k

  falls-due : (s s' : State) (c : ℕ) (p : ℕ → Bool) (X X' : ℕ) → Falls s s' (u.cluster c)
      → Fails p (s.lines (u.cluster c)) (s'.lines (u.cluster c)) → X' ≤ X → X' ≤ ahead u s (u.cluster c)
      → due_in u s' c X' p ≤ due_in u s c X p
  falls-due s s' c p X X' (keeps a b) f h g =
      due-keep X (ahead u s (u.cluster c)) X' (ahead u s' (u.cluster c)) (round u)
      (last p (s.lines (u.cluster c))) (last p (s'.lines (u.cluster c))) (a p f) h
      (λ o. b (omega (arith, a p f, last-le p (s.lines (u.cluster c))))) g
  falls-due s s' c p X X' (shifts x t e a b) f h g =
      rw e (due-shift X (ahead u s (u.cluster c)) X' (ahead u s' (u.cluster c)) (round u)
      (last p t) (last p (s'.lines (u.cluster c))) (p x) (a p f) h
      (λ o. b (omega (arith, last-le p (s'.lines (u.cluster c))))) g)

  -- what such an event does to a client c; f and f': whether an abort has hit its cluster's request in service while it
  -- was in the room
  pub record Passes (rank : Rank) (s s' : State) (c : ℕ) (f f' : Bool) : Type 0 where
    pub falls : Falls s s' (u.cluster c)
    pub same-charge : s'.charge c ≡ s.charge c
    pub no_return : s'.room c ≡ true → s.room c ≡ true
    pub outranked : s'.room c ≡ true → (d : ℕ) → has d (s'.lines (u.cluster c)) ≡ true
        → has d (s.lines (u.cluster c)) ≡ false → rank d c ≡ true
    pub waited : s'.room c ≡ true → (d : ℕ) → has d (s'.lines (u.cluster c)) ≡ true → waits u s d ≡ true
    pub not_new : s.room c ≡ false → has c (s'.lines (u.cluster c)) ≡ true
        → has c (s.lines (u.cluster c)) ≡ true
    pub flags : f' ≡ false → f ≡ false
    pub extras : s.room c ≡ true → f' ≡ false → extra u s' (u.cluster c) ≤ extra u s (u.cluster c)

  module _ (rank : Rank) (s s' : State) (c : ℕ) (f f' : Bool) (i : InOrder u s') (m : Passes rank s s' c f f') where
    -- it stays in the room
    stays : Kept u rank s c f → s'.room c ≡ true
        → s'.charge c + due_in u s' c (in_the_way u s' c f') (lower u rank c) ≤ service u + rounds u c
    stays h r =
        let o : s.room c ≡ true = m.no_return r in
        let l = less f f' (λ e. (m.flags e, m.extras o e)) in
        omega (
          arith,
          h.in-room o,
          m.same-charge,
          falls-due s s' c (lower u rank c) (in_the_way u s c f) (in_the_way u s' c f') m.falls
              (λ d a b. rw (m.outranked r d a b)) l (omega (arith, in_the_way-le u s c f)),
        )
      where
        less : (g g' : Bool) → (g' ≡ false → (g ≡ false) × (extra u s' (u.cluster c) ≤ extra u s (u.cluster c)))
            → in_the_way u s' c g' ≤ in_the_way u s c g
        less g true h = omega arith
        less true false h = clash refl (h refl).0
        less false false h = (h refl).1

    -- it leaves the room and, it may be, enters the line
    enters : Kept u rank s c f → s.room c ≡ true
        → s'.charge c + due_in u s' c 0 (is_it c) ≤ service u + 2 * rounds u c + cond f' (service u) 0
    enters h o =
        sum f f' (λ e. (m.flags e, m.extras o e)) (omega (arith, before, m.same-charge)) later
      where
        before : s.charge c + in_the_way u s c f ≤ service u + rounds u c
        before =
            omega (
              arith,
              h.in-room o,
              due-low (in_the_way u s c f) (ahead u s (u.cluster c)) (round u)
                  (last (lower u rank c) (s.lines (u.cluster c))) (in_the_way-le u s c f),
            )

        later : due_in u s' c 0 (is_it c) ≤ extra u s' (u.cluster c) + rounds u c
        later =
            let q = last-le (is_it c) (s'.lines (u.cluster c)) in
            due-full 0 (ahead u s' (u.cluster c)) (extra u s' (u.cluster c)) (round u) (u.size (u.cluster c))
            (last (is_it c) (s'.lines (u.cluster c))) (omega arith)
            (omega (arith, q, (i.lined.line (u.cluster c)).fits))
            (λ z. ahead-le u s' (u.cluster c) i (omega arith))

        sum : (g g' : Bool) → (g' ≡ false → (g ≡ false) × (extra u s' (u.cluster c) ≤ extra u s (u.cluster c)))
            → s'.charge c + in_the_way u s c g ≤ service u + rounds u c
            → due_in u s' c 0 (is_it c) ≤ extra u s' (u.cluster c) + rounds u c
            → s'.charge c + due_in u s' c 0 (is_it c) ≤ service u + 2 * rounds u c + cond g' (service u) 0
        sum g true e a b = omega (arith, extra-short u s' (u.cluster c))
        sum true false e a b = clash refl (e refl).0
        sum false false e a b = omega (arith, (e refl).1)

    -- it was not in the room
    keeps_on : Kept u rank s c f → s.room c ≡ false
        → s'.charge c + due_in u s' c 0 (is_it c) ≤ service u + 2 * rounds u c + cond f' (service u) 0
    keeps_on h o =
        omega (
          arith,
          h.not-in-room o,
          m.same-charge,
          falls-due s s' c (is_it c) 0 0 m.falls fails (omega arith) (omega arith),
          grows f f' m.flags,
        )
      where
        fails : Fails (is_it c) (s.lines (u.cluster c)) (s'.lines (u.cluster c))
        fails d a b =
            by-test (eqb d c)
            (λ e. clash (m.not_new o (rw (eqb-true d c e) at a)) (rw (eqb-true d c e) at b))
            (λ e. e)

        grows : (g g' : Bool) → (g' ≡ false → g ≡ false) → cond g (service u) 0 ≤ cond g' (service u) 0
        grows true true e = omega arith
        grows false true e = omega arith
        grows true false e = clash refl (e refl)
        grows false false e = omega arith

    pub passed : Kept u rank s c f → Kept u rank s' c f'
    passed h = record { in-room = stays h; not-in-room = λ r. by-test (s.room c) (enters h) (keeps_on h) }
