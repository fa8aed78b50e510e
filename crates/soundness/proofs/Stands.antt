-- Of a gate that passes the test: its lines, its background queue, its charges and its deadlines are sound.
-- Assumes nothing.
use Prim.Native.Nat.{ℕ, ◌≤◌, ◌<◌}
use mathlib.Core.Path.{◌≡◌, refl}
use mathlib.Core.Bool.{Bool, true, false, not, ◌&&◌, ◌||◌, or-false, and-false}
use mathlib.Core.List.{List, []}
use native.Mathlib.Omega.{arith}
use lib.Dec.{eqb, ltb, leb}
use lib.ListN.{length, get_or, get_or-eq_default}
use borrow.Author.Tests.{eqb-true, ltb-true, ltb-false, leb-true, le-ltb, not-true}
use Rattle.rules.specs.Limits.{max_clusters, max_clients, max_charge, max_deadline}
use Rattle.rules.specs.Lists.{has, Distinct}
use Rattle.rules.specs.Setup as rules
use Rattle.rules.specs.Setup.{real_time, Accepted, Trimmed}
use Rattle.rules.specs.State.{State}
use Rattle.rules.specs.Queues.{waits}
use Rattle.rules.specs.Sound.{LineSound, BackgroundSound, ChargeSound, DeadlineSound}
use Rattle.rules.proofs.Tests.{by-test, clash, not_so, either_true, both_true}
use Rattle.rules.proofs.Lists.{has-append, no-first, distinct-right}
use Rattle.rules.proofs.Setups.{Allowed, allowed}
use Rattle.sets.specs.Sets.{member}
use Rattle.places.specs.Places.{unpad}
use Rattle.gate.specs.declared.Gate.{Gate}
use Rattle.gate.specs.Shown.{setup_of, state_of, blank_line}
use Rattle.parts.specs.Shows.{Fine}
use Rattle.parts.proofs.SoundShows.{accepted-fine}
use Rattle.places.specs.Tests.{every, all_below}
use Rattle.soundness.specs.Tests.{joined, set_in}
use Rattle.soundness.specs.Clauses.{laid, of_background, background_sound, everyone}
use Rattle.soundness.specs.Clauses.{is_real, charge_sound, charges_sound, deadline_sound, deadlines_sound}
use Rattle.places.proofs.Tests.{every-has, all-at, distinct-is}
use Rattle.soundness.proofs.Joined.{not-appended, distinct-left, joined-has, has-joined, joined-distinct}
use Rattle.soundness.proofs.Sets.{set-has}
use Rattle.soundness.proofs.Facts.{Clauses, LineFacts, lines-facts}

module _ (g : Gate) (a : Accepted (setup_of g.setup)) (t : Trimmed (setup_of g.setup))
    (c : Clauses (setup_of g.setup) g (state_of g)
    (everyone (state_of g).lines (state_of g).background)) where
  abbrev u : rules.Setup
  u = setup_of g.setup

  abbrev s : State
  s = state_of g

  abbrev all : List ℕ
  all = everyone s.lines s.background

  pub ok : Allowed u
  ok = allowed u a

  pub fine : Fine g.setup
  fine = accepted-fine g.setup a t

  -- LINES

  pub eight : (length g.lines ≡ max_clusters)
      × ((k : ℕ) → k < max_clusters → LineFacts u k (get_or g.lines k blank_line).places)
  eight = lines-facts u g.lines c.lines

  -- past the eight lines there is none
  pub past : (k : ℕ) → max_clusters ≤ k → s.lines k ≡ []
  unfolding state_of unpad
  past k b = rw (get_or-eq_default g.lines blank_line {n = k} (omega (arith, eight.0)))

  pub lines_past : (k : ℕ) → u.clusters ≤ k → s.lines k ≡ []
  unfolding state_of
  lines_past k b =
      by-test (ltb k max_clusters)
      (λ e. no-first (s.lines k) (λ z.
      omega (arith, (eight.1 k (ltb-true k max_clusters e)).fits, t.sizes k b)))
      (λ e. past k (ltb-false k max_clusters e))

  line-once : (k : ℕ) → Distinct (s.lines k)
  line-once k =
      by-test (ltb k max_clusters)
      (λ e. joined-distinct s.lines 0 max_clusters k (omega arith) (omega (arith, ltb-true k max_clusters e))
      (distinct-left (joined s.lines 0 max_clusters) s.background (distinct-is all c.once)))
      (λ e. rw (past k (ltb-false k max_clusters e)) tt)

  pub line : (k : ℕ) → LineSound u k (s.lines k)
  unfolding state_of
  line k =
      by-test (ltb k max_clusters)
      (λ e.
      let f = eight.1 k (ltb-true k max_clusters e) in
      record {
        fits = f.fits;
        known = λ d h. (f.own d h).known;
        real = λ d h. (f.own d h).real;
        home = λ d h. (f.own d h).home;
        once = line-once k;
      })
      (λ e. rw (past k (ltb-false k max_clusters e)) (record {
        fits = omega arith;
        known = λ d h. clash h refl;
        real = λ d h. clash h refl;
        home = λ d h. clash h refl;
        once = tt;
      }))

  abbrev standing : List ℕ
  standing = joined s.lines 0 max_clusters

  -- whoever is not in the list of everyone is in no line
  pub apart : (d : ℕ) → has d all ≡ false → has d (s.lines (u.cluster d)) ≡ false
  apart d n =
      not_so (has d (s.lines (u.cluster d))) (λ h.
      clash (has-joined s.lines 0 max_clusters (u.cluster d) d (omega arith) (omega (arith, fine.homes d)) h)
      (not-appended d standing s.background n).0)

  pub background-facts : (laid max_clients g.background ≡ true) × BackgroundSound u s.background
  unfolding background_sound state_of
  background-facts =
      let x = both_true (laid max_clients g.background) (every (of_background u) s.background) c.background in
      let each : (d : ℕ) → has d s.background ≡ true
      → (ltb d u.clients ≡ true) × (not (real_time u d) ≡ true) =
      λ d h. both_true (ltb d u.clients) (not (real_time u d))
      (every-has (of_background u) s.background d x.1 h) in (
        x.0,
        record {
          known = λ d h. ltb-true d u.clients (each d h).0;
          effort = λ d h. not-true (real_time u d) (each d h).1;
          once = distinct-right (joined s.lines 0 max_clusters) s.background (distinct-is all c.once);
        },
      )

  -- the set of everyone has everyone
  pub in-set : (d : ℕ) → member (set_in all) d ≡ has d all
  in-set =
      set-has all (λ d e. either_true (has d standing) (has d s.background) (rw has-append at e)
      (λ q. joined-has s.lines 0 max_clusters d q (λ j x y i. omega (arith, (line j).known d i, ok.few-clients)))
      (λ q. omega (arith, background-facts.1.known d q, ok.few-clients)))

  -- CHARGES

  pub charge-facts : (length g.charges ≡ max_clients) × ((d : ℕ) → ChargeSound u (s.charge d) d)
  unfolding charges_sound state_of
  charge-facts =
      let test : ℕ → Bool = λ d. charge_sound u d (s.charge d) in
      let w = both_true (eqb (length g.charges) max_clients) (all_below max_clients test) c.charges in
      let l = eqb-true (length g.charges) max_clients w.0 in (
        l,
        λ d. by-test (ltb d max_clients)
            (λ e. one d (all-at max_clients test w.1 d (ltb-true d max_clients e)))
            (λ e. rw (get_or-eq_default g.charges 0 {n = d} (omega (arith, l, ltb-false d max_clients e)))
            (record { effort = λ r. refl; past = λ b. refl; limit = omega arith })),
      )
    where
      one : (d : ℕ) → charge_sound u d (s.charge d) ≡ true → ChargeSound u (s.charge d) d
      one d e =
          let w = both_true (leb (s.charge d) max_charge) (is_real u d || eqb (s.charge d) 0) e in
          let zero-unless : ((ltb d u.clients && real_time u d) ≡ false) → s.charge d ≡ 0 =
          λ n. eqb-true (s.charge d) 0 (rw n at w.1) in
          record {
            effort = λ r. zero-unless (not_so (ltb d u.clients && real_time u d) (λ q.
                clash (both_true (ltb d u.clients) (real_time u d) q).1 r));
            past = λ b. zero-unless (rw (le-ltb d u.clients b));
            limit = leb-true (s.charge d) max_charge w.0;
          }

  -- DEADLINES

  pub deadline-facts : (length g.deadlines ≡ max_clients) × ((d : ℕ) → DeadlineSound u s d)
  unfolding deadlines_sound state_of
  deadline-facts =
      let test : ℕ → Bool = λ d. deadline_sound u s d (s.deadline d) in
      let w = both_true (eqb (length g.deadlines) max_clients) (all_below max_clients test) c.deadlines in
      let l = eqb-true (length g.deadlines) max_clients w.0 in (
        l,
        λ d. by-test (ltb d max_clients)
            (λ e. one d (all-at max_clients test w.1 d (ltb-true d max_clients e)))
            (λ e.
            let z : s.deadline d ≡ 0 =
            get_or-eq_default g.deadlines 0 {n = d} (omega (arith, l, ltb-false d max_clients e)) in
            record { bits = omega (arith, z); away = λ n. z; untimed = λ n. z }),
      )
    where
      one : (d : ℕ) → deadline_sound u s d (s.deadline d) ≡ true → DeadlineSound u s d
      one d e =
          let w = both_true (leb (s.deadline d) max_deadline) _ e in
          let zero-unless : (u.timed && waits u s d ≡ false) → s.deadline d ≡ 0 =
          λ n. eqb-true (s.deadline d) 0 (rw (n, or-false (eqb (s.deadline d) 0)) at w.1) in
          record {
            bits = leb-true (s.deadline d) max_deadline w.0;
            away = λ n. zero-unless (rw (n, and-false u.timed));
            untimed = λ n. zero-unless (rw n);
          }
