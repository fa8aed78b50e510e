-- A gate that passes the test shows a sound state of the rules.
-- Assumes nothing.
use Prim.Native.Nat.{ℕ, ◌≤◌, ◌<◌}
use mathlib.Core.Path.{◌≡◌, sym, ap, ◌∙◌}
use mathlib.Core.Bool.{Bool, true, false, not, ◌&&◌}
use mathlib.Core.List.{List, []}
use native.Mathlib.Nat.{lt_of_lt_of_le}
use native.Mathlib.Omega.{arith}
use lib.Dec.{eqb, ltb}
use lib.ListN.{length, get_or}
use lib.Pow.{pow_mono}
use borrow.Author.Tests.{eqb-true, ltb-true, ltb-false, leb-true, not-true}
use Rattle.rules.specs.Limits.{max_clusters, max_clients}
use Rattle.rules.specs.Lists.{has, heads, Distinct}
use Rattle.rules.specs.Setup as rules
use Rattle.rules.specs.Setup.{real_time, Accepted, Trimmed}
use Rattle.rules.specs.State as state
use Rattle.rules.specs.State.{State, idle, front, best, spent, tidying, cap_of}
use Rattle.rules.specs.Sound.{Sound, LineSound, RoomSound, ServerSound, queued}
use Rattle.rules.proofs.Tests.{by-test, clash, not_so, both_true, same_test}
use Rattle.rules.proofs.Lists.{has-none, heads-has, heads-cons}
use Rattle.rules.proofs.Setups.{Allowed}
use Rattle.sets.specs.Sets.{member}
use Rattle.sets.proofs.Bits.{member-none}
use Rattle.gate.specs.declared.Gate.{Gate}
use Rattle.gate.specs.Shown.{setup_of, state_of}
use Rattle.parts.specs.Shows.{Fine, ServerFits}
use Rattle.parts.proofs.Laid.{LaidOut}
use Rattle.places.specs.Tests.{every, all_below, distinct}
use Rattle.soundness.specs.Tests.{joined, set_in, first_in}
use Rattle.soundness.specs.Clauses.{laid, everyone}
use Rattle.soundness.specs.Clauses.{room_sound, rooms_sound, global_sound, server_sound}
use Rattle.places.proofs.Tests.{every-has, all-at, distinct-is}
use Rattle.soundness.proofs.Joined.{not-appended, has-joined}
use Rattle.soundness.proofs.Sets.{set-has}
use Rattle.soundness.proofs.Facts.{Clauses, laid-facts, RoomFacts, room-facts}
use Rattle.soundness.proofs.Stands as stands

module _ (g : Gate) (a : Accepted (setup_of g.setup)) (t : Trimmed (setup_of g.setup))
    (c : Clauses (setup_of g.setup) g (state_of g)
    (everyone (state_of g).lines (state_of g).background)) where
  abbrev u : rules.Setup
  u = setup_of g.setup

  abbrev s : State
  s = state_of g

  abbrev all : List ℕ
  all = everyone s.lines s.background

  abbrev standing : List ℕ
  standing = joined s.lines 0 max_clusters

  ok : Allowed u
  ok = stands.ok g a t c

  fine : Fine g.setup
  fine = stands.fine g a t c

  line : (k : ℕ) → LineSound u k (s.lines k)
  line = stands.line g a t c

  in-set : (d : ℕ) → member (set_in all) d ≡ has d all
  in-set = stands.in-set g a t c

  -- ROOMS

  eight-rooms : (length g.rooms ≡ max_clusters)
      × ((k : ℕ) → k < max_clusters → RoomFacts u (set_in all) k (s.lines k) (get_or g.rooms k 0))
  unfolding rooms_sound
  eight-rooms =
      let test : ℕ → Bool = λ k. room_sound u (set_in all) k (s.lines k) (get_or g.rooms k 0) in
      let w = both_true (eqb (length g.rooms) max_clusters) (all_below max_clusters test) c.rooms in (
        eqb-true (length g.rooms) max_clusters w.0,
        λ k b. room-facts u (set_in all) k (s.lines k) (get_or g.rooms k 0) (all-at max_clusters test w.1 k b),
      )

  in-room : (d : ℕ) → s.room d ≡ true → member (get_or g.rooms (u.cluster d) 0) d ≡ true
  unfolding state_of
  in-room d r = (both_true (ltb d max_clients) (member (get_or g.rooms (u.cluster d) 0) d) r).1

  room : (d : ℕ) → s.room d ≡ true → RoomSound u s.lines d
  room d r =
      let w = (eight-rooms.1 (u.cluster d) (fine.homes d)).own d (in-room d r) in
      record { known = w.0.known; real = w.0.real; apart = stands.apart g a t c d (sym (in-set d) ∙ w.1) }

  full : (d : ℕ) → s.room d ≡ true → u.size (u.cluster d) ≤ length (s.lines (u.cluster d))
  full d r = (eight-rooms.1 (u.cluster d) (fine.homes d)).full d (in-room d r)

  -- QUEUES

  record GlobalFacts : Type 0 where
    places : laid max_clusters g.global ≡ true
    known : (d : ℕ) → has d s.global ≡ true → d < u.clients
    fronts : (d : ℕ) → has d s.global ≡ true → queued u s d ≡ true
    once : Distinct s.global
    each : (k : ℕ) → k < u.clusters → first_in (queued u s) (set_in s.global) (s.lines k) ≡ true

  global-facts : GlobalFacts
  unfolding global_sound state_of
  global-facts =
      let test : ℕ → Bool = λ d. ltb d u.clients && queued u s d in
      let in-queue : ℕ → Bool = λ k. first_in (queued u s) (set_in s.global) (s.lines k) in
      let w = both_true (laid max_clusters g.global && every test s.global) _ c.global in
      let x = both_true (laid max_clusters g.global) (every test s.global) w.0 in
      let z = both_true (distinct s.global) (all_below u.clusters in-queue) w.1 in
      record {
        places = x.0;
        known = λ d h.
            ltb-true d u.clients
            (both_true (ltb d u.clients) (queued u s d) (every-has test s.global d x.1 h)).0;
        fronts = λ d h. (both_true (ltb d u.clients) (queued u s d) (every-has test s.global d x.1 h)).1;
        once = distinct-is s.global z.0;
        each = all-at u.clusters in-queue z.1;
      }

  front-in : (d : ℕ) → queued u s d ≡ true → has d s.global ≡ true
  unfolding first_in
  front-in d q =
      let first : heads d (s.lines (u.cluster d)) ≡ true =
      (both_true (heads d (s.lines (u.cluster d))) _ (both_true (heads d (s.lines (u.cluster d)) && _) _ q).0).0 in
      let known = (line (u.cluster d)).known d (heads-has d (s.lines (u.cluster d)) first) in
      let e = rw (heads-cons d (s.lines (u.cluster d)) first) at
      (global-facts.each (u.cluster d) (ok.homes d known)) in
      sym (set-has s.global (λ x h. omega (arith, global-facts.known x h, ok.few-clients)) d) ∙ rw q at e

  -- THE SERVER

  server : (x : state.Server) → server_sound u (set_in all) s x ≡ true → ServerSound u s x × ServerFits x
  unfolding set_in
  server idle e =
      let w = both_true (eqb s.units 0) (eqb (set_in all) 0) e in
      let nobody : (d : ℕ) → (has d standing ≡ false) × (has d s.background ≡ false) = λ d.
      not-appended d standing s.background
      (sym (in-set d) ∙ rw (eqb-true (set_in all) 0 w.1) (member-none d)) in
      let none : (k : ℕ) → s.lines k ≡ [] = λ k. by-test (ltb k max_clusters)
      (λ b. has-none (s.lines k) (λ d. not_so (has d (s.lines k)) (λ h.
      clash (has-joined s.lines 0 max_clusters k d (omega arith) (omega (arith, ltb-true k max_clusters b)) h)
      (nobody d).0)))
      (λ b. stands.past g a t c k (ltb-false k max_clusters b)) in (
        record {
          lines = none;
          room = λ d. not_so (s.room d) (λ r.
              omega (
                arith,
                full d r,
                ap length (none (u.cluster d)),
                ok.some_size (u.cluster d) (ok.homes d (room d r).known),
              ));
          background = has-none s.background (λ d. (nobody d).1);
          units = eqb-true s.units 0 w.0;
        },
        tt,
      )
  server (front d) e =
      let w = both_true (ltb d u.clients) (heads d (s.lines (u.cluster d))) e in
      (w.1, omega (arith, ltb-true d u.clients w.0, ok.few-clients))
  server (best d) e =
      let w = both_true (ltb d u.clients && not (real_time u d)) (not (member (set_in all) d)) e in
      let x = both_true (ltb d u.clients) (not (real_time u d)) w.0 in
      let gone = sym (in-set d) ∙ not-true (member (set_in all) d) w.1 in (
        record {
          known = ltb-true d u.clients x.0;
          effort = not-true (real_time u d) x.1;
          apart = (not-appended d standing s.background gone).1;
        },
        omega (arith, ltb-true d u.clients x.0, ok.few-clients),
      )
  server (spent d) e =
      let w = both_true (ltb d u.clients && real_time u d) (not (member (set_in all) d) && not (s.room d)) e in
      let x = both_true (ltb d u.clients) (real_time u d) w.0 in
      let y = both_true (not (member (set_in all) d)) (not (s.room d)) w.1 in (
        record {
          known = ltb-true d u.clients x.0;
          real = x.1;
          apart = stands.apart g a t c d (sym (in-set d) ∙ not-true (member (set_in all) d) y.0);
          out = not-true (s.room d) y.1;
        },
        omega (arith, ltb-true d u.clients x.0, ok.few-clients),
      )
  server tidying e = (tt, tt)

  -- TOGETHER

  pub sound-state : Sound u s
  sound-state =
      record {
        setup = a;
        trimmed = t;
        lines = line;
        room = room;
        full = full;
        lines_past = stands.lines_past g a t c;
        rooms_past = λ d r. ok.homes d (room d r).known;
        global = λ d. same_test (has d s.global) (queued u s d) (global-facts.fronts d) (front-in d);
        global_once = global-facts.once;
        background = (stands.background-facts g a t c).1;
        server = (server s.server c.server).0;
        units = leb-true s.units (cap_of u s.server) c.units;
        charge = (stands.charge-facts g a t c).1;
        deadline = (stands.deadline-facts g a t c).1;
      }

  pub sound-laid : LaidOut g
  unfolding state_of
  sound-laid =
      record {
        fine = fine;
        eight-lines = (stands.eight g a t c).0;
        line = λ k b. record {
          size = ((stands.eight g a t c).1 k b).size;
          first = ((stands.eight g a t c).1 k b).first;
          known = λ d h. omega (arith, (((stands.eight g a t c).1 k b).own d h).known, ok.few-clients);
        };
        eight-rooms = eight-rooms.0;
        room = λ k b. record {
          word = lt_of_lt_of_le (eight-rooms.1 k b).below (pow_mono ok.few-clients);
          own = λ d l m. ((eight-rooms.1 k b).own d m).0.home;
        };
        global = record {
          size = (laid-facts max_clusters g.global global-facts.places).0;
          first = (laid-facts max_clusters g.global global-facts.places).1;
          known = λ d h. omega (arith, global-facts.known d h, ok.few-clients);
        };
        background = record {
          size = (laid-facts max_clients g.background (stands.background-facts g a t c).0).0;
          first = (laid-facts max_clients g.background (stands.background-facts g a t c).0).1;
          known = λ d h. omega (arith, (stands.background-facts g a t c).1.known d h, ok.few-clients);
        };
        server = (server s.server c.server).1;
        charges = (stands.charge-facts g a t c).0;
        deadlines = (stands.deadline-facts g a t c).0;
      }
