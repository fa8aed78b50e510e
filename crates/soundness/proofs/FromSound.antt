-- The gate that shows a sound state of the rules passes the test.
-- Assumes nothing.
use Prim.Native.Nat.{ℕ, ◌^◌, ◌≤◌, ◌<◌}
use mathlib.Core.Path.{◌≡◌, refl, sym, ◌∙◌}
use mathlib.Core.Bool.{true, false, not, ◌&&◌, ◌||◌, or-true, not-or_self}
use mathlib.Core.List.{List, [], ◌∷◌}
use native.Mathlib.Omega.{arith}
use lib.Dec.{eqb, ltb, leb}
use lib.ListN.{length}
use borrow.Author.Tests.{eqb-true, eq-eqb, ltb-false, lt-ltb, le-leb}
use Rattle.rules.specs.Limits.{max_clusters, max_clients, max_charge, max_deadline}
use Rattle.rules.specs.Lists.{has, heads}
use Rattle.rules.specs.Setup as rules
use Rattle.rules.specs.Setup.{real_time}
use Rattle.rules.specs.State as state
use Rattle.rules.specs.State.{State, idle, front, best, spent, tidying, cap_of}
use Rattle.rules.specs.Queues.{in_room, waits}
use Rattle.rules.specs.Sound.{Sound, ServerSound, queued}
use Rattle.rules.proofs.Tests.{by-test, clash, not_so, both_true}
use Rattle.rules.proofs.Lists.{heads-has}
use Rattle.sets.specs.Sets.{member, set_of}
use Rattle.sets.proofs.Laws.{set_of-below, set_of-cut, member-set_of, set_of-none}
use Rattle.places.specs.Places.{pad}
use Rattle.gate.specs.declared.Setup.{Setup}
use Rattle.gate.specs.Shown.{setup_of, show_rooms, table, shown}
use Rattle.parts.specs.Shows.{Shows}
use Rattle.gate.proofs.Tables.{length-table, table_at}
use Rattle.parts.proofs.SoundShows.{sound-shows}
use Rattle.soundness.specs.Tests.{set_in, first_in}
use Rattle.soundness.specs.Clauses.{of_cluster, everyone}
use Rattle.soundness.specs.Clauses.{room_sound, rooms_sound, global_sound, server_sound, charge_sound, charges_sound}
use Rattle.soundness.specs.Clauses.{deadline_sound, deadlines_sound}
use Rattle.places.proofs.Tests.{and_both, has-every, at_all, is-distinct}
use Rattle.soundness.proofs.Sets.{set-has}
use Rattle.soundness.proofs.Facts.{Clauses, in-cluster}
use Rattle.soundness.proofs.ShownStands as stands
use Rattle.soundness.proofs.ShownStands.{held}

module _ (v : Setup) (s : State) (h : Sound (setup_of v) s) where
  abbrev u : rules.Setup
  u = setup_of v

  abbrev all : List ℕ
  all = everyone s.lines s.background

  fits : Shows v s (shown v s)
  fits = sound-shows v s h

  not_there : (c : ℕ) → has c (s.lines (u.cluster c)) ≡ false → has c s.background ≡ false → has c all ≡ false
  not_there = stands.not_there v s h

  no_place : (c : ℕ) → has c (s.lines (u.cluster c)) ≡ false → has c s.background ≡ false
      → member (set_in all) c ≡ false
  no_place = stands.no_place v s h

  -- ROOMS

  in-room : (k c : ℕ) → in_room u s k c ≡ true → (s.room c ≡ true) × (u.cluster c ≡ k)
  in-room k c e =
      let w = both_true (s.room c) (eqb (u.cluster c) k) e in (w.0, eqb-true (u.cluster c) k w.1)

  room-pass : (k : ℕ) → room_sound u (set_in all) k (s.lines k) (set_of max_clients (in_room u s k)) ≡ true
  unfolding room_sound
  room-pass k =
      rw (lt-ltb (set_of max_clients (in_room u s k)) (2 ^ u.clients) below)
      (and_both _ _ (at_all u.clients _ (λ c b. owned c b)) full)
    where
      few : u.clients ≤ max_clients
      few = fits.fine.clients

      below : set_of max_clients (in_room u s k) < 2 ^ u.clients
      below =
          rw (← set_of-cut u.clients max_clients (in_room u s k) (in_room u s k) few (λ j b. refl) (λ j b past.
          not_so (in_room u s k j) (λ e. omega (arith, (h.room j (in-room k j e).0).known))))
          (set_of-below u.clients (in_room u s k))

      owned : (c : ℕ) → c < u.clients
          → not (member (set_of max_clients (in_room u s k)) c) || (of_cluster u k c && not (member (set_in all) c)) ≡ true
      owned c b =
          rw (member-set_of max_clients (in_room u s k) c (omega (arith, few)))
          (by-test (in_room u s k c)
          (λ e.
          let w = in-room k c e in
          let r = h.room c w.0 in
          rw (
            e,
            in-cluster u k c (record { known = r.known; real = r.real; home = w.1 }),
            no_place c r.apart (stands.real-apart v s h c r.real),
          ))
          (λ e. rw e))

      full : eqb (set_of max_clients (in_room u s k)) 0 || leb (u.size k) (length (s.lines k)) ≡ true
      full =
          by-test (leb (u.size k) (length (s.lines k)))
          (λ e. rw e (or-true (eqb (set_of max_clients (in_room u s k)) 0)))
          (λ e. rw (set_of-none max_clients (in_room u s k) (λ c b. not_so (in_room u s k c) (λ q.
          let w = in-room k c q in
          clash (le-leb (u.size k) (length (s.lines k)) (rw w.1 at (h.full c w.0))) e))))

  rooms-pass : rooms_sound u (set_in all) s.lines (show_rooms u.cluster s.room) ≡ true
  unfolding rooms_sound
  rooms-pass =
      rw (length-table max_clusters (λ k. set_of max_clients (in_room u s k)))
      (at_all max_clusters _ (λ k b.
      rw (table_at max_clusters (λ j. set_of max_clients (in_room u s j)) k 0 b) (room-pass k)))

  -- THE GLOBAL QUEUE

  front-known : (c : ℕ) → queued u s c ≡ true → c < u.clients
  front-known c e =
      (h.lines (u.cluster c)).known c (heads-has c (s.lines (u.cluster c))
      (both_true (heads c (s.lines (u.cluster c))) _ (both_true (heads c (s.lines (u.cluster c)) && _) _ e).0).0)

  global-pass : global_sound u s (pad max_clusters s.global) ≡ true
  unfolding global_sound first_in
  global-pass =
      let w = held max_clusters s.global fits.queues.global.fits in
      rw (
        w.back,
        w.places,
        has-every (λ c. ltb c u.clients && queued u s c) s.global (λ c e.
            let q = sym (h.global c) ∙ e in
            and_both (ltb c u.clients) (queued u s c) (lt-ltb c u.clients (front-known c q)) q),
        is-distinct s.global h.global_once,
      ) (at_all u.clusters _ (λ k b. each (s.lines k)))
    where
      each : (l : List ℕ) → first_in (queued u s) (set_in s.global) l ≡ true
      each [] = refl
      each (x ∷ l) =
          rw (set-has s.global fits.queues.global.fits.used x, h.global x) (not-or_self (queued u s x))

  -- THE SERVER

  server-pass : (x : state.Server) → ServerSound u s x → server_sound u (set_in all) s x ≡ true
  unfolding set_in
  server-pass idle k =
      rw (
        eq-eqb s.units 0 k.units,
        set_of-none max_clients (λ c. has c all) (λ c b.
            not_there c (rw (k.lines (u.cluster c))) (rw k.background)),
      )
  server-pass (front c) k =
      rw (lt-ltb c u.clients ((h.lines (u.cluster c)).known c (heads-has c (s.lines (u.cluster c)) k))) k
  server-pass (best c) k =
      let out = no_place c (stands.effort-apart v s h c k.effort) k.apart in
      rw (lt-ltb c u.clients k.known, k.effort, out)
  server-pass (spent c) k =
      rw (
        lt-ltb c u.clients k.known,
        k.real,
        no_place c k.apart (stands.real-apart v s h c k.real),
        k.out,
      )
  server-pass tidying k = refl

  -- CHARGES

  charges-pass : charges_sound u (table max_clients s.charge) ≡ true
  unfolding charges_sound
  charges-pass =
      rw (length-table max_clients s.charge)
      (at_all max_clients _ (λ c b. rw (table_at max_clients s.charge c 0 b) (go c)))
    where
      go : (c : ℕ) → charge_sound u c (s.charge c) ≡ true
      go c =
          let k = h.charge c in
          rw (le-leb (s.charge c) max_charge k.limit)
          (by-test (ltb c u.clients)
          (λ e. by-test (real_time u c) (λ r. rw (e, r)) (λ r. rw (e, r, k.effort r)))
          (λ e. rw (e, k.past (ltb-false c u.clients e))))

  -- DEADLINES

  deadlines-pass : deadlines_sound u s (table max_clients s.deadline) ≡ true
  unfolding deadlines_sound
  deadlines-pass =
      rw (length-table max_clients s.deadline)
      (at_all max_clients _ (λ c b. rw (table_at max_clients s.deadline c 0 b) (go c)))
    where
      go : (c : ℕ) → deadline_sound u s c (s.deadline c) ≡ true
      go c =
          let k = h.deadline c in
          rw (le-leb (s.deadline c) max_deadline k.bits)
          (by-test u.timed
          (λ t. by-test (waits u s c)
          (λ e. rw (t, e) (or-true (eqb (s.deadline c) 0)))
          (λ e. rw (eq-eqb (s.deadline c) 0 (k.away e))))
          (λ t. rw (eq-eqb (s.deadline c) 0 (k.untimed t))))

  pub shown-clauses : Clauses u (shown v s) s all
  unfolding shown
  shown-clauses =
      record {
        lines = stands.lines-pass v s h;
        background = stands.background-pass v s h;
        once = stands.once-pass v s h;
        rooms = rooms-pass;
        global = global-pass;
        server = server-pass s.server h.server;
        units = le-leb s.units (cap_of u s.server) h.units;
        charges = charges-pass;
        deadlines = deadlines-pass;
      }
