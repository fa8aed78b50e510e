-- The clauses of soundness one by one, and what the tests of a setup, of a line and of a room say.
-- Assumes nothing.
use Prim.Native.Nat.{ℕ, ◌^◌, ◌≤◌, ◌<◌}
use mathlib.Core.Path.{◌≡◌}
use mathlib.Core.Bool.{Bool, true, false, not, ◌&&◌, ◌||◌}
use mathlib.Core.List.{List}
use lib.Dec.{eqb, ltb, leb}
use lib.ListN.{length, get_or, drop}
use borrow.Author.Tests.{eqb-true, eq-eqb, ltb-true, ltb-false, lt-ltb, leb-true, le-leb, not-true}
use Rattle.rules.specs.Limits.{max_clusters, max_size, max_cap, max_tidy}
use Rattle.rules.specs.Lists.{has}
use Rattle.rules.specs.Refusals.{accepted}
use Rattle.rules.specs.Setup as rules
use Rattle.rules.specs.Setup.{real_time, setup_answer, Accepted, Trimmed}
use Rattle.rules.specs.State.{State, cap_of}
use Rattle.rules.proofs.Tests.{by-test, clash, either_true, both_true}
use Rattle.sets.specs.Sets.{member}
use Rattle.sets.proofs.Bits.{member-past, member-none}
use Rattle.places.specs.Places.{unpad, used_first}
use Rattle.gate.specs.declared.Line.{Line}
use Rattle.gate.specs.declared.Setup.{Setup}
use Rattle.gate.specs.declared.Gate.{Gate}
use Rattle.gate.specs.Shown.{setup_of, blank_line}
use Rattle.places.specs.Tests.{every, all_below, zeros, distinct}
use Rattle.soundness.specs.Tests.{set_in}
use Rattle.soundness.specs.Clauses.{is_trimmed, setup_sound, laid, is_real, of_cluster, line_sound, lines_sound}
use Rattle.soundness.specs.Clauses.{background_sound, room_sound, rooms_sound, global_sound, server_sound}
use Rattle.soundness.specs.Clauses.{charges_sound, deadlines_sound, stand_sound, rest_sound}
use Rattle.places.proofs.Tests.{every-has, all-at, zeros-past, past-zeros}

-- CLAUSES

pub record Clauses (u : rules.Setup) (g : Gate) (s : State) (all : List ℕ) : Type 0 where
  pub lines : lines_sound u g.lines ≡ true
  pub background : background_sound u g.background ≡ true
  pub once : distinct all ≡ true
  pub rooms : rooms_sound u (set_in all) s.lines g.rooms ≡ true
  pub global : global_sound u s g.global ≡ true
  pub server : server_sound u (set_in all) s s.server ≡ true
  pub units : leb s.units (cap_of u s.server) ≡ true
  pub charges : charges_sound u g.charges ≡ true
  pub deadlines : deadlines_sound u s g.deadlines ≡ true

module _ (u : rules.Setup) (g : Gate) (s : State) (all : List ℕ) where
  pub clauses : stand_sound u g.lines g.background all ≡ true → rest_sound u g s (set_in all) ≡ true
      → Clauses u g s all
  unfolding stand_sound rest_sound
  clauses e q =
      let a = both_true (lines_sound u g.lines) (background_sound u g.background && distinct all) e in
      let b = both_true (background_sound u g.background) (distinct all) a.1 in
      let d = both_true (rooms_sound u (set_in all) s.lines g.rooms) _ q in
      let f = both_true (global_sound u s g.global) _ d.1 in
      let h = both_true (server_sound u (set_in all) s s.server) _ f.1 in
      let i = both_true (leb s.units (cap_of u s.server)) _ h.1 in
      let j = both_true (charges_sound u g.charges) (deadlines_sound u s g.deadlines) i.1 in
      record {
        lines = a.0;
        background = b.0;
        once = b.1;
        rooms = d.0;
        global = f.0;
        server = h.0;
        units = i.0;
        charges = j.0;
        deadlines = j.1;
      }

  pub clauses-stand : Clauses u g s all → stand_sound u g.lines g.background all ≡ true
  unfolding stand_sound
  clauses-stand c = rw (c.lines, c.background) c.once

  pub clauses-rest : Clauses u g s all → rest_sound u g s (set_in all) ≡ true
  unfolding rest_sound
  clauses-rest c = rw (c.rooms, c.global, c.server, c.units, c.charges) c.deadlines

-- THE SETUP

module _ (v : Setup) where
  pub setup-facts : setup_sound v ≡ true → Accepted (setup_of v) × Trimmed (setup_of v)
  unfolding setup_sound is_trimmed
  setup-facts e =
      let answered : Bool = eqb (setup_answer (setup_of v)) accepted in
      let caps : Bool = leb v.cap max_cap && leb v.tidy max_tidy in
      let a = both_true (answered && caps) (is_trimmed v) e in
      let b = both_true answered caps a.0 in
      let w = both_true (leb v.cap max_cap) (leb v.tidy max_tidy) b.1 in
      let c = both_true (zeros (drop v.clusters v.sizes)) _ a.1 in
      let d = both_true (zeros (drop v.clients v.kinds)) _ c.1 in
      let f = both_true (zeros (drop v.clients v.homes)) (zeros (drop v.clients v.priorities)) d.1 in (
        record {
          no_refusal = eqb-true (setup_answer (setup_of v)) accepted b.0;
          sixteen_bits = leb-true v.cap max_cap w.0;
          tidy_bits = leb-true v.tidy max_tidy w.1;
        },
        record {
          sizes = zeros-past v.clusters v.sizes c.0;
          kinds = zeros-past v.clients v.kinds d.0;
          homes = zeros-past v.clients v.homes f.0;
          priorities = zeros-past v.clients v.priorities f.1;
        },
      )

  pub facts-setup : Accepted (setup_of v) → Trimmed (setup_of v) → setup_sound v ≡ true
  unfolding setup_sound is_trimmed
  facts-setup a t =
      rw (
        a.no_refusal,
        le-leb v.cap max_cap a.sixteen_bits,
        le-leb v.tidy max_tidy a.tidy_bits,
        past-zeros v.clusters v.sizes t.sizes,
        past-zeros v.clients v.kinds t.kinds,
        past-zeros v.clients v.homes t.homes,
        past-zeros v.clients v.priorities t.priorities,
      )

-- LINES AND QUEUES

pub laid-facts : (n : ℕ) (q : List ℕ) → laid n q ≡ true → (length q ≡ n) × (used_first q ≡ true)
unfolding laid
laid-facts n q e =
    let w = both_true (eqb (length q) n) (used_first q) e in (eqb-true (length q) n w.0, w.1)

pub facts-laid : (n : ℕ) (q : List ℕ) → length q ≡ n → used_first q ≡ true → laid n q ≡ true
unfolding laid
facts-laid n q a b = rw (eq-eqb (length q) n a) b

module _ (u : rules.Setup) where
  pub record OfCluster (k c : ℕ) : Type 0 where
    pub known : c < u.clients
    pub real : real_time u c ≡ true
    pub home : u.cluster c ≡ k

  pub of-cluster : (k c : ℕ) → of_cluster u k c ≡ true → OfCluster k c
  of-cluster k c e =
      let a = both_true (is_real u c) (eqb (u.cluster c) k) e in
      let b = both_true (ltb c u.clients) (real_time u c) a.0 in
      record {
        known = ltb-true c u.clients b.0;
        real = b.1;
        home = eqb-true (u.cluster c) k a.1;
      }

  pub in-cluster : (k c : ℕ) → OfCluster k c → of_cluster u k c ≡ true
  in-cluster k c h =
      rw (lt-ltb c u.clients h.known, h.real) (eq-eqb (u.cluster c) k h.home)

  pub record LineFacts (k : ℕ) (q : List ℕ) : Type 0 where
    pub size : length q ≡ max_size
    pub first : used_first q ≡ true
    pub fits : length (unpad q) ≤ u.size k
    pub own : (c : ℕ) → has c (unpad q) ≡ true → OfCluster k c

  pub line-facts : (k : ℕ) (q : List ℕ) → line_sound u k q ≡ true → LineFacts k q
  unfolding line_sound
  line-facts k q e =
      let a = both_true (laid max_size q) _ e in
      let b = both_true (leb (length (unpad q)) (u.size k)) (every (of_cluster u k) (unpad q)) a.1 in
      let l = laid-facts max_size q a.0 in
      record {
        size = l.0;
        first = l.1;
        fits = leb-true (length (unpad q)) (u.size k) b.0;
        own = λ c h. of-cluster k c (every-has (of_cluster u k) (unpad q) c b.1 h);
      }

  -- eight lines, and so of each
  pub lines-facts : (ls : List Line) → lines_sound u ls ≡ true
      → (length ls ≡ max_clusters) × ((k : ℕ) → k < max_clusters → LineFacts k (get_or ls k blank_line).places)
  unfolding lines_sound
  lines-facts ls e =
      let test : ℕ → Bool = λ k. line_sound u k (get_or ls k blank_line).places in
      let w = both_true (eqb (length ls) max_clusters) (all_below max_clusters test) e in (
        eqb-true (length ls) max_clusters w.0,
        λ k b. line-facts k (get_or ls k blank_line).places (all-at max_clusters test w.1 k b),
      )

  -- WAITING ROOMS

  pub record RoomFacts (standing k : ℕ) (line : List ℕ) (x : ℕ) : Type 0 where
    pub below : x < 2 ^ u.clients
    pub own : (c : ℕ) → member x c ≡ true → OfCluster k c × (member standing c ≡ false)
    pub full : (c : ℕ) → member x c ≡ true → u.size k ≤ length line

  pub room-facts : (standing k : ℕ) (line : List ℕ) (x : ℕ) → room_sound u standing k line x ≡ true
      → RoomFacts standing k line x
  unfolding room_sound
  room-facts standing k line x e =
      let owned : ℕ → Bool = λ c. not (member x c) || (of_cluster u k c && not (member standing c)) in
      let a = both_true (ltb x (2 ^ u.clients)) _ e in
      let b = both_true (all_below u.clients owned) (eqb x 0 || leb (u.size k) (length line)) a.1 in
      let below : x < 2 ^ u.clients = ltb-true x (2 ^ u.clients) a.0 in
      record {
        below = below;
        own = λ c m. own c m (all-at u.clients owned b.0 c (inside c below m));
        full = λ c m. either_true (eqb x 0) (leb (u.size k) (length line)) b.1
            (λ q. clash m (rw (eqb-true x 0 q) (member-none c)))
            (λ q. leb-true (u.size k) (length line) q);
      }
    where
      inside : (c : ℕ) → x < 2 ^ u.clients → member x c ≡ true → c < u.clients
      inside c b m =
          by-test (ltb c u.clients) (λ q. ltb-true c u.clients q)
          (λ q. clash m (member-past u.clients x c b (ltb-false c u.clients q)))

      own : (c : ℕ) → member x c ≡ true → not (member x c) || (of_cluster u k c && not (member standing c)) ≡ true
          → OfCluster k c × (member standing c ≡ false)
      own c m q =
          let w = both_true (of_cluster u k c) (not (member standing c)) (rw m at q) in
          (of-cluster k c w.0, not-true (member standing c) w.1)
