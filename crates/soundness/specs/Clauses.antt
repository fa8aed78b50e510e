-- Which gates are sound: document 01's definition as one test, a clause of it under each of its sentences.
-- Assumes nothing.
use Rattle.std.specs.Prelude.{ℕ, ◌^◌, Bool, true, not, ◌&&◌, ◌||◌, List, ◌++◌, eqb, ltb, leb, length, get_or, drop}
use Rattle.rules.specs.Limits.{max_clusters, max_size, max_clients, max_cap, max_tidy, max_charge, max_deadline}
use Rattle.rules.specs.Lists.{heads}
use Rattle.rules.specs.Refusals.{accepted}
use Rattle.rules.specs.Setup as rules
use Rattle.rules.specs.Setup.{real_time, setup_answer}
use Rattle.rules.specs.State as state
use Rattle.rules.specs.State.{State, idle, front, best, spent, tidying, cap_of}
use Rattle.rules.specs.Queues.{waits}
use Rattle.rules.specs.Sound.{queued}
use Rattle.sets.specs.Sets.{member}
use Rattle.places.specs.Places.{unpad, used_first}
use Rattle.gate.specs.declared.Line.{Line}
use Rattle.gate.specs.declared.Setup.{Setup}
use Rattle.gate.specs.declared.Gate.{Gate}
use Rattle.gate.specs.Shown.{setup_of, state_of, blank_line}
use Rattle.places.specs.Tests.{every, all_below, zeros, distinct}
use Rattle.soundness.specs.Tests.{joined, set_in, first_in}

-- THE SETUP

-- Client rows past N, and sizes past K, are zero.
unfoldable pub is_trimmed : Setup → Bool
is_trimmed v =
    zeros (drop v.clusters v.sizes)
    && (zeros (drop v.clients v.kinds)
    && (zeros (drop v.clients v.homes) && zeros (drop v.clients v.priorities)))

-- The setup would be accepted. L and W are numbers of 16 bits.
unfoldable pub setup_sound : Setup → Bool
setup_sound v =
    (eqb (setup_answer (setup_of v)) accepted && (leb v.cap max_cap && leb v.tidy max_tidy)) && is_trimmed v

-- LINES AND QUEUES

-- So many places, and used places come first.
unfoldable pub laid : ℕ → List ℕ → Bool
laid n q = eqb (length q) n && used_first q

-- No client is in two places: nobody stands twice in a line or the background queue, and whoever is in a waiting
-- room, or in service and no front, stands in none of them. Lines past K are empty.
abbrev pub everyone : (ℕ → List ℕ) → List ℕ → List ℕ
everyone lines background = joined lines 0 max_clusters ++ background

module _ (u : rules.Setup) where
  -- below N and real-time
  abbrev pub is_real : ℕ → Bool
  is_real c = ltb c u.clients && real_time u c

  -- and of cluster k
  abbrev pub of_cluster : ℕ → ℕ → Bool
  of_cluster k c = is_real c && eqb (u.cluster c) k

  -- below N and best-effort
  abbrev pub of_background : ℕ → Bool
  of_background c = ltb c u.clients && not (real_time u c)

  -- A line: at most m clients, below N, real-time and of that cluster. Sizes past K are zero, so lines there are
  -- empty.
  unfoldable pub line_sound : ℕ → List ℕ → Bool
  line_sound k q = laid max_size q && (leb (length (unpad q)) (u.size k) && every (of_cluster k) (unpad q))

  unfoldable pub lines_sound : List Line → Bool
  lines_sound ls =
      eqb (length ls) max_clusters && all_below max_clusters (λ (k : ℕ). line_sound k (get_or ls k blank_line).places)

  -- Only best-effort clients, below N, are in the background queue.
  unfoldable pub background_sound : List ℕ → Bool
  background_sound q = laid max_clients q && every of_background (unpad q)

  -- WAITING ROOMS

  -- c is not in the room of k; or it is below N, real-time, of that cluster, and stands in no line or queue: is not
  -- in the set of everyone who does
  abbrev pub may_wait : ℕ → ℕ → ℕ → ℕ → Bool
  may_wait k room standing c = not (member room c) || (of_cluster k c && not (member standing c))

  -- A room holds only numbers below N, and of them only such clients. It is empty unless its line is full.
  unfoldable pub room_sound : ℕ → ℕ → List ℕ → ℕ → Bool
  room_sound standing k line room =
      ltb room (2 ^ u.clients)
      && (all_below u.clients (may_wait k room standing) && (eqb room 0 || leb (u.size k) (length line)))

  unfoldable pub rooms_sound : ℕ → (ℕ → List ℕ) → List ℕ → Bool
  rooms_sound standing lines rooms =
      eqb (length rooms) max_clusters
      && all_below max_clusters (λ (k : ℕ). room_sound standing k (lines k) (get_or rooms k 0))

  -- THE GLOBAL QUEUE

  -- It holds only fronts that are not in service and whose cluster isn't blocked, once each, and each of them.
  unfoldable pub global_sound : State → List ℕ → Bool
  global_sound s q =
      (laid max_clusters q && every (λ (c : ℕ). ltb c u.clients && queued u s c) (unpad q))
      && (distinct (unpad q)
      && all_below u.clusters (λ (k : ℕ). first_in (queued u s) (set_in (unpad q)) (s.lines k)))

  -- THE SERVER

  -- Idle: nobody waits, and 0 units served. No line is full then, so the waiting rooms are empty too.
  -- A front in service is the front of its line. A best-effort client in service is in no queue. A spent client is
  -- real-time, and neither in a line nor in its waiting room. Tidying: nobody is in service, and anybody may wait.
  abbrev pub server_sound : ℕ → State → state.Server → Bool
  server_sound standing s idle = eqb s.units 0 && eqb standing 0
  server_sound standing s (front c) = ltb c u.clients && heads c (s.lines (u.cluster c))
  server_sound standing s (best c) = of_background c && not (member standing c)
  server_sound standing s (spent c) = is_real c && (not (member standing c) && not (s.room c))
  server_sound standing s tidying = true

  -- CHARGES

  -- No charge is over 33,554,431; best-effort charges and those past N are 0.
  abbrev pub charge_sound : ℕ → ℕ → Bool
  charge_sound c n = leb n max_charge && (is_real c || eqb n 0)

  unfoldable pub charges_sound : List ℕ → Bool
  charges_sound q =
      eqb (length q) max_clients && all_below max_clients (λ (c : ℕ). charge_sound c (get_or q c 0))

  -- DEADLINES

  -- A deadline has 32 bits. It is 0 unless the setup goes by deadlines and c waits, in its line or its waiting room.
  abbrev pub deadline_sound : State → ℕ → ℕ → Bool
  deadline_sound s c n = leb n max_deadline && (eqb n 0 || (u.timed && waits u s c))

  -- So it is 0 for every spent and best-effort client and past N.
  unfoldable pub deadlines_sound : State → List ℕ → Bool
  deadlines_sound s q =
      eqb (length q) max_clients && all_below max_clients (λ (c : ℕ). deadline_sound s c (get_or q c 0))

  -- ALL OF THEM

  -- Who stands in a line or the background queue, and that nobody stands there twice.
  unfoldable pub stand_sound : List Line → List ℕ → List ℕ → Bool
  stand_sound lines background all = lines_sound lines && (background_sound background && distinct all)

  -- The rest, with the set of everyone who stands in a line or queue. Units served are at most L; while the server
  -- tidies they are the units tidied, at most W, and L doesn't bound them.
  unfoldable pub rest_sound : Gate → State → ℕ → Bool
  rest_sound g s standing =
      rooms_sound standing s.lines g.rooms
      && (global_sound s g.global
      && (server_sound standing s s.server
      && (leb s.units (cap_of u s.server)
      && (charges_sound g.charges && deadlines_sound s g.deadlines))))

-- A gate is sound if its setup is, and its places and its state are.
unfoldable pub sound_of : Gate → Bool
sound_of g =
    setup_sound g.setup
    && (stand_sound (setup_of g.setup) g.lines g.background
    (everyone (state_of g).lines (state_of g).background)
    && rest_sound (setup_of g.setup) g (state_of g) (set_in (everyone (state_of g).lines (state_of g).background)))
