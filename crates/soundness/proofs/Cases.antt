-- The definition, tried on gates that are written out: each case computes. Document 01's setup, K = 1, m = 1, L = 10
-- and four clients, the last of them best-effort: the gate after invoke 3, 2 and 1, and that with one thing wrong.
-- Where it takes two clusters, client 2 is of the second. W is 20, or 5 where that is said. It goes by priorities.
-- Assumes nothing.
use Prim.Native.Nat.{ℕ, suc}
use mathlib.Core.Path.{◌≡◌, refl}
use mathlib.Core.Bool.{Bool, true, false, cond}
use mathlib.Core.List.{List, [], ◌∷◌}
use lib.Dec.{eqb, ltb}
use lib.ListN.{get_or}
use Rattle.rules.specs.Setup.{setup_answer}
use Rattle.rules.specs.State.{fresh}
use Rattle.sets.specs.Sets.{member, set_of}
use Rattle.places.specs.Places.{pad, unpad, used_first, holds_only}
use Rattle.gate.specs.declared.Setup.{Setup}
use Rattle.gate.specs.declared.Server.{Server}
use Rattle.gate.specs.declared.Server.TheVariants.{Idle, Front, Best, Spent, Tidying}
use Rattle.gate.specs.declared.Gate.{Gate}
use Rattle.gate.specs.Shown.{state_of, shown, table, client}
use Rattle.places.specs.Tests.{every, all_below, distinct}
use Rattle.soundness.specs.Tests.{joined, set_in, first_in}
use Rattle.soundness.specs.Clauses.{sound_of, setup_sound, is_trimmed, laid, line_sound, lines_sound}
use Rattle.soundness.specs.Clauses.{background_sound, room_sound, rooms_sound, global_sound, charges_sound}
use Rattle.soundness.specs.Clauses.{deadlines_sound, stand_sound, rest_sound}

-- W, K and the sizes, the cluster of client 2, and the priority of the row past N
abbrev capped : ℕ → ℕ → List ℕ → ℕ → ℕ → Setup
capped w n sizes home p = record {
  clusters = n;
  clients = 4;
  cap = 10;
  tidy = w;
  timed = false;
  sizes = table 8 (λ (k : ℕ). get_or sizes k 0);
  kinds = table 64 (λ (c : ℕ). cond (eqb c 3) 1 0);
  homes = table 64 (λ (c : ℕ). cond (eqb c 2) home 0);
  priorities = table 64 (λ (c : ℕ). cond (ltb c 3) (suc c) (cond (eqb c 4) p 0));
}

abbrev clustered : ℕ → List ℕ → ℕ → ℕ → Setup
clustered n sizes home p = capped 20 n sizes home p

-- of one cluster: its size, and the priority of the row past N
abbrev setup : ℕ → ℕ → Setup
setup m p = clustered 1 (m ∷ []) 0 p

abbrev pub line : List ℕ → List ℕ
line l = pad 8 l

abbrev pub queue : List ℕ → List ℕ
queue l = pad 64 l

-- of setup v: the first lines and rooms, the queues, the server with its units, and the charge of one client
abbrev gate_with : Setup → List (List ℕ) → List ℕ → List ℕ → List ℕ → Server → ℕ → ℕ → ℕ → Gate
gate_with v lines rooms global background server units c charge = record {
  setup = v;
  lines = table 8 (λ (k : ℕ). record { places = get_or lines k (line []) });
  rooms = table 8 (λ (k : ℕ). get_or rooms k 0);
  global = global;
  background = background;
  server = server;
  units = units;
  charges = table 64 (λ (d : ℕ). cond (eqb d c) charge 0);
  deadlines = table 64 (λ (d : ℕ). 0);
}

-- with the line and room of cluster 0 alone
abbrev pub gate : Setup → List ℕ → ℕ → List ℕ → List ℕ → Server → ℕ → ℕ → ℕ → Gate
gate v l room global background server units c charge =
    gate_with v (l ∷ []) (room ∷ []) global background server units c charge

-- client 2 is the front, 1 waits, 3 is served
abbrev pub usual : Setup → List ℕ → ℕ → List ℕ → List ℕ → Gate
usual v l room global background = gate v l room global background (Best (client 3)) 10 1 30

-- nobody waits
abbrev pub still : Server → ℕ → ℕ → ℕ → Gate
still server units c charge = gate (setup 1 0) (line []) 0 (line []) (queue []) server units c charge

abbrev pub ok : Setup
ok = setup 1 0

-- two clusters, with client 2 in the second
abbrev pair : Setup
pair = clustered 2 (1 ∷ 1 ∷ []) 1 0

-- 3 is served
abbrev two : List (List ℕ) → List ℕ → List ℕ → Gate
two lines rooms global = gate_with pair lines rooms global (queue []) (Best (client 3)) 10 1 30

-- one cluster, and a line and a room past it; 3 is served
abbrev past : List ℕ → ℕ → Gate
past l room =
    gate_with ok (line (2 ∷ []) ∷ l ∷ []) (0 ∷ room ∷ []) (line (2 ∷ [])) (queue []) (Best (client 3)) 10 1 30

-- it tidies: with the fronts of both clusters; with nobody waiting and a W of 5
abbrev tidies : List ℕ → Gate
tidies global = gate_with pair (line (0 ∷ []) ∷ line (2 ∷ []) ∷ []) (2 ∷ []) global (queue (3 ∷ [])) Tidying 20 1 30

abbrev tidies_briefly : ℕ → Gate
tidies_briefly units = gate (capped 5 1 (1 ∷ []) 0 0) (line []) 0 (line []) (queue []) Tidying units 1 30

abbrev pub Tells : Gate → Bool → Type 0
Tells g b = sound_of g ≡ b

sound-gates :
    Tells (shown ok fresh) true
    × Tells (usual ok (line (2 ∷ [])) 2 (line (2 ∷ [])) (queue [])) true
    × Tells (gate ok (line (2 ∷ [])) 2 (line []) (queue (3 ∷ [])) (Front (client 2)) 10 1 30) true
    × Tells (gate ok (line (1 ∷ [])) 0 (line []) (queue (3 ∷ [])) (Spent (client 2)) 10 1 30) true
    × Tells (still Idle 0 2 33554431) true × Tells (past (line []) 0) true
    × Tells (two (line (0 ∷ []) ∷ line (2 ∷ []) ∷ []) (2 ∷ []) (line (0 ∷ 2 ∷ []))) true
unfolding setup_answer member set_of pad unpad used_first holds_only state_of shown table every all_below distinct joined
    set_in first_in sound_of setup_sound is_trimmed laid line_sound lines_sound background_sound room_sound rooms_sound
    global_sound charges_sound deadlines_sound stand_sound rest_sound
sound-gates = (refl, refl, refl, refl, refl, refl, refl)

unsound-gates :
    -- the setup: a size of 0; a row past N, and a size past K, that is not zero
    Tells (shown (setup 0 0) fresh) false × Tells (shown (setup 1 7) fresh) false
    × Tells (shown (clustered 1 (1 ∷ 1 ∷ []) 0 0) fresh) false
    -- a line of nine places; a gap in a line; a number past N; a line longer than m; a best-effort client in a line;
    -- a client of another cluster; a line past K
    × Tells (usual ok (255 ∷ line []) 0 (line []) (queue [])) false
    × Tells (usual ok (line (255 ∷ 2 ∷ [])) 0 (line []) (queue [])) false
    × Tells (usual ok (line (4 ∷ [])) 0 (line (4 ∷ [])) (queue [])) false
    × Tells (usual ok (line (2 ∷ 1 ∷ [])) 0 (line (2 ∷ [])) (queue [])) false
    × Tells (gate ok (line (3 ∷ [])) 0 (line []) (queue []) (Front (client 3)) 0 1 30) false
    × Tells (two (line (2 ∷ []) ∷ []) [] (line [])) false × Tells (past (line (1 ∷ [])) 0) false
    -- behind an unused place, somebody in the global queue, and in the background queue
    × Tells (usual ok (line (2 ∷ [])) 2 (line (2 ∷ 255 ∷ 1 ∷ [])) (queue [])) false
    × Tells (usual ok (line (2 ∷ [])) 2 (line (2 ∷ [])) (queue (255 ∷ 3 ∷ []))) false
    -- a real-time client in the background queue; a room not empty while the line is not full
    × Tells (usual ok (line (2 ∷ [])) 0 (line (2 ∷ [])) (queue (1 ∷ []))) false
    × Tells (usual (setup 2 0) (line (2 ∷ [])) 2 (line (2 ∷ [])) (queue [])) false
    -- in a room: a number past N; a client of another cluster; a client where there is no cluster
    × Tells (usual ok (line (2 ∷ [])) 16 (line (2 ∷ [])) (queue [])) false
    × Tells (two (line (0 ∷ []) ∷ []) (4 ∷ []) (line (0 ∷ []))) false × Tells (past (line []) 2) false
    -- in a line and a room; twice in a line; twice in the background queue; in it and served
    × Tells (usual ok (line (2 ∷ [])) 4 (line (2 ∷ [])) (queue [])) false
    × Tells (usual (setup 2 0) (line (2 ∷ 2 ∷ [])) 0 (line (2 ∷ [])) (queue [])) false
    × Tells (gate ok (line (2 ∷ [])) 2 (line []) (queue (3 ∷ 3 ∷ [])) (Front (client 2)) 10 1 30) false
    × Tells (usual ok (line (2 ∷ [])) 2 (line (2 ∷ [])) (queue (3 ∷ []))) false
    -- a front missing in the global queue, or there twice; one who is no front
    × Tells (usual ok (line (2 ∷ [])) 2 (line []) (queue [])) false
    × Tells (usual ok (line (2 ∷ [])) 2 (line (2 ∷ 2 ∷ [])) (queue [])) false
    × Tells (usual ok (line (2 ∷ [])) 2 (line (2 ∷ 1 ∷ [])) (queue [])) false
    -- the front of a blocked cluster, and the one in service, in the global queue
    × Tells (gate ok (line (1 ∷ [])) 0 (line (1 ∷ [])) (queue []) (Spent (client 2)) 10 1 30) false
    × Tells (gate ok (line (2 ∷ [])) 2 (line (2 ∷ [])) (queue []) (Front (client 2)) 10 1 30) false
    -- idle: someone waits, units are left
    × Tells (gate ok (line []) 0 (line []) (queue (3 ∷ [])) Idle 0 1 30) false × Tells (still Idle 1 1 30) false
    -- a best-effort client spent, a real-time one served as best-effort, one past N
    × Tells (still (Spent (client 3)) 0 1 30) false × Tells (still (Best (client 2)) 0 1 30) false
    × Tells (still (Best (client 4)) 0 1 30) false
    -- units over L; a charge over the limit, of a best-effort client, past N
    × Tells (still (Best (client 3)) 11 1 30) false × Tells (still Idle 0 2 33554432) false
    × Tells (still Idle 0 3 1) false × Tells (still Idle 0 4 1) false
unfolding setup_answer member set_of pad unpad used_first holds_only state_of shown table every all_below distinct joined
    set_in first_in sound_of setup_sound is_trimmed laid line_sound lines_sound background_sound room_sound rooms_sound
    global_sound charges_sound deadlines_sound stand_sound rest_sound
unsound-gates = (
  refl,
  refl,
  refl,
  refl,
  refl,
  refl,
  refl,
  refl,
  refl,
  refl,
  refl,
  refl,
  refl,
  refl,
  refl,
  refl,
  refl,
  refl,
  refl,
  refl,
  refl,
  refl,
  refl,
  refl,
  refl,
  refl,
  refl,
  refl,
  refl,
  refl,
  refl,
  refl,
  refl,
  refl,
  refl,
)

tidying-gates :
    -- nobody waits: units from none up to W, past L too, and past W
    Tells (still Tidying 0 1 30) true × Tells (still Tidying 11 1 30) true × Tells (still Tidying 20 1 30) true
    × Tells (still Tidying 21 1 30) false
    -- a W below L bounds them alone
    × Tells (tidies_briefly 5) true × Tells (tidies_briefly 6) false
    -- W has 16 bits
    × Tells (shown (capped 65535 1 (1 ∷ []) 0 0) fresh) true × Tells (shown (capped 65536 1 (1 ∷ []) 0 0) fresh) false
    -- L bounds those of a service, whatever W is
    × Tells (still (Best (client 3)) 10 1 30) true × Tells (still (Best (client 3)) 20 1 30) false
    -- somebody waits: best-effort; a front, in the global queue or missing there; two fronts, in either order, or one
    -- of them missing; one who is no front
    × Tells (gate ok (line []) 0 (line []) (queue (3 ∷ [])) Tidying 0 1 30) true
    × Tells (gate ok (line (2 ∷ [])) 2 (line (2 ∷ [])) (queue (3 ∷ [])) Tidying 20 1 30) true
    × Tells (gate ok (line (2 ∷ [])) 2 (line []) (queue (3 ∷ [])) Tidying 20 1 30) false
    × Tells (tidies (line (0 ∷ 2 ∷ []))) true × Tells (tidies (line (2 ∷ 0 ∷ []))) true
    × Tells (tidies (line (2 ∷ []))) false × Tells (tidies (line (0 ∷ 2 ∷ 1 ∷ []))) false
unfolding setup_answer member set_of pad unpad used_first holds_only state_of shown table every all_below distinct joined
    set_in first_in sound_of setup_sound is_trimmed laid line_sound lines_sound background_sound room_sound rooms_sound
    global_sound charges_sound deadlines_sound stand_sound rest_sound
tidying-gates = (
  refl,
  refl,
  refl,
  refl,
  refl,
  refl,
  refl,
  refl,
  refl,
  refl,
  refl,
  refl,
  refl,
  refl,
  refl,
  refl,
  refl,
)
