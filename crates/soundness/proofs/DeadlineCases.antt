-- The clause of the deadlines, tried on gates that are written out: those of Cases, under deadlines and under
-- priorities, with the deadline of one client. Each case computes.
-- Assumes nothing.
use Prim.Native.Nat.{ℕ}
use mathlib.Core.Path.{refl}
use mathlib.Core.Bool.{Bool, true, false, cond}
use mathlib.Core.List.{[], ◌∷◌}
use lib.Dec.{eqb}
use Rattle.rules.specs.Setup.{setup_answer}
use Rattle.sets.specs.Sets.{member, set_of}
use Rattle.places.specs.Places.{pad, unpad, used_first, holds_only}
use Rattle.gate.specs.declared.Setup.{Setup}
use Rattle.gate.specs.declared.Server.TheVariants.{Idle, Front, Spent, Tidying}
use Rattle.gate.specs.declared.Gate.{Gate}
use Rattle.gate.specs.Shown.{state_of, table, client}
use Rattle.places.specs.Tests.{every, all_below, distinct}
use Rattle.soundness.specs.Tests.{joined, set_in, first_in}
use Rattle.soundness.specs.Clauses.{sound_of, setup_sound, is_trimmed, laid, line_sound, lines_sound}
use Rattle.soundness.specs.Clauses.{background_sound, room_sound, rooms_sound, global_sound, charges_sound}
use Rattle.soundness.specs.Clauses.{deadlines_sound, stand_sound, rest_sound}
use Rattle.soundness.proofs.Cases.{line, queue, gate, usual, still, ok, Tells}

-- the setup v, by deadlines or by priorities
abbrev by : Bool → Setup → Setup
by timed v = record {
  clusters = v.clusters;
  clients = v.clients;
  cap = v.cap;
  tidy = v.tidy;
  timed = timed;
  sizes = v.sizes;
  kinds = v.kinds;
  homes = v.homes;
  priorities = v.priorities;
}

-- the gate g so, with n deadlines: d for client c, and 0 for the others
abbrev due : Bool → ℕ → Gate → ℕ → ℕ → Gate
due timed n g c d = record {
  setup = by timed g.setup;
  lines = g.lines;
  rooms = g.rooms;
  global = g.global;
  background = g.background;
  server = g.server;
  units = g.units;
  charges = g.charges;
  deadlines = table n (λ (i : ℕ). cond (eqb i c) d 0);
}

-- client 2 is the front and in service, 1 is in the waiting room, 3 in the background queue, and 0 doesn't wait
abbrev served : Gate
served = gate ok (line (2 ∷ [])) 2 (line []) (queue (3 ∷ [])) (Front (client 2)) 10 1 30

-- client 2 is spent, and 1 the front of its line
abbrev spending : Gate
spending = gate ok (line (1 ∷ [])) 0 (line []) (queue (3 ∷ [])) (Spent (client 2)) 10 1 30

-- it tidies: client 2 is the front, 1 is in the waiting room
abbrev tidying : Gate
tidying = gate ok (line (2 ∷ [])) 2 (line (2 ∷ [])) (queue []) Tidying 20 1 30

-- under deadlines and under priorities
abbrev Timed : Gate → ℕ → ℕ → Bool → Type 0
Timed g c d b = Tells (due true 64 g c d) b

abbrev Untimed : Gate → ℕ → ℕ → Bool → Type 0
Untimed g c d b = Tells (due false 64 g c d) b

deadline-gates :
    -- of one who waits: in its line, in service or not; in the waiting room; of 32 bits, and of 33
    Timed served 2 100 true × Timed tidying 2 100 true × Timed served 1 100 true × Timed tidying 1 100 true
    × Timed served 1 4294967295 true × Timed served 1 4294967296 false
    -- 0 is a deadline too
    × Timed served 1 0 true
    -- of one who doesn't: in no queue; spent; in the background queue; served as best-effort; past N
    × Timed served 0 100 false × Timed spending 2 100 false × Timed served 3 100 false
    × Timed (usual ok (line (2 ∷ [])) 2 (line (2 ∷ [])) (queue [])) 3 100 false
    × Timed served 4 100 false × Timed served 63 1 false
    -- while nobody waits
    × Timed (still Idle 0 1 30) 1 0 true × Timed (still Idle 0 1 30) 1 1 false
    -- under priorities: of nobody, whether it waits or not
    × Untimed served 2 0 true × Untimed served 2 100 false × Untimed served 1 1 false × Untimed served 0 100 false
    -- one too few, and one too many
    × Tells (due true 63 served 1 100) false × Tells (due true 65 served 1 100) false
unfolding setup_answer member set_of pad unpad used_first holds_only state_of table every all_below distinct joined
    set_in first_in sound_of setup_sound is_trimmed laid line_sound lines_sound background_sound room_sound rooms_sound
    global_sound charges_sound deadlines_sound stand_sound rest_sound
deadline-gates = (
  refl,
  refl,
  refl,
  refl,
  refl,
  refl,
  refl,
  refl,
  refl,
  refl,
  refl,
  refl,
  refl,
  refl,
  refl,
  refl,
  refl,
  refl,
  refl,
  refl,
  refl,
)
