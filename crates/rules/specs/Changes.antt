-- The state with one part changed.
-- Assumes nothing.
use Rattle.std.specs.Prelude.{ℕ, Bool, List}
use Rattle.rules.specs.Lists.{upd}
use Rattle.rules.specs.State.{Server, State}

abbrev pub with_line : ℕ → List ℕ → State → State
with_line k l s = record {
  lines = upd s.lines k l;
  room = s.room;
  global = s.global;
  background = s.background;
  server = s.server;
  units = s.units;
  charge = s.charge;
  deadline = s.deadline;
}

abbrev pub with_room : ℕ → Bool → State → State
with_room c b s = record {
  lines = s.lines;
  room = upd s.room c b;
  global = s.global;
  background = s.background;
  server = s.server;
  units = s.units;
  charge = s.charge;
  deadline = s.deadline;
}

abbrev pub with_global : List ℕ → State → State
with_global g s = record {
  lines = s.lines;
  room = s.room;
  global = g;
  background = s.background;
  server = s.server;
  units = s.units;
  charge = s.charge;
  deadline = s.deadline;
}

abbrev pub with_background : List ℕ → State → State
with_background b s = record {
  lines = s.lines;
  room = s.room;
  global = s.global;
  background = b;
  server = s.server;
  units = s.units;
  charge = s.charge;
  deadline = s.deadline;
}

abbrev pub with_server : Server → ℕ → State → State
with_server v n s = record {
  lines = s.lines;
  room = s.room;
  global = s.global;
  background = s.background;
  server = v;
  units = n;
  charge = s.charge;
  deadline = s.deadline;
}

abbrev pub with_charge : (ℕ → ℕ) → State → State
with_charge f s = record {
  lines = s.lines;
  room = s.room;
  global = s.global;
  background = s.background;
  server = s.server;
  units = s.units;
  charge = f;
  deadline = s.deadline;
}

abbrev pub with_deadline : (ℕ → ℕ) → State → State
with_deadline f s = record {
  lines = s.lines;
  room = s.room;
  global = s.global;
  background = s.background;
  server = s.server;
  units = s.units;
  charge = s.charge;
  deadline = f;
}
