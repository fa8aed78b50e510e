-- A gate's parts: the setup, the queues with the one in service, the charges, the deadlines; and the gate of them.
-- Assumes nothing.
use Rattle.std.specs.Prelude.{ℕ, Bool, cond, List, set}
use Rattle.gate.specs.declared.Line.{Line}
use Rattle.gate.specs.declared.Server.{Server}
use Rattle.parts.specs.declared.Service.{Service}
use Rattle.gate.specs.declared.Setup.{Setup}
use Rattle.parts.specs.declared.Queues.{Queues}
use Rattle.gate.specs.declared.Gate.{Gate}
use Rattle.gate.specs.Shown.{table}
use Rattle.rules.specs.Limits.{max_clients}

abbrev pub service : Server → ℕ → Service
service x n = record { server = x; units = n }

abbrev pub queues : List Line → List ℕ → List ℕ → List ℕ → Service → Queues
queues ls rs gl bg y = record { lines = ls; rooms = rs; global = gl; background = bg; service = y }

abbrev pub queues_of : Gate → Queues
queues_of g = queues g.lines g.rooms g.global g.background (service g.server g.units)

abbrev pub gate_of : Setup → Queues → List ℕ → List ℕ → Gate
gate_of v q cs ds = record {
  setup = v;
  lines = q.lines;
  rooms = q.rooms;
  global = q.global;
  background = q.background;
  server = q.service.server;
  units = q.service.units;
  charges = cs;
  deadlines = ds;
}

-- THE KEYS

-- what each client's rank goes by: the deadlines, or else the priorities
abbrev pub keys_in : Bool → List ℕ → List ℕ → List ℕ
keys_in timed ps ds = cond timed ds ps

-- the deadlines in such a column: under priorities all are 0
abbrev pub deadlines_in : Bool → List ℕ → List ℕ
deadlines_in timed ks = cond timed ks (table max_clients (λ (c : ℕ). 0))

-- THE QUEUES WITH ONE PART CHANGED

-- other places in the line of k
abbrev pub put_line : ℕ → List ℕ → Queues → Queues
put_line k l q = queues (set q.lines k (record { places = l })) q.rooms q.global q.background q.service

-- another set in the room of k
abbrev pub put_room : ℕ → ℕ → Queues → Queues
put_room k w q = queues q.lines (set q.rooms k w) q.global q.background q.service

-- other places in the global queue
abbrev pub put_global : List ℕ → Queues → Queues
put_global l q = queues q.lines q.rooms l q.background q.service

-- other places in the background queue
abbrev pub put_background : List ℕ → Queues → Queues
put_background l q = queues q.lines q.rooms q.global l q.service

-- another one in service, with the units served
abbrev pub put_server : Server → ℕ → Queues → Queues
put_server x n q = queues q.lines q.rooms q.global q.background (service x n)
