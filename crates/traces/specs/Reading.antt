-- A trace out of an input that comes in parts: what is held between them.
-- Assumes nothing.
use Rattle.std.specs.Prelude.{ℕ, suc, ◌-◌, List, [], ◌∷◌, ◌++◌, length, take, replicate}
use Rattle.lines.specs.Lines.{max_line}
use Rattle.lines.specs.Input.{Read, held_to, read_from, leads_to}
use Rattle.tracing.specs.declared.Trace.{Trace}
use Rattle.tracing.specs.Tracing.{none_read, taken}
use Rattle.traces.specs.declared.Held.{Held}
use Rattle.traces.specs.declared.Standing.{Standing}

-- Room for a line of the most bytes, and one byte more: of what is longer no more need be held to be malformed.
abbrev pub room_bytes : ℕ
room_bytes = suc max_line

-- the room with some bytes in it: zeros behind them
abbrev pub room_with : List ℕ → List ℕ
room_with s = s ++ replicate (room_bytes - length s) 0

-- what was read, with the line that has begun in a room
abbrev pub stored : Read Trace → Held
stored r = record { trace = r.state; room = room_with r.rest; n = length r.rest }

-- what is held: of the line that has begun no more than has room
abbrev pub held_of : Read Trace → Held
held_of r = stored (held_to room_bytes r)

-- the bytes of a line that are held
abbrev pub begun_in : Held → List ℕ
begun_in h = take h.n h.room

-- before an input
abbrev pub none_held : Held
none_held = held_of (record { state = none_read; rest = [] })

-- one more part, after what is held of its first line
abbrev pub part_read : Held → List ℕ → Held
part_read h part = held_of (read_from taken h.trace (begun_in h) part)

-- parts, one after the other, each from what was held after the one before
abbrev pub parts_read : Held → List (List ℕ) → Held
parts_read h [] = h
parts_read h (part ∷ parts) = parts_read (part_read h part) parts

-- what the rest of a part leads to from where reading stands in it
abbrev pub leads : Standing → List ℕ → List ℕ → Read Trace
leads s room part = leads_to taken room_bytes s.trace s.n room s.at part
