-- The same of an input that comes in parts: what is told of each, and what is held between them.
-- Assumes nothing.
use Rattle.std.specs.Prelude.{ℕ, suc, List, [], ◌∷◌, ◌++◌, length, take}
use Rattle.lines.specs.Lines.{max_line}
use Rattle.lines.specs.Input.{Read, held_to, room_with, read_from, leads_to}
use Rattle.group_lines.specs.declared.Run.{Run}
use Rattle.group_lines.specs.declared.Held.{Held}
use Rattle.group_lines.specs.declared.Standing.{Standing}
use Rattle.group_lines.specs.Reading.{Progress, none_read, taken, end_text}

-- Room for a line of the most bytes, and one byte more: of what is longer no more need be held to be malformed.
abbrev pub room_bytes : ℕ
room_bytes = suc max_line

-- what was read of a part, with the line that has begun in a room, and how much was told
abbrev pub stored : Read Progress → Held
stored r = record {
  run = r.state.run;
  room = room_with room_bytes r.rest;
  n = length r.rest;
  used = length r.state.text;
}

-- what is held: of the line that has begun no more than has room
abbrev pub held_of : Read Progress → Held
held_of r = stored (held_to room_bytes r)

-- the bytes of a line that are held
abbrev pub begun_in : Held → List ℕ
begun_in h = take h.n h.room

-- what has been read, and the text told so far: the first bytes of a buffer
abbrev pub progress_in : Run → ℕ → List ℕ → Progress
progress_in run used out = record { run = run; text = take used out }

-- the same where reading stands in a part, with the first bytes of a room held
abbrev pub reading_in : Standing → List ℕ → List ℕ → Read Progress
reading_in s out room = record { state = progress_in s.run s.used out; rest = take s.n room }

-- what the rest of a part leads to from where reading stands in it
abbrev pub leads : Standing → List ℕ → List ℕ → List ℕ → Read Progress
leads s out room part = leads_to taken room_bytes (progress_in s.run s.used out) s.n room s.at part

-- before an input
abbrev pub none_held : Held
none_held = held_of (record { state = record { run = none_read; text = [] }; rest = [] })

-- one more part, of which nothing is told yet, after the bytes of a line that has begun
abbrev pub part_from : Run → List ℕ → List ℕ → Read Progress
part_from run begun part = read_from taken (record { run = run; text = [] }) begun part

abbrev pub read_in : Held → List ℕ → Read Progress
read_in h part = part_from h.run (begun_in h) part

abbrev pub part_read : Held → List ℕ → Held
part_read h part = held_of (read_in h part)

-- what is told of it
abbrev pub part_text : Held → List ℕ → List ℕ
part_text h part = (read_in h part).state.text

-- what is told of parts, one after the other, each from what was held after the one before, and of the end
abbrev pub output : Held → List (List ℕ) → List ℕ
output h [] = end_text h.run (begun_in h)
output h (part ∷ parts) = part_text h part ++ output (part_read h part) parts
