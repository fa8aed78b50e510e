-- How long an input gets, and the text that is printed of it.
-- Assumes nothing.
use Rattle.std.specs.Prelude.{ℕ, ◌+◌, ◌*◌, ◌/◌}
use Rattle.text.specs.Text.{max_digits}
use Rattle.layout.specs.Layout.{max_log, record_size}

-- THE INPUT

-- the largest room
abbrev pub max_room : ℕ
max_room = 65535

-- the digits of that
abbrev pub room_digits : ℕ
room_digits = 5

-- a room, an LF, and a log that is a byte too long
abbrev pub input_bytes : ℕ
input_bytes = room_digits + 1 + max_log + 1

-- no more records begin in an input: those of version 1 are as short as any
abbrev pub most_records : ℕ
most_records = input_bytes / record_size 1 + 1

-- THE TEXT

-- a line: two numbers of any size, and a byte after each
abbrev pub line_bytes : ℕ
line_bytes = 2 * (max_digits + 1)

-- the line of a buffer: two digits a byte, and an LF
abbrev pub buffer_bytes : ℕ → ℕ
buffer_bytes room = 2 * room + 1

-- the answer to the tables, those to the records, how many bytes were written, and the buffer
abbrev pub text_bytes : ℕ
text_bytes = line_bytes * (1 + most_records + 1) + buffer_bytes max_room
