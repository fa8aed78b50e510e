-- A group's events out of an input of lines: what each line makes of what was read before it, and what is told of it.
-- Assumes nothing.
use Rattle.std.specs.Prelude.{ℕ, true, false, cond, List, [], ◌∷◌, ◌++◌}
use Rattle.std.proofs.Math.Option.{Option, some, none}
use Rattle.text.specs.Text.{next_count}
use Rattle.lines.specs.Input.{Read, read_from}
use Rattle.group_rules.specs.Groups.{none_entered}
use Rattle.group_rules.specs.Events.{Event, answer_of, step_of}
use Rattle.group_says.specs.Says.{says}
use Rattle.group_tells.specs.Tells.{event_text, malformed_text}
use Rattle.group_lines.specs.declared.Run.{Run}

-- ONE LINE

-- by what it says: an event is the next one, on the group as it is; a malformed line is the last that is read
abbrev pub after_said : Run → Option Event → Run
after_said run none = record {
  group = run.group;
  events = run.events;
  lines = next_count run.lines;
  malformed = true;
}
after_said run (some e) = record {
  group = step_of run.group e;
  events = next_count run.events;
  lines = next_count run.lines;
  malformed = false;
}

abbrev pub said_text : Run → Option Event → List ℕ
said_text run none = malformed_text (next_count run.lines)
said_text run (some e) = event_text run.events (answer_of run.group e) (step_of run.group e)

unfoldable pub after_line : Run → List ℕ → Run
after_line run s = cond run.malformed run (after_said run (says s))

unfoldable pub line_text : Run → List ℕ → List ℕ
line_text run s = cond run.malformed [] (said_text run (says s))

-- A WHOLE INPUT

-- what has been read, and all that was told of it
pub record Progress : Type 0 where
  pub run : Run
  pub text : List ℕ

abbrev pub taken : Progress → List ℕ → Progress
taken p s = record { run = after_line p.run s; text = p.text ++ line_text p.run s }

-- before an input: the group that nobody has entered
abbrev pub none_read : Run
none_read = record { group = none_entered; events = 0; lines = 0; malformed = false }

-- The input has ended, some bytes behind its last LF: a line without LF is malformed.
abbrev pub end_text : Run → List ℕ → List ℕ
end_text run [] = []
end_text run (b ∷ rest) = cond run.malformed [] (malformed_text (next_count run.lines))

abbrev pub told : Read Progress → List ℕ
told r = r.state.text ++ end_text r.state.run r.rest

-- all that is told of an input
abbrev pub report : List ℕ → List ℕ
report s = told (read_from taken (record { run = none_read; text = [] }) [] s)
