-- The line that tells what an event did: `INDEX ANSWER F0 F1 .. F7`, a field a context after the event.
-- Assumes nothing.
use Rattle.std.specs.Prelude.{ℕ, zero, suc, ◌+◌, ◌*◌, List, [], ◌∷◌, ◌++◌}
use Rattle.text.specs.Text.{lf, space, max_digits, decimal}
use Rattle.group_rules.specs.declared.Group.{Group}
use Rattle.group_rules.specs.Limits.{max_contexts}
use Rattle.group_rules.specs.Blocking.{Delegate, nobody, server, context, delegate_of}

-- A space, and: `.` for a context that isn't queued; `+S` for one that is committed, S being the server of its current
-- request; `<B` for one that isn't, B being the context that blocks it directly.
abbrev pub field_text : Delegate → List ℕ
field_text nobody = space ∷ 46 ∷ []
field_text (server s) = space ∷ 43 ∷ decimal s
field_text (context b) = space ∷ 60 ∷ decimal b

-- the fields of the first n contexts
unfoldable pub first_fields : Group → ℕ → List ℕ
first_fields g zero = []
first_fields g (suc n) = first_fields g n ++ field_text (delegate_of g n)

abbrev pub fields_text : Group → List ℕ
fields_text g = first_fields g max_contexts

unfoldable pub event_text : ℕ → ℕ → Group → List ℕ
event_text index answer g = decimal index ++ space ∷ decimal answer ++ fields_text g ++ lf ∷ []

-- `malformed LINE`
unfoldable pub malformed_text : ℕ → List ℕ
malformed_text line = (109 ∷ 97 ∷ 108 ∷ 102 ∷ 111 ∷ 114 ∷ 109 ∷ 101 ∷ 100 ∷ space ∷ []) ++ decimal line ++ lf ∷ []

-- ROOM

-- the most bytes of a field, of all fields, and of a line
abbrev pub field_bytes : ℕ
field_bytes = max_digits + 2

abbrev pub fields_bytes : ℕ
fields_bytes = max_contexts * field_bytes

abbrev pub line_bytes : ℕ
line_bytes = 2 * (max_digits + 1) + fields_bytes
