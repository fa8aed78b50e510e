-- What a program says of what can't be read or written.
-- Assumes nothing.
use Rattle.std.specs.Prelude.{ℕ, List, [], ◌∷◌, ◌++◌, codes}
use Rattle.streams.specs.declared.Failure.{Failure}
use Rattle.streams.specs.declared.Failure.TheVariants.{Unread, Unwritten}

-- a line of text, with its LF
abbrev pub line_of : Failure → List ℕ
line_of Unread = codes "cannot read the input" ++ (10 ∷ [])
line_of Unwritten = codes "cannot write the output" ++ (10 ∷ [])
