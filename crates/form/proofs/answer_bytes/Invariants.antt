-- `form::answer_bytes` meets its contract. The loop's invariant: the first i bytes are answered, as a part is.
-- Assumes nothing.
use Prim.Native.Nat.{◌*◌, ◌≤◌}
use mathlib.Core.Path.{◌≡◌}
use lib.ListN.{length, take}
use Rattle.form.specs.Output.{line_bytes}
use Rattle.form.specs.Parts.{room_bytes, Answered}
use Rattle.form.proofs.answer_bytes.Given as goal

abbrev pub invariant-loop-b : goal.invariant-loop-b
invariant-loop-b l =
    (length l.room ≡ room_bytes)
    × (l.used ≤ l.b-index * line_bytes)
    × Answered (take l.b-index l.part) l.initial.room l.n l.room l.initial.out 0 l.out (record { n = l.held; used = l.used })
