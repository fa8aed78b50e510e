-- What a line makes of a trace: nothing once it is decided, and of a line that is too long no more need be held than
-- shows that it is.
-- Assumes nothing.
use Prim.Native.Nat.{ℕ, suc}
use mathlib.Core.Path.{◌≡◌}
use mathlib.Core.Bool.{true, false}
use mathlib.Core.List.{List}
use Rattle.text.specs.Text.{space}
use Rattle.lines.specs.Lines.{max_line, values_of}
use Rattle.lines.specs.Input.{Enough}
use Rattle.lines.proofs.Long.{first-enough}
use Rattle.tracing.specs.declared.Trace.{Trace}
use Rattle.tracing.specs.Tracing.{is_decided, letter_of, taken_in, counted, taken}

pub decided-stays : (t : Trace) (l : List ℕ) → is_decided t ≡ true → taken t l ≡ t
unfolding taken
decided-stays t l e = rw e

pub taken-on : (t : Trace) (l : List ℕ) → is_decided t ≡ false
    → taken t l ≡ taken_in t.stage (counted t) (values_of (letter_of t.stage) space l)
unfolding taken
taken-on t l e = rw e

pub held-enough : Enough taken (suc max_line)
unfolding taken
held-enough t l = rw (first-enough (letter_of t.stage) space l)
