-- What is told at the end of an input, by what was read and held of it.
-- Assumes nothing.
use Prim.Native.Nat.{ℕ, zero, suc, ◌<◌}
use native.Mathlib.Omega.{arith}
use mathlib.Core.Path.{◌≡◌, refl}
use mathlib.Core.Bool.{true, false}
use mathlib.Core.List.{List, [], ◌∷◌}
use lib.ListN.{length, take}
use Rattle.text.specs.Text.{next_count}
use Rattle.group_tells.specs.Tells.{malformed_text}
use Rattle.group_lines.specs.declared.Run.{Run}
use Rattle.group_lines.specs.Reading.{end_text}
use Rattle.group_lines.specs.Parts.{room_bytes}

-- what is held of a last line shows whether there is one
pub end-held : (run : Run) (s : List ℕ) → end_text run (take room_bytes s) ≡ end_text run s
end-held run [] = refl
end-held run (b ∷ s) = refl

-- nothing after a malformed line, and nothing if no line has begun
pub end-malformed : (run : Run) → run.malformed ≡ true → (s : List ℕ) → end_text run s ≡ []
end-malformed run e [] = refl
end-malformed run e (b ∷ s) = rw e

pub end_none : (run : Run) (room : List ℕ) (n : ℕ) → n ≡ 0 → end_text run (take n room) ≡ []
end_none run room n e = rw e

-- else the number of the line that has begun
pub end-begun : (run : Run) → run.malformed ≡ false → (room : List ℕ) (n : ℕ) → (n ≡ 0 → ⊥) → 0 < length room
    → end_text run (take n room) ≡ malformed_text (next_count run.lines)
end-begun run on room zero some h = absurd (some refl)
end-begun run on [] (suc n) some h = absurd (omega arith)
end-begun run on (b ∷ room) (suc n) some h = rw on
