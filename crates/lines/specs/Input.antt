-- An input of bytes as lines, each ended by an LF, whatever a line makes of what was read before it.
-- Assumes nothing.
use Rattle.std.specs.Prelude.{ℕ, ◌-◌, ◌≡◌, cond, List, [], ◌∷◌, ◌++◌, eqb, length, take, drop, replicate}
use Rattle.text.specs.Text.{lf}

-- what the lines that were read have come to, and the bytes of one that has begun
pub record Read (S : Type 0) : Type 0 where
  pub state : S
  pub rest : List ℕ

-- what is held of it: of the line that has begun no more bytes than have room
abbrev pub held_to : {S : Type 0} → ℕ → Read S → Read S
held_to size r = record { state = r.state; rest = take size r.rest }

-- a room with some bytes in it: zeros behind them
abbrev pub room_with : ℕ → List ℕ → List ℕ
room_with size s = s ++ replicate (size - length s) 0

module _ {S : Type 0} (taken : S → List ℕ → S) where
  -- An LF ends the line that has begun, and is no byte of it. Any other byte is one more of that line.
  abbrev pub read_from : S → List ℕ → List ℕ → Read S
  read_from t begun [] = record { state = t; rest = begun }
  read_from t begun (b ∷ s) = cond (eqb b lf) (read_from (taken t begun) [] s) (read_from t (begun ++ (b ∷ [])) s)

  -- no line is looked at past its first bytes
  abbrev pub Enough : ℕ → Type 0
  Enough size = (t : S) (s : List ℕ) → taken t (take size s) ≡ taken t s

  -- What the rest of a part leads to: the first n bytes of a room are held, and those before a place of the part were
  -- passed.
  abbrev pub leads_to : ℕ → S → ℕ → List ℕ → ℕ → List ℕ → Read S
  leads_to size t n room at part = held_to size (read_from t (take n room) (drop at part))
