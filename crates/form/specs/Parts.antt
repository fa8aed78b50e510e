-- An input that comes in parts: what is written for a part and at the end of the input, and what is held between them.
-- Assumes nothing.
use Rattle.std.specs.Prelude.{ℕ, ◌+◌, min, ◌≡◌, cond, List, [], ◌∷◌, ◌++◌, map, eqb, length, take, set, replicate}
use Rattle.text.specs.Text.{lf, WroteAt}
use Rattle.order.specs.Orders.{max_bytes, asked}
use Rattle.form.specs.declared.Held.{Held}
use Rattle.form.specs.declared.Standing.{Standing}
use Rattle.form.specs.Input.{ended, behind, last}
use Rattle.form.specs.Output.{lines}

-- Room for an order of the most bytes, a CR, and one byte more: what is longer need not be held to be refused.
abbrev pub room_bytes : ℕ
room_bytes = max_bytes + 2

-- what a part adds to the bytes that are held: the first of the order that has not ended, as many as there is room for
abbrev pub held_after : List ℕ → List ℕ → List ℕ
held_after held part = take room_bytes (behind held part)

-- the room itself, byte by byte: an LF lets go of what is held; another byte is stored behind it, if there is room
abbrev pub room_after : List ℕ → ℕ → List ℕ → List ℕ
room_after room n [] = room
room_after room n (b ∷ part) =
    cond (eqb b lf) (room_after room 0 part) (room_after (set room n b) (min (n + 1) room_bytes) part)

-- nothing is held in a room of zeros, and nothing was written
abbrev pub none_held : Held
none_held = record { room = replicate room_bytes 0; n = 0; used = 0 }

-- how much is held, and how much was written
abbrev pub standing : Held → Standing
standing h = record { n = h.n; used = h.used }

-- A part is answered: a line for each order that ends in it, from a place on. The first n bytes of the room were held.
-- What is held then is what the next part goes by; `bytes` says the whole room, with what stands behind it.
pub record Answered (part room : List ℕ) (n : ℕ) (room' out : List ℕ) (at : ℕ) (out' : List ℕ) (r : Standing) : Type 0
  where
    pub text : WroteAt at (lines (map asked (ended (take n room) part))) out out' r.used
    pub count : r.n ≡ length (held_after (take n room) part)
    pub held : take r.n room' ≡ held_after (take n room) part
    pub bytes : room' ≡ room_after room (min n room_bytes) part

-- The end of the input is answered: a line for the order that it ends, if there is one.
abbrev pub EndAnswered : List ℕ → List ℕ → List ℕ → ℕ → Type 0
EndAnswered held out out' used = WroteAt 0 (lines (map asked (last held))) out out' used

-- what is written for parts, one after the other, and the end of the input behind them, after bytes that are held
abbrev pub output : List ℕ → List (List ℕ) → List ℕ
output held [] = lines (map asked (last held))
output held (part ∷ parts) = lines (map asked (ended held part)) ++ output (held_after held part) parts
