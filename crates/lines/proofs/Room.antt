-- A room: the bytes that are held in it, and zeros behind them.
-- Assumes nothing.
use Prim.Native.Nat.{ℕ, ◌+◌, ◌-◌, ◌≤◌}
use native.Mathlib.Omega.{arith}
use mathlib.Core.Path.{◌≡◌, refl, sym, ap, ◌∙◌}
use mathlib.Core.List.{List, ◌++◌}
use lib.ListN.{length, take, drop, replicate, length-replicate, replicate-append-replicate}
use lib.Seq.{take_at, drop_at}
use Rattle.text.specs.Text.{Wrote}
use Rattle.lines.specs.Input.{room_with}

-- as many bytes as there are, are those that are held
pub room-held : (size : ℕ) (s : List ℕ) → take (length s) (room_with size s) ≡ s
room-held size s = take_at s (replicate (size - length s) 0) (length s) refl

drop-replicate : (b n k : ℕ) → n ≤ k → drop n (replicate k b) ≡ replicate (k - n) b
drop-replicate b n k h =
    let whole : k ≡ n + (k - n) = omega arith in
    ap (λ (m : ℕ). drop n (replicate m b)) whole
    ∙ ap (drop n) (sym (replicate-append-replicate n (k - n) b))
    ∙ drop_at (replicate n b) (replicate (k - n) b) n (length-replicate n b)

-- zeros with bytes written over them
pub room-written : (size : ℕ) (s : List ℕ) {fresh : List ℕ} {end : ℕ} → length s ≤ size
    → Wrote s (replicate size 0) fresh end → fresh ≡ room_with size s
room-written size s few w =
    let start : 0 + length s ≡ length s = omega arith in
    w.bytes
    ∙ ap (λ (k : ℕ). s ++ drop k (replicate size 0)) start
    ∙ ap (λ (x : List ℕ). s ++ x) (drop-replicate 0 (length s) size few)
