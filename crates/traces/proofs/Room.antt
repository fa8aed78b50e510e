-- The room: the bytes of a line that are held in it, and zeros behind them.
-- Assumes nothing.
use Prim.Native.Nat.{ℕ, ◌+◌, ◌-◌, ◌≤◌}
use native.Mathlib.Omega.{arith}
use mathlib.Core.Path.{◌≡◌, refl, sym, ap, ◌∙◌}
use mathlib.Core.List.{List, ◌++◌}
use lib.ListN.{length, take, drop, replicate, length-replicate, replicate-append-replicate}
use lib.Seq.{take_all, take_at, drop_at}
use Rattle.text.specs.Text.{Wrote}
use Rattle.lines.specs.Input.{Read}
use Rattle.tracing.specs.declared.Trace.{Trace}
use Rattle.traces.specs.Reading.{room_bytes, room_with, stored, held_of, begun_in}

-- the bytes of a line that are held
pub held-begun : (r : Read Trace) → begun_in (held_of r) ≡ take room_bytes r.rest
held-begun r =
    let s = take room_bytes r.rest in take_at s (replicate (room_bytes - length s) 0) (length s) refl

drop-replicate : (b n k : ℕ) → n ≤ k → drop n (replicate k b) ≡ replicate (k - n) b
drop-replicate b n k h =
    let whole : k ≡ n + (k - n) = omega arith in
    ap (λ (m : ℕ). drop n (replicate m b)) whole
    ∙ ap (drop n) (sym (replicate-append-replicate n (k - n) b))
    ∙ drop_at (replicate n b) (replicate (k - n) b) n (length-replicate n b)

-- a room of zeros with the bytes of a line written over them
pub in-room : (t : Trace) (s : List ℕ) {fresh : List ℕ} {end : ℕ} (n : ℕ) → length s ≡ n → n ≤ room_bytes
    → Wrote s (replicate room_bytes 0) fresh end
    → record { trace = t; room = fresh; n = n } ≡ held_of (record { state = t; rest = s })
in-room t s {fresh} {end} n long few w =
    let all : take room_bytes s ≡ s = take_all room_bytes s (omega arith) in
    let start : 0 + length s ≡ length s = omega arith in
    let same : fresh ≡ room_with s
    = w.bytes
    ∙ ap (λ (k : ℕ). s ++ drop k (replicate room_bytes 0)) start
    ∙ ap (λ (x : List ℕ). s ++ x) (drop-replicate 0 (length s) room_bytes (omega arith)) in
    ap (λ (x : List ℕ). record { trace = t; room = x; n = n }) same
    ∙ ap (λ (k : ℕ). record { trace = t; room = room_with s; n = k }) (sym long)
    ∙ ap (λ (x : List ℕ). stored (record { state = t; rest = x })) (sym all)
