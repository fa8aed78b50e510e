-- What is told stands in a buffer, and what is held of a line in a room.
-- Assumes nothing.
use Prim.Native.Nat.{ℕ, ◌+◌, ◌-◌, ◌≤◌}
use native.Mathlib.Omega.{arith}
use mathlib.Core.Path.{◌≡◌, sym, ap, ap₂, ◌∙◌}
use mathlib.Core.List.{List, ◌++◌}
use lib.ListN.{length, take, drop, replicate, take-append-drop, length-append}
use lib.Seq.{take_all, take_at, drop_at, drop-drop, length-take-le}
use Rattle.io.specs.Counts.{IsPrefixLen}
use Rattle.text.specs.Text.{Wrote, WroteAt}
use Rattle.text.proofs.Written.{wrote-ends}
use Rattle.lines.specs.Input.{room_with}
use Rattle.lines.proofs.Room.{room-written}
use Rattle.group_lines.specs.declared.Run.{Run}
use Rattle.group_lines.specs.Reading.{after_line, line_text, Progress, taken}
use Rattle.group_lines.specs.Parts.{room_bytes, stored, held_of, progress_in}

-- THE BUFFER

module _ {at : ℕ} {text start out : List ℕ} {n : ℕ} (w : WroteAt at text start out n) (fits : n ≤ length start) where
  long : length (take at start ++ text) ≡ n
  long =
      omega (
        arith,
        length-append (take at start) text,
        length-take-le at start (omega (arith, w.ends)),
        w.ends,
      )

  -- a text that was written stands behind what stood there,
  told-on : take n out ≡ take at start ++ text
  told-on = ap (take n) w.bytes ∙ take_at (take at start ++ text) (drop (at + length text) start) n long

  -- and the rest is as it was
  pub rest-kept : drop n out ≡ drop n start
  rest-kept =
      ap (drop n) w.bytes
      ∙ drop_at (take at start ++ text) (drop (at + length text) start) n long
      ∙ ap (λ (k : ℕ). drop k start) (sym w.ends)

-- one line more, with what is told of it in the buffer
pub line_taken : (run after : Run) (s : List ℕ) {at n : ℕ} {start out : List ℕ} → after ≡ after_line run s
    → WroteAt at (line_text run s) start out n → n ≤ length start
    → progress_in after n out ≡ taken (progress_in run at start) s
line_taken run after s is w fits =
    ap₂ {C = Progress} (λ (r : Run) (t : List ℕ). record { run = r; text = t }) is (told-on w fits)

-- what is kept from a place on is kept from a later one on
pub rest-on : (n m : ℕ) (out start : List ℕ) → n ≤ m → drop n out ≡ drop n start → drop m out ≡ drop m start
rest-on n m out start h e =
    let whole : n + (m - n) ≡ m = omega arith in
    ap (λ (k : ℕ). drop k out) (sym whole)
    ∙ sym (drop-drop (m - n) n out)
    ∙ ap (drop (m - n)) e
    ∙ drop-drop (m - n) n start
    ∙ ap (λ (k : ℕ). drop k start) whole

-- what stands in front of a rest that was kept was written
pub told_wrote : (n : ℕ) (out start text : List ℕ) → n ≤ length out → drop n out ≡ drop n start
    → take n out ≡ text → Wrote text start out n
told_wrote n out start text h e is =
    let count : length text ≡ n = ap length (sym is) ∙ length-take-le n out h in
    let ends : n ≡ 0 + length text = omega arith in
    record {
      ends = ends;
      bytes =
          sym (take-append-drop n out)
          ∙ ap (λ (x : List ℕ). x ++ drop n out) is
          ∙ ap (λ (x : List ℕ). text ++ x) e
          ∙ ap (λ (k : ℕ). text ++ drop k start) ends;
    }

-- it counts bytes of the buffer
pub counted : {text start out : List ℕ} {n : ℕ} → Wrote text start out n → IsPrefixLen n out
counted {text} {start} {out} {n} w =
    let fits = wrote-ends w (omega arith) in (fits, sym (length-take-le n out fits))

-- THE ROOM

-- a room of zeros with the bytes of a line written over them
pub in-room : (p : Progress) (s : List ℕ) {fresh : List ℕ} {end : ℕ} (n used : ℕ) → length s ≡ n → n ≤ room_bytes
    → Wrote s (replicate room_bytes 0) fresh end → used ≡ length p.text
    → record { run = p.run; room = fresh; n = n; used = used } ≡ held_of (record { state = p; rest = s })
in-room p s n used long few w count =
    let all : take room_bytes s ≡ s = take_all room_bytes s (omega arith) in
    let zeros = room-written room_bytes s (omega arith) w in
    ap (λ (x : List ℕ). record { run = p.run; room = x; n = n; used = used }) zeros
    ∙ ap (λ (k : ℕ). record { run = p.run; room = room_with room_bytes s; n = k; used = used }) (sym long)
    ∙ ap (λ (k : ℕ). record { run = p.run; room = room_with room_bytes s; n = length s; used = k }) count
    ∙ ap (λ (x : List ℕ). stored (record { state = p; rest = x })) (sym all)
