-- A text written over a buffer, byte by byte and text behind text.
-- Assumes nothing.
use Prim.Native.Nat.{ℕ, suc, ◌+◌, ◌≤◌, ◌<◌}
use native.Mathlib.Nat.{add-zero}
use native.Mathlib.Numerals.{add-one}
use native.Mathlib.Omega.{arith}
use mathlib.Core.Path.{◌≡◌, sym, ap, ◌∙◌}
use mathlib.Core.List.{List, [], ◌∷◌, ◌++◌, append_assoc, append-nil}
use lib.ListN.{length, get_or, take, drop, set, length-append, length-drop, take-append-drop}
use lib.Seq.{drop_at, drop-cons, drop-drop, drop-append-add, take_at, take-set-le, length-take-le}
use lib.Seq.{set_at, set_split, append_snoc}
use Rattle.text.specs.Text.{written, WroteAt, Wrote}

module _ (out s : List ℕ) (at : ℕ) (fits : at + length s ≤ length out) where
  abbrev front : List ℕ
  front = take at out ++ s

  abbrev end : ℕ
  end = at + length s

  length_front : length front ≡ end
  length_front = length-append (take at out) s ∙ ap (λ (n : ℕ). n + length s) (length-take-le at out (omega arith))

  first : take end (written out at s) ≡ front
  first = take_at front (drop end out) end length_front

  -- text behind text
  pub written_on : (t : List ℕ) → written (written out at s) end t ≡ written out at (s ++ t)
  written_on t =
      let rest = drop (end + length t) out in
      let same = ap (λ (n : ℕ). drop (n + length t) (front ++ drop end out)) (sym length_front)
      ∙ drop-append-add front (drop end out) (length t)
      ∙ drop-drop (length t) end out in
      let long : end + length t ≡ at + length (s ++ t) = omega (arith, length-append s t) in
      ap (λ (x : List ℕ). (x ++ t) ++ drop (end + length t) (written out at s)) first
      ∙ ap (λ (x : List ℕ). (front ++ t) ++ x) same
      ∙ ap (λ (x : List ℕ). x ++ rest) (append_assoc (take at out) s t)
      ∙ ap (λ (n : ℕ). (take at out ++ (s ++ t)) ++ drop n out) long

  -- a byte behind a text
  behind : (b : ℕ) → front ++ (b ∷ drop (suc end) out) ≡ written out at (s ++ (b ∷ []))
  behind b =
      let rest = drop (suc end) out in
      let long : suc end ≡ at + length (s ++ (b ∷ [])) = omega (arith, length-append s (b ∷ [])) in
      sym (append_snoc front b rest)
      ∙ ap (λ (x : List ℕ). x ++ rest) (append_assoc (take at out) s (b ∷ []))
      ∙ ap (λ (n : ℕ). (take at out ++ (s ++ (b ∷ []))) ++ drop n out) long

  -- the byte is written after the text
  pub byte-on : (b : ℕ) → end < length out → set (written out at s) end b ≡ written out at (s ++ (b ∷ []))
  byte-on b h =
      ap (λ (x : List ℕ). set (front ++ x) end b) (drop-cons out end 0 h)
      ∙ set_at front (get_or out end 0) (drop (suc end) out) b end length_front
      ∙ behind b

  -- the byte is written before the text
  pub byte-before : (b : ℕ) → end < length out → written (set out end b) at s ≡ written out at (s ++ (b ∷ []))
  byte-before b h =
      let split = ap (λ (x : List ℕ). drop end x) (set_split out end b h)
      ∙ drop_at (take end out) (b ∷ drop (suc end) out) end (length-take-le end out fits) in
      ap (λ (x : List ℕ). (x ++ s) ++ drop end (set out end b)) (take-set-le at out end b (omega arith))
      ∙ ap (λ (x : List ℕ). front ++ x) split
      ∙ behind b

-- a byte alone
pub byte-at : (out : List ℕ) (at b : ℕ) → at < length out → set out at b ≡ written out at (b ∷ [])
byte-at out at b h =
    rw add-one (set_split out at b h ∙ sym (append_snoc (take at out) b (drop (suc at) out)))

pub written_none : (out : List ℕ) (at : ℕ) → written out at [] ≡ out
written_none out at = rw (add-zero, append-nil) (take-append-drop at out)

-- TEXT BEHIND TEXT

pub wrote_none : (at : ℕ) (start : List ℕ) → WroteAt at [] start start at
wrote_none at start = record { ends = omega arith; bytes = sym (written_none start at) }

-- a text behind what was written
pub wrote_on : {at : ℕ} {text start out : List ℕ} {n : ℕ} → WroteAt at text start out n → n ≤ length start
    → {t after : List ℕ} {k : ℕ} → WroteAt n t out after k → WroteAt at (text ++ t) start after k
wrote_on {at} {text} {start} {out} {n} w h {t} {after} {k} z =
    record {
      ends = omega (arith, length-append text t, w.ends, z.ends);
      bytes =
          z.bytes
          ∙ ap (λ (x : List ℕ). written x n t) w.bytes
          ∙ ap (λ (m : ℕ). written (written start at text) m t) w.ends
          ∙ written_on start text at (omega (arith, w.ends)) t;
    }

-- the buffer keeps its length
pub wrote-length : {at : ℕ} {text start out : List ℕ} {n : ℕ} → WroteAt at text start out n → n ≤ length start
    → length out ≡ length start
wrote-length {at} {text} {start} {out} {n} w h =
    ap length w.bytes
    ∙ length-append (take at start ++ text) (drop (at + length text) start)
    ∙ omega (
      arith,
      length-append (take at start) text,
      length-take-le at start (omega (arith, w.ends)),
      length-drop (at + length text) start,
      w.ends,
    )

-- what was written ends within the buffer
pub wrote-ends : {at : ℕ} {text start out : List ℕ} {n : ℕ} → WroteAt at text start out n → at ≤ length start
    → n ≤ length out
wrote-ends {at} {text} {start} {out} {n} w h =
    omega (
      arith,
      ap length w.bytes ∙ length-append (take at start ++ text) (drop (at + length text) start),
      length-append (take at start) text,
      length-take-le at start h,
      w.ends,
    )

-- what was written from the start of a buffer on stands there
pub wrote-stands : {text start out : List ℕ} {n : ℕ} → Wrote text start out n → take n out ≡ text
wrote-stands {text} {start} {out} {n} w =
    ap (take n) w.bytes ∙ take_at text (drop (0 + length text) start) n (omega (arith, w.ends))
