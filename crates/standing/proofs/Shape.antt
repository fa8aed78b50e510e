-- What holding a line, and an array of lines, tells of their lengths.
-- Assumes nothing.
use Prim.Native.Nat.{ℕ, zero, suc, ◌<◌}
use mathlib.Core.Path.{◌≡◌}
use mathlib.Core.List.{List, [], ◌∷◌}
use native.Mathlib.Nat.{not-suc-le-zero, le_of_suc-le-suc}
use lib.ListN.{length, get_or}
use mir.Val.{Val}
use denote.Laws.{Is}
use denote.Array.{each, Array}
use denote.Shadow.{shadow}
use denote.Struct.Declared.{row}
use Rattle.gate.specs.declared.Line.{Line}
use Rattle.gate.specs.contracts.Line.{the_type}

pub line-length : (l : Line) (vs : List Val) → Is (row the_type) l vs → length l.places ≡ 8
line-length l vs h = h.1.1.0.1.0.1

each-length : (ls : List Line) (us : List Val) (i : ℕ) (d : Line) → i < length ls
    → shadow (each Line (row the_type).own_val ls us) → length (get_or ls i d).places ≡ 8
each-length [] us i d l p = absurd (not-suc-le-zero l)
each-length (x ∷ xs) [] i d l p = absurd p
each-length (x ∷ xs) (u ∷ us) zero d l p = line-length x (u ∷ []) p.0
each-length (x ∷ xs) (u ∷ us) (suc i) d l p = each-length xs us i d (le_of_suc-le-suc l) p.1

module _ (ls : List Line) (n : ℕ) (vs : List Val) (h : Is (Array (row the_type) n) ls vs) where
  pub lines-length : length ls ≡ n
  lines-length = h.1.0.1

  pub lines-each : (i : ℕ) (d : Line) → i < length ls → length (get_or ls i d).places ≡ 8
  lines-each i d l = each-length ls h.0 i d l h.1.1
