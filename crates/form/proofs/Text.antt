-- The order that is held, without a CR at its end.
-- Assumes nothing.
use Prim.Native.Nat.{ℕ, ◌-◌, ◌≤◌, ◌<◌}
use native.Mathlib.Omega.{arith}
use mathlib.Core.Path.{◌≡◌, sym, ◌∙◌}
use mathlib.Core.List.{List}
use lib.ListN.{length, get_or, take}
use lib.Seq.{take-take, get_or-take, length-take-le}
use borrow.Author.Tests.{eq-eqb, ne_eqb}
use Rattle.text.specs.Text.{cr}
use Rattle.form.specs.Input.{without_cr}

module _ (room : List ℕ) (k : ℕ) (fits : k ≤ length room) (some : 0 < k) where
  last_byte : get_or (take k room) (length (take k room) - 1) 0 ≡ get_or room (k - 1) 0
  last_byte = rw (length-take-le k room fits) (get_or-take k room (k - 1) 0 (omega arith))

  pub with-cr : get_or room (k - 1) 0 ≡ cr → take (k - 1) room ≡ without_cr (take k room)
  with-cr e =
      let last = eq-eqb (get_or (take k room) (length (take k room) - 1) 0) cr (last_byte ∙ e) in
      rw (last, length-take-le k room fits, take-take (k - 1) k room (omega arith))

  pub with_none : (get_or room (k - 1) 0 ≡ cr → ⊥) → take k room ≡ without_cr (take k room)
  with_none e = rw (ne_eqb (get_or (take k room) (length (take k room) - 1) 0) cr (λ y. e (sym last_byte ∙ y)))
