-- Bytes that join those which are held in a room, as many as have room.
-- Assumes nothing.
use Prim.Native.Nat.{ℕ, ◌+◌, ◌-◌, ◌≤◌, min}
use native.Mathlib.Omega.{arith}
use mathlib.Core.Path.{◌≡◌, sym, ap, ◌∙◌}
use mathlib.Core.List.{List, ◌++◌}
use lib.ListN.{length, take, drop, length-append, length-take}
use lib.Seq.{take_at, take-append-add, length-take-le}
use Rattle.text.specs.Text.{WroteAt}
use Rattle.text.proofs.Firsts.{take-least}

module _ (room more : List ℕ) {after : List ℕ} (n k : ℕ) {r : ℕ} (few : n ≤ length room)
    (most : k ≡ min (length more) (length room - n))
    (wrote : WroteAt n (take k more) room after r) where
  held-count : r ≡ n + k
  held-count = omega (arith, wrote.ends, length-take k more)

  pub held-within : r ≤ length room
  held-within = omega (arith, held-count)

  pub held_more : take r after ≡ take (length room) (take n room ++ more)
  held_more =
      let long : length (take n room) ≡ n = length-take-le n room few in
      let all = take n room ++ take k more in
      let free = length room - n in
      let whole : length (take n room) + free ≡ length room = omega arith in
      let count : length all ≡ r
      = omega (arith, length-append (take n room) (take k more), length-take k more, held-count) in
      let least : k ≡ min free (length more) = omega (arith, most) in
      let bytes : take k more ≡ take free more = ap (λ (m : ℕ). take m more) least ∙ take-least free more in
      ap (take r) wrote.bytes
      ∙ take_at all (drop (n + length (take k more)) room) r count
      ∙ ap (λ (x : List ℕ). take n room ++ x) bytes
      ∙ sym (take-append-add (take n room) more free)
      ∙ ap (λ (m : ℕ). take m (take n room ++ more)) whole
