-- What is held of a line is enough, if no more of it is looked at; and one step of a part: a line that ends in it, or
-- does not.
-- Assumes nothing.
use Prim.Native.Nat.{ℕ, suc, ◌+◌, ◌-◌, ◌<◌}
use native.Mathlib.Omega.{arith}
use mathlib.Core.Path.{◌≡◌, sym, ap, ◌∙◌}
use mathlib.Core.List.{List, [], ◌∷◌, ◌++◌}
use lib.Dec.{eqb}
use lib.ListN.{length, take, drop, length-drop, drop_of_length-le}
use lib.Seq.{take_all, take-take, drop-drop}
use Rattle.rules.proofs.Tests.{by-test}
use Rattle.text.specs.Text.{lf}
use Rattle.text.proofs.Firsts.{held_on}
use Rattle.fields.specs.Fields.{field_length, EndsAt}
use Rattle.lines.specs.Input.{held_to, read_from, Enough, leads_to}
use Rattle.lines.proofs.Input.{no_line, line-then}

-- of what is held the same is held again
held-again : {S : Type 0} (size : ℕ) (t : S) (s : List ℕ)
    → held_to size (record { state = t; rest = take size s }) ≡ held_to size (record { state = t; rest = s })
held-again size t s =
    ap (λ (x : List ℕ). record { state = t; rest = x }) (take-take size size s (omega arith))

module _ {S : Type 0} (taken : S → List ℕ → S) (size : ℕ) where
  -- WHAT IS HELD IS ENOUGH

  pub held-read : Enough taken size → (t : S) (begun s : List ℕ)
      → held_to size (read_from taken t (take size begun) s) ≡ held_to size (read_from taken t begun s)
  held-read enough t begun [] = held-again size t begun
  held-read enough t begun (b ∷ s) =
      by-test (eqb b lf)
      (λ y. rw y (ap (λ (u : S). held_to size (read_from taken u [] s)) (enough t begun)))
      (λ n. let more = b ∷ [] in
      rw n (
      sym (held-read enough t (take size begun ++ more) s)
      ∙ ap (λ (u : List ℕ). held_to size (read_from taken t u s)) (held_on size begun more)
      ∙ held-read enough t (begun ++ more) s
      ))

  -- ON TO THE END OF A LINE, OR OF THE PART

  -- k bytes are held after those of the part up to e
  module _ (t : S) (n : ℕ) (room : List ℕ) (at : ℕ) {part : List ℕ} (after : List ℕ) {e : ℕ} (k : ℕ)
      (ends : EndsAt lf part at e)
      (full : length room ≡ size)
      (holds : take k after ≡ take (length room) (take n room ++ take (e - at) (drop at part))) where
    long : e - at ≡ field_length lf (drop at part)
    long = omega (arith, ends.ends)

    held : take k after ≡ take size (take n room ++ take (e - at) (drop at part))
    held = holds ∙ ap (λ (m : ℕ). take m (take n room ++ take (e - at) (drop at part))) full

    pub at-end : e ≡ length part → leads_to taken size t k after e part ≡ leads_to taken size t n room at part
    at-end last =
        let begun = take n room in
        let left = drop at part in
        let whole : field_length lf left ≡ length left = omega (arith, ends.ends, length-drop at part) in
        let bytes : take (e - at) left ≡ left = take_all (e - at) left (omega (arith, long, whole)) in
        let all = begun ++ left in
        let first = held ∙ ap (λ (x : List ℕ). take size (begun ++ x)) bytes in
        ap (λ (x : List ℕ). held_to size (read_from taken t (take k after) x))
        (drop_of_length-le part {i = e} (omega arith))
        ∙ ap (λ (x : List ℕ). held_to size (record { state = t; rest = x })) first
        ∙ held-again size t all
        ∙ ap (held_to size) (sym (no_line taken t begun left whole))

    pub at-line : Enough taken size → e < length part → (u : S) → u ≡ taken t (take k after)
        → leads_to taken size u 0 after (e + 1) part ≡ leads_to taken size t n room at part
    at-line enough more u is =
        let begun = take n room in
        let left = drop at part in
        let line = take (field_length lf left) left in
        let there : field_length lf left < length left = omega (arith, ends.ends, length-drop at part) in
        let same : u ≡ taken t (begun ++ line)
        = is
        ∙ ap (taken t) (held ∙ ap (λ (m : ℕ). take size (begun ++ take m left)) long)
        ∙ enough t (begun ++ line) in
        let past : e + 1 ≡ at + suc (field_length lf left) = omega (arith, ends.ends) in
        let next : drop (e + 1) part ≡ drop (suc (field_length lf left)) left
        = ap (λ (m : ℕ). drop m part) past
        ∙ sym (drop-drop (suc (field_length lf left)) at part) in
        ap (λ (x : S). held_to size (read_from taken x [] (drop (e + 1) part))) same
        ∙ ap (λ (x : List ℕ). held_to size (read_from taken (taken t (begun ++ line)) [] x)) next
        ∙ ap (held_to size) (sym (line-then taken t begun left there))
