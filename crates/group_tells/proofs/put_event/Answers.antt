-- `group_tells::put_event` meets its contract: two numbers, the fields and an LF, each behind what was written before.
-- Assumes nothing.
use native.Mathlib.Omega.{arith}
use mathlib.Core.Path.{◌≡◌, subst}
use mathlib.Core.List.{List, [], ◌∷◌, ◌++◌, append_assoc}
use Prim.Native.Nat.{ℕ}
use Rattle.text.specs.Text.{lf, space, decimal, WroteAt}
use Rattle.text.proofs.Written.{wrote_on}
use Rattle.group_tells.specs.Tells.{fields_text, event_text}
use Rattle.group_tells.proofs.put_event.Goals as goal

joined : (i a f : List ℕ) → (((i ++ (space ∷ [])) ++ a) ++ f) ++ (lf ∷ []) ≡ i ++ space ∷ a ++ f ++ lf ∷ []
joined i a f = simp append_assoc

pub returns : goal.returns
unfolding event_text
returns c =
    let s = c.args in
    let w = c.put_number-i.ensures.wrote_at in
    let w = wrote_on w (omega arith) c.put_byte-j.ensures in
    let w = wrote_on w (omega arith) c.put_number-k.ensures.wrote_at in
    let w = wrote_on w (omega arith) c.put_fields-l.ensures.wrote_at in
    let w = wrote_on w (omega arith) c.put_byte.ensures in record {
      wrote_at = subst (λ (x : List ℕ). WroteAt s.at x s.out.now c.put_byte.new.out c.put_byte.result)
          (joined (decimal s.index) (decimal s.answer) (fields_text s.g)) w;
      upper_bound = omega (
        arith,
        c.put_byte.ensures.ends,
        c.put_fields-l.ensures.upper_bound,
        c.put_number-k.ensures.upper_bound,
        c.put_byte-j.ensures.ends,
        c.put_number-i.ensures.upper_bound,
      );
    }
