-- `form::line::put_answer` meets its contract: three numbers, each behind what was written before.
-- Assumes nothing.
use Prim.Native.Nat.{ℕ}
use native.Mathlib.Omega.{arith}
use mathlib.Core.Path.{◌≡◌, ap, ◌∙◌, subst}
use mathlib.Core.List.{List, [], ◌∷◌, ◌++◌, append_assoc}
use Rattle.text.specs.Text.{lf, space, decimal, WroteAt}
use Rattle.text.proofs.Written.{wrote_on}
use Rattle.form.specs.Output.{line}
use Rattle.form.proofs.line.put_answer.Goals as goal

-- three numbers, a space after each of the first two, an LF after the last
joined : (b a p : List ℕ)
    → ((((b ++ (space ∷ [])) ++ a) ++ (space ∷ [])) ++ p) ++ (lf ∷ []) ≡ b ++ space ∷ a ++ space ∷ p ++ lf ∷ []
joined b a p = simp append_assoc

pub returns : goal.returns
returns c =
    let start = c.args in
    let budget = decimal c.tell-q.result.budget in
    let answer = decimal c.tell-q.result.answer in
    let place = decimal c.tell-q.result.place in
    let w = c.put_number-i.ensures.wrote_at in
    let w = wrote_on w (omega arith) c.put_byte-j.ensures in
    let w = wrote_on w (omega arith) c.put_number-k.ensures.wrote_at in
    let w = wrote_on w (omega arith) c.put_byte-l.ensures in
    let w = wrote_on w (omega arith) c.put_number-m.ensures.wrote_at in
    let w = wrote_on w (omega arith) c.put_byte.ensures in
    let text = joined budget answer place
    ∙ ap line c.tell-q.ensures in record {
      wrote_at =
          subst (λ (x : List ℕ). WroteAt start.at x start.out.now c.put_byte.new.out c.put_byte.result) text w;
      upper_bound = omega (arith, c.put_byte.ensures.ends, c.put_number-m.ensures.upper_bound);
    }
