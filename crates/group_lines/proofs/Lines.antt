-- One line more: what is held of it is enough, after a malformed one it changes nothing, and what is told of it stands
-- behind what was told before.
-- Assumes nothing.
use Prim.Native.Nat.{ℕ}
use mathlib.Core.Path.{◌≡◌, sym, ap, ◌∙◌}
use mathlib.Core.Bool.{Bool, true, cond}
use mathlib.Core.List.{List, [], ◌∷◌, ◌++◌, append_assoc, append-nil}
use mathlib.Core.Option.{Option}
use lib.Dec.{eqb}
use Rattle.rules.proofs.Tests.{by-test}
use Rattle.text.specs.Text.{lf}
use Rattle.lines.specs.Input.{Read, read_from, Enough}
use Rattle.group_rules.specs.Events.{Event}
use Rattle.group_says.specs.Says.{says}
use Rattle.group_says.proofs.Lines.{first-enough}
use Rattle.group_lines.specs.declared.Run.{Run}
use Rattle.group_lines.specs.Reading.{after_said, said_text, after_line, line_text, Progress, taken}
use Rattle.group_lines.specs.Parts.{room_bytes}

pub held-enough : Enough taken room_bytes
unfolding after_line line_text
held-enough p s =
    ap (λ (e : Option Event). record {
      run = cond p.run.malformed p.run (after_said p.run e);
      text = p.text ++ cond p.run.malformed [] (said_text p.run e);
    }) (first-enough s)

pub malformed-stays : (p : Progress) → p.run.malformed ≡ true → (s : List ℕ) → taken p s ≡ p
unfolding after_line line_text
malformed-stays p e s =
    ap (λ (b : Bool). record {
      run = cond b p.run (after_said p.run (says s));
      text = p.text ++ cond b [] (said_text p.run (says s));
    }) e
    ∙ ap (λ (t : List ℕ). record { run = p.run; text = t }) (append-nil p.text)

-- TEXT BEHIND TEXT

-- what was read, with text told before it
abbrev pub behind : List ℕ → Read Progress → Read Progress
behind text r = record {
  state = record { run = r.state.run; text = text ++ r.state.text };
  rest = r.rest;
}

-- what is told of an input does not depend on what was told before
pub text-behind : (run : Run) (text begun s : List ℕ)
    → read_from taken (record { run = run; text = text }) begun s
    ≡ behind text (read_from taken (record { run = run; text = [] }) begun s)
text-behind run text begun [] =
    ap (λ (t : List ℕ). record { state = record { run = run; text = t }; rest = begun }) (sym (append-nil text))
text-behind run text begun (b ∷ s) =
    by-test (eqb b lf)
    (λ y. let next = after_line run begun in
    let t = line_text run begun in
    let r = read_from taken (record { run = next; text = [] }) [] s in
    rw y (
    text-behind next (text ++ t) [] s
    ∙ ap (λ (x : List ℕ). record { state = record { run = r.state.run; text = x }; rest = r.rest })
    (append_assoc text t r.state.text)
    ∙ ap (behind text) (sym (text-behind next t [] s))
    ))
    (λ n. rw n (text-behind run text (begun ++ (b ∷ [])) s))
