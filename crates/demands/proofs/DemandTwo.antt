-- Demand 2: which rule decides. From any sound gate an event leaves exactly what the rules give, and a quoted budget is
-- exactly the formula.
-- Assumes nothing.
use mathlib.Core.Path.{◌≡◌, sym, ap, ap₂, ◌∙◌}
use mathlib.Core.Bool.{true}
use Rattle.rules.specs.Refusals.{accepted}
use Rattle.rules.specs.Records.{Heard, answer_of, step_of}
use Rattle.rules.specs.Quote.{Order, budget_of, accepted_quote, quote, Fits}
use Rattle.rules.proofs.Theorems.{accepted-exactly}
use Rattle.gate.specs.declared.Gate.{Gate}
use Rattle.gate.specs.Shown.{setup_of, shown}
use Rattle.soundness.specs.Clauses.{sound_of}
use Rattle.soundness.specs.Form.{ShowsSound}
use Rattle.soundness.proofs.Exact.{sound-exact}
use Rattle.answers.specs.declared.Answer.{Answer}
use Rattle.step.specs.declared.Answered.{Answered}
use Rattle.answers.proofs.Only.{one_answer}
use Rattle.step.specs.Stepped.{Result, told_in, stepped}
use Rattle.step.proofs.Shown.{step-shown}

-- SOUND GATES

-- A gate is sound if it is the padded form of a sound state of the rules over its own setup: `ShowsSound`, by the
-- rules' own `Sound`. The test that the doors make says exactly that.
pub test-exact : (g : Gate) → (sound_of g ≡ true → ShowsSound g) × (ShowsSound g → sound_of g ≡ true)
test-exact = sound-exact

module _ (g : Gate) (s : ShowsSound g) (x : Heard) where
  ruled : stepped g x
      ≡ record {
        number = answer_of (setup_of g.setup) s.state x;
        gate = shown g.setup (step_of (setup_of g.setup) s.state x);
      }
  ruled = ap (λ (y : Gate). stepped y x) s.form ∙ step-shown g.setup s.state x s.sound

  -- The gate after it is the shown form of the state that the rules give ..
  pub leaves : (stepped g x).gate ≡ shown g.setup (step_of (setup_of g.setup) s.state x)
  leaves = ap (λ (t : Result). t.gate) ruled

  -- .. and the number is the rules' own, so that it is refused exactly when they say so.
  pub answers : (stepped g x).number ≡ answer_of (setup_of g.setup) s.state x
  answers = ap (λ (t : Result). t.number) ruled

-- No second answer fits the promise of a step, whatever the gate.
pub one-answer-fits : (g : Gate) (x : Heard) (r t : Answered)
    → told_in r ≡ stepped g x → told_in t ≡ stepped g x → r ≡ t
one-answer-fits g x r t e q =
    let same = e ∙ sym q in
    ap₂ (λ (a : Answer) (h : Gate). record { answer = a; gate = h })
    (one_answer r.answer t.answer (ap (λ (y : Result). y.number) same))
    (ap (λ (y : Result). y.gate) same)

-- THE QUOTE

-- An order is accepted exactly if none of 32, 30 and 31 applies (`Fits`), and then its budget is the formula.
pub quoted-exactly : (o : Order)
    → ((quote o).answer ≡ accepted → Fits o) × (Fits o → quote o ≡ accepted_quote (budget_of o))
quoted-exactly = accepted-exactly
