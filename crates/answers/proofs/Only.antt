-- No second answer fits: the promise of an event's function leaves one result.
-- Assumes nothing.
use Prim.Native.Nat.{ℕ}
use mathlib.Core.Bool.{cond}
use mathlib.Core.List.{List}
use mathlib.Core.Path.{◌∙◌, ◌≡◌, ap, ap₂, refl, sym}
use lib.Dec.{eqb}
use lib.ListN.{get_or}
use Rattle.rules.specs.Records.{Heard}
use Rattle.rules.specs.Refusals.{accepted, best_effort, no_client, not_waiting, run_of_none, run_past_cap, server_idle}
use Rattle.rules.specs.Refusals.{spent_already, unknown_record, unsound, waits_already}
use Rattle.rules.specs.State.{State}
use Rattle.parts.specs.declared.Queues.{Queues}
use Rattle.gate.specs.declared.Setup.{Setup}
use Rattle.parts.proofs.Reading.{one-queues}
use Rattle.answers.specs.Answers.{Answers, number_of}
use Rattle.answers.specs.declared.Answer.{Answer}
use Rattle.answers.specs.declared.Outcome.{Outcome}
use Rattle.answers.specs.declared.Answer.TheVariants as is

-- the case of a number; of a number that no case has, any
answer_for : ℕ → Answer
answer_for n =
    cond (eqb n accepted) is.Accepted
    (cond (eqb n no_client) is.NoClient
    (cond (eqb n waits_already) is.WaitsAlready
    (cond (eqb n server_idle) is.ServerIdle
    (cond (eqb n run_of_none) is.RunOfNone
    (cond (eqb n run_past_cap) is.RunPastCap
    (cond (eqb n not_waiting) is.NotWaiting
    (cond (eqb n best_effort) is.BestEffort
    (cond (eqb n spent_already) is.SpentAlready
    (cond (eqb n unknown_record) is.Unknown
    (cond (eqb n unsound) is.Unsound
    is.NotTidying))))))))))

number-back : (a : Answer) → answer_for (number_of a) ≡ a
unfolding answer_for
number-back is.Accepted = refl
number-back is.NoClient = refl
number-back is.WaitsAlready = refl
number-back is.ServerIdle = refl
number-back is.RunOfNone = refl
number-back is.RunPastCap = refl
number-back is.NotWaiting = refl
number-back is.BestEffort = refl
number-back is.SpentAlready = refl
number-back is.Unknown = refl
number-back is.Unsound = refl
number-back is.NotTidying = refl

-- each case has a number of its own
pub one_answer : (a b : Answer) → number_of a ≡ number_of b → a ≡ b
one_answer a b e = sym (number-back a) ∙ ap answer_for e ∙ number-back b

pub one-result : {v : Setup} {s : State} {x : Heard} (r t : Outcome) {cs ds ks ls : List ℕ} → Answers v s x r cs ks
    → Answers v s x t ds ls → (r ≡ t) × (cs ≡ ds) × ((c : ℕ) → get_or ks c 0 ≡ get_or ls c 0)
one-result r t h k = (
  ap₂ (λ (a : Answer) (q : Queues). record { answer = a; queues = q })
      (one_answer r.answer t.answer (h.number ∙ sym k.number))
      (one-queues r.queues t.queues h.queues k.queues),
  h.charges ∙ sym k.charges,
  λ c. h.keys.key c ∙ sym (k.keys.key c),
)
