-- A reply and the ready after it, from what the reply answers.
-- Assumes nothing.
use Prim.Native.Nat.{ℕ}
use mathlib.Core.List.{List}
use mathlib.Core.Path.{◌∙◌, ◌≡◌, ap, sym}
use borrow.Author.Tests.{ne_eqb}
use Rattle.rules.specs.Events.{reply}
use Rattle.rules.specs.Limits.{max_clients}
use Rattle.rules.specs.Queues.{pick}
use Rattle.rules.specs.Records.{known, reply_ready, step_of}
use Rattle.rules.specs.Refusals.{accepted}
use Rattle.rules.specs.State.{State}
use Rattle.rules.specs.Step.{answer, next, step_by}
use Rattle.rules.proofs.Charge.{pick-charge}
use Rattle.rules.proofs.FirstVersion.{reply-picks}
use Rattle.gate.proofs.Tables.{table_same}
use Rattle.gate.specs.Shown.{setup_of}
use Rattle.gate.specs.declared.Setup.{Setup}
use Rattle.parts.specs.Shows.{ShowsQueues}
use Rattle.parts.specs.declared.Queues.{Queues}
use Rattle.answers.specs.Answers.{Answers, number_of}
use Rattle.answers.specs.declared.Answer.TheVariants as is
use Rattle.answers.specs.declared.Outcome.{Outcome}
use Rattle.answers.proofs.Only.{one_answer}
use Rattle.calls.proofs.Keys.{pick-keys}

module _ {v : Setup} {s : State} {r : Outcome} {cs ks : List ℕ} (a : Answers v s (known reply) r cs ks) where
  -- accepted: what the reply leaves, and the pick
  pub both-accepted : r.answer ≡ is.Accepted → {q : Queues}
      → ShowsQueues v (pick (step_of (setup_of v) s (known reply))) q
      → Answers v s reply_ready (record { answer = r.answer; queues = q }) cs ks
  unfolding step_by
  both-accepted e h =
      let fits : answer (setup_of v) s reply ≡ accepted = sym a.number ∙ ap number_of e in
      let t = step_of (setup_of v) s (known reply) in
      let ends : t ≡ next (setup_of v) s reply = rw fits in
      let w : step_of (setup_of v) s reply_ready ≡ pick t = reply-picks (setup_of v) s fits ∙ sym (ap pick ends) in
      record {
        number = a.number;
        queues = rw w h;
        charges = rw w (a.charges ∙ table_same max_clients t.charge _ (λ c b.
            sym (ap (λ (f : ℕ → ℕ). f c) (pick-charge t))));
        keys = rw w (pick-keys a.keys);
      }

  -- refused: what the reply leaves
  pub both-refused : (r.answer ≡ is.Accepted → ⊥) → Answers v s reply_ready r cs ks
  both-refused n =
      let out = ne_eqb (answer (setup_of v) s reply) accepted (λ z. n (one_answer r.answer is.Accepted (a.number ∙ z))) in
      record {
        number = a.number;
        queues = rw out a.queues;
        charges = rw out a.charges;
        keys = rw out a.keys;
      }
