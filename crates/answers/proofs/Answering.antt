-- An event that is refused leaves the parts as they were, and one that is accepted those that show the state after.
-- Assumes nothing.
use Prim.Native.Nat.{ℕ}
use mathlib.Core.List.{List}
use mathlib.Core.Path.{◌∙◌, ◌≡◌, sym}
use borrow.Author.Tests.{eq-eqb}
use Rattle.rules.specs.Events.{Event}
use Rattle.rules.specs.Limits.{max_clients}
use Rattle.rules.specs.Refusals.{accepted}
use Rattle.rules.specs.Rank.{outranks}
use Rattle.rules.specs.State.{State}
use Rattle.rules.specs.Step.{moved_by, next_by, step_by, answer, next}
use Rattle.rules.specs.Records.{Heard, known, answer_of, step_of}
use Rattle.rules.proofs.Theorems.{refused-same, sound-stays}
use Rattle.gate.specs.Shown.{setup_of, table}
use Rattle.parts.specs.Shows.{Fine, ShowsKeys, ShowsQueues}
use Rattle.parts.specs.declared.Queues.{Queues}
use Rattle.gate.specs.declared.Setup.{Setup}
use Rattle.parts.proofs.Parts.{shows-deadline}
use Rattle.parts.proofs.SoundShows.{accepted-fine}
use Rattle.answers.specs.Answers.{Answers, Holds, number_of}
use Rattle.answers.specs.declared.Answer.{Answer}
use Rattle.answers.specs.declared.Outcome.{Outcome}
use Rattle.answers.specs.declared.Answer.TheVariants as is

module _ {v : Setup} {s : State} {q : Queues} {cs ks : List ℕ} (h : Holds v s q cs ks) where
  pub fine : Fine v
  fine = accepted-fine v h.sound.setup h.sound.trimmed

  pub refuses : (x : Heard) (a : Answer) → answer_of (setup_of v) s x ≡ number_of a → (number_of a ≡ accepted → ⊥)
      → Answers v s x (record { answer = a; queues = q }) cs ks
  refuses x a z n =
      let same = refused-same (setup_of v) s x (λ y. n (sym z ∙ y)) in
      record {
        number = sym z;
        queues = rw same h.queues;
        charges = rw same h.charges;
        keys = rw same h.keys;
      }

-- parts after an answer hold the state after
pub answered-holds : {v : Setup} {s : State} {q : Queues} {cs ks : List ℕ} {x : Heard} {r : Outcome} {cs' ks' : List ℕ}
    → Holds v s q cs ks → Answers v s x r cs' ks' → Holds v (step_of (setup_of v) s x) r.queues cs' ks'
answered-holds {v} {s} {x = x} h a = record {
  queues = a.queues;
  charges = a.charges;
  keys = a.keys;
  sound = sound-stays (setup_of v) s x h.sound;
}

-- an accepted event, whose deadlines the queues don't show
pub accepts : {v : Setup} {s : State} (e : Event) {r : Queues} {cs ks : List ℕ} → answer (setup_of v) s e ≡ accepted
    → ShowsQueues v (moved_by (setup_of v) (outranks (setup_of v) s) s e) r
    → cs ≡ table max_clients (next (setup_of v) s e).charge
    → ShowsKeys v (next (setup_of v) s e) ks
    → Answers v s (known e) (record { answer = is.Accepted; queues = r }) cs ks
unfolding next_by step_by
accepts {v} {s} e z h f k =
    let w = eq-eqb (answer (setup_of v) s e) accepted z in
    record { number = sym z; queues = rw w (shows-deadline h _); charges = rw w f; keys = rw w k }
