-- The number of each answer, and what the function of an event promises.
-- Assumes nothing.
use Rattle.std.specs.Prelude.{ℕ, ◌≡◌, List}
use Rattle.rules.specs.Limits.{max_clients}
use Rattle.rules.specs.Refusals.{accepted, no_client, waits_already, server_idle, run_of_none, run_past_cap}
use Rattle.rules.specs.Refusals.{not_waiting, best_effort, spent_already, unknown_record, unsound, not_tidying}
use Rattle.rules.specs.State.{State}
use Rattle.rules.specs.Events.{Event}
use Rattle.rules.specs.Records.{Heard, known, answer_of, step_of}
use Rattle.rules.specs.Sound.{Sound}
use Rattle.gate.specs.declared.Setup.{Setup}
use Rattle.parts.specs.declared.Queues.{Queues}
use Rattle.gate.specs.Shown.{setup_of, table}
use Rattle.parts.specs.Shows.{ShowsKeys, ShowsQueues}
use Rattle.answers.specs.declared.Answer.{Answer}
use Rattle.answers.specs.declared.Answer.TheVariants as is
use Rattle.answers.specs.declared.Outcome.{Outcome}

-- Each case's number, by the rules' names.
abbrev pub number_of : Answer → ℕ
number_of is.Accepted = accepted
number_of is.NoClient = no_client
number_of is.WaitsAlready = waits_already
number_of is.ServerIdle = server_idle
number_of is.RunOfNone = run_of_none
number_of is.RunPastCap = run_past_cap
number_of is.NotWaiting = not_waiting
number_of is.BestEffort = best_effort
number_of is.SpentAlready = spent_already
number_of is.Unknown = unknown_record
number_of is.Unsound = unsound
number_of is.NotTidying = not_tidying

-- The parts of a gate of setup v, with the charges cs and the keys ks, that show the sound state s.
pub record Holds (v : Setup) (s : State) (q : Queues) (cs ks : List ℕ) : Type 0 where
  pub queues : ShowsQueues v s q
  pub charges : cs ≡ table max_clients s.charge
  pub keys : ShowsKeys v s ks
  pub sound : Sound (setup_of v) s

-- r answers what is heard as the rules do in the state s, and its queues, with the charges cs and the keys ks, show the
-- state after.
pub record Answers (v : Setup) (s : State) (x : Heard) (r : Outcome) (cs ks : List ℕ) : Type 0 where
  pub number : number_of r.answer ≡ answer_of (setup_of v) s x
  pub queues : ShowsQueues v (step_of (setup_of v) s x) r.queues
  pub charges : cs ≡ table max_clients (step_of (setup_of v) s x).charge
  pub keys : ShowsKeys v (step_of (setup_of v) s x) ks

-- So it is in every sound state that the queues q, charges cs and keys ks show, of a setup of which p holds; cs' and
-- ks' are the charges and keys after.
abbrev pub Hearing : (Setup → Type 0) → Heard → Queues → List ℕ → List ℕ → Outcome → List ℕ → List ℕ → Type 0
Hearing p x q cs ks r cs' ks' = (v : Setup) (s : State) → p v → Holds v s q cs ks → Answers v s x r cs' ks'

-- The promise of an event's function.
abbrev pub Answering : (Setup → Type 0) → Event → Queues → List ℕ → List ℕ → Outcome → List ℕ → List ℕ → Type 0
Answering p e = Hearing p (known e)
