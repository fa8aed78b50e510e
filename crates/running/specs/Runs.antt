-- A run and the last of it, as their functions promise them: of all queues with what they read of those that are lent.
-- Assumes nothing.
use Rattle.std.specs.Prelude.{ℕ, ◌≡◌, cond, List}
use Rattle.rules.specs.Limits.{max_clients}
use Rattle.rules.specs.Refusals.{accepted, unsound}
use Rattle.rules.specs.Setup as rules
use Rattle.rules.specs.State.{State}
use Rattle.rules.specs.Rank.{outranks}
use Rattle.rules.specs.Events.{ran, run}
use Rattle.rules.specs.Step.{overcharges}
use Rattle.gate.specs.declared.Line.{Line}
use Rattle.gate.specs.declared.Setup.{Setup}
use Rattle.parts.specs.declared.Queues.{Queues}
use Rattle.parts.specs.declared.Service.{Service}
use Rattle.parts.specs.Parts.{put_server}
use Rattle.gate.specs.Shown.{setup_of, table}
use Rattle.parts.specs.Shows.{ShowsKeys, ShowsQueues}
use Rattle.answers.specs.declared.Outcome.{Outcome}
use Rattle.answers.specs.Answers.{Answering, Holds, number_of}
use Rattle.running.specs.declared.Ran.{Ran}

-- what is left of a run of n: nothing where a charge would pass its limit, else the run
abbrev pub runs : rules.Setup → ℕ → State → State
runs u n s = cond (overcharges u (outranks u s) s n) s (ran u (outranks u s) n s)

-- r answers the last of a run of n: 19 for the charge, or the run. Its queues, with the charges cs and the keys ks,
-- show what is left.
pub record Charges (v : Setup) (s : State) (n : ℕ) (r : Outcome) (cs ks : List ℕ) : Type 0 where
  pub number : number_of r.answer ≡ cond (overcharges (setup_of v) (outranks (setup_of v) s) s n) unsound accepted
  pub queues : ShowsQueues v (runs (setup_of v) n s) r.queues
  pub charges : cs ≡ table max_clients (runs (setup_of v) n s).charge
  pub keys : ShowsKeys v (runs (setup_of v) n s) ks

-- the queues q, with the service after a run, and its answer
abbrev pub outcome : Queues → Ran → Outcome
outcome q r = record { queues = put_server r.service.server r.service.units q; answer = r.answer }

-- The promises of the two functions, for all queues with these lines, rooms and service: so it is in every sound state
-- that the queues, the charges cs and the keys ks show, of a setup of which p holds; cs' are the charges after, and the
-- keys stay.
abbrev pub Charging : (Setup → Type 0) → ℕ → List Line → List ℕ → Service → List ℕ → List ℕ → Ran → List ℕ → Type 0
Charging p n lines rooms y cs ks r cs' =
    (q : Queues) → q.lines ≡ lines → q.rooms ≡ rooms → q.service ≡ y → (v : Setup) (s : State) → p v
    → Holds v s q cs ks → Charges v s n (outcome q r) cs' ks

abbrev pub Running : (Setup → Type 0) → ℕ → List Line → List ℕ → Service → List ℕ → List ℕ → Ran → List ℕ → Type 0
Running p n lines rooms y cs ks r cs' =
    (q : Queues) → q.lines ≡ lines → q.rooms ≡ rooms → q.service ≡ y
    → Answering p (run n) q cs ks (outcome q r) cs' ks
