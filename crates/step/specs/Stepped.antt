-- A step of a gate: the number that it answers, and the gate after it.
-- Assumes nothing.
use Rattle.std.specs.Prelude.{ℕ, ◌≤◌, cond, ◌≡◌}
use Rattle.rules.specs.Limits.{max_clients, max_clusters}
use Rattle.rules.specs.Refusals.{unsound}
use Rattle.rules.specs.Records.{Heard, answer_of, step_of}
use Rattle.gate.specs.declared.Setup.{Setup}
use Rattle.parts.specs.declared.Queues.{Queues}
use Rattle.gate.specs.declared.Gate.{Gate}
use Rattle.gate.specs.Shown.{server_of, setup_of, state_of, shown}
use Rattle.parts.specs.Shows.{Homes, ServerFits}
use Rattle.soundness.specs.Clauses.{sound_of}
use Rattle.answers.specs.Answers.{number_of}
use Rattle.step.specs.declared.Answered.{Answered}

-- the number that a step answers, and the gate after it
pub record Result : Type 0 where
  pub number : ℕ
  pub gate : Gate

-- each case of the answer by its number
abbrev pub told_in : Answered → Result
told_in r = record { number = number_of r.answer; gate = r.gate }

-- what the rules give in the state that the gate shows
abbrev pub ruled : Gate → Heard → Result
ruled g x = record {
  number = answer_of (setup_of g.setup) (state_of g) x;
  gate = shown g.setup (step_of (setup_of g.setup) (state_of g) x);
}

-- First an unsound state (19), then 18, then the event's own. A refused event returns the same gate.
unfoldable pub stepped : Gate → Heard → Result
stepped g x = cond (sound_of g) (ruled g x) (record { number = unsound; gate = g })

-- ON PARTS

-- what the code asks of the parts, so that every index is in its range
pub record Ranged (v : Setup) (q : Queues) : Type 0 where
  pub clusters : v.clusters ≤ max_clusters
  pub clients : v.clients ≤ max_clients
  pub homes : Homes v.homes
  pub server : ServerFits (server_of q.service.server)

-- v is the setup u but for its priorities: in their place the inner door takes the keys
pub record Given (u v : Setup) : Type 0 where
  pub clusters : u.clusters ≡ v.clusters
  pub clients : u.clients ≡ v.clients
  pub cap : u.cap ≡ v.cap
  pub tidy : u.tidy ≡ v.tidy
  pub timed : u.timed ≡ v.timed
  pub sizes : u.sizes ≡ v.sizes
  pub kinds : u.kinds ≡ v.kinds
  pub homes : u.homes ≡ v.homes
