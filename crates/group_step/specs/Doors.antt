-- What the doors of a group answer.
-- Assumes nothing.
use Rattle.std.specs.Prelude as code
use Rattle.std.specs.Prelude.{ℕ, cond, eqb, Ok, Err}
use Rattle.rules.specs.Refusals.{accepted, unsound}
use Rattle.group_rules.specs.declared.Group.{Group}
use Rattle.group_rules.specs.Refusals.{no_such, not_queued}
use Rattle.group_rules.specs.Groups.{queued}
use Rattle.group_rules.specs.Blocking.{Delegate, nobody, to_blocker, blocker_of, delegate_of}
use Rattle.group_rules.specs.Sound.{sound_of}
use Rattle.group_rules.specs.Events.{Event, is_context, answer_of, step_of}
use Rattle.blocking.specs.declared.Delegate as told
use Rattle.blocking.specs.Delegates.{told_of}
use Rattle.group_events.specs.declared.Refusal.{Refusal}
use Rattle.group_events.specs.Answers.{refusal_of, Result}

-- AN EVENT

-- First a group that isn't sound (19), then the event's own. A refused event returns the same group.
abbrev pub stepped : Group → Event → Result
stepped g e = record { number = answer_of g e; group = step_of g e }

-- A QUESTION ABOUT A CONTEXT

-- 19; 40 no such context; 45 not queued
unfoldable pub ask_answer : Group → ℕ → ℕ
ask_answer g c = cond (sound_of g) (cond (is_context c) (cond (queued g c) accepted not_queued) no_such) unsound

-- the number that it answers, and whom it names
pub record Naming : Type 0 where
  pub number : ℕ
  pub who : Delegate

abbrev pub named_in : code.Result told.Delegate Refusal → Naming
named_in (Ok d) = record { number = accepted; who = told_of d }
named_in (Err a) = record { number = refusal_of a; who = nobody }

-- a refused question names nobody
abbrev pub naming : ℕ → Delegate → Naming
naming n d = record { number = n; who = cond (eqb n accepted) d nobody }

-- who blocks a context directly
unfoldable pub blocked_by : Group → ℕ → Naming
blocked_by g c = naming (ask_answer g c) (to_blocker (blocker_of g c))

-- to whom it delegates its bandwidth
unfoldable pub delegates_to : Group → ℕ → Naming
delegates_to g c = naming (ask_answer g c) (delegate_of g c)
