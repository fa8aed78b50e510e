-- An invoke's form as the code has it, and what becomes of the keys where a wait begins or ends.
-- Assumes nothing.
use Rattle.std.specs.Prelude.{ℕ, Bool, cond, List, set, Option as code, Some, None}
use Rattle.std.proofs.Math.Option.{Option, some, none}
use Rattle.rules.specs.State.{Server, idle, front, best, spent, tidying}

-- a deadline, or none
abbrev pub form_in : code ℕ → Option ℕ
form_in None = none
form_in (Some d) = some d

-- under deadlines the key of c is d; priorities stay
abbrev pub due_in : Bool → ℕ → ℕ → List ℕ → List ℕ
due_in timed c d ks = cond timed (set ks c d) ks

-- of those in service only a front waits: its key is 0 after its reply
abbrev pub replied_in : Bool → Server → List ℕ → List ℕ
replied_in timed idle ks = ks
replied_in timed (front c) ks = due_in timed c 0 ks
replied_in timed (best c) ks = ks
replied_in timed (spent c) ks = ks
replied_in timed tidying ks = ks
