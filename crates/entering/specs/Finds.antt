-- Invoke up to the pick, and what it finds: a line of some size, room in the queues, and not the client itself.
-- Assumes nothing.
use Rattle.std.specs.Prelude.{ℕ, ◌<◌, ◌≡◌, false, cond, length}
use Rattle.rules.specs.Limits.{max_clusters, max_clients}
use Rattle.rules.specs.Lists.{has}
use Rattle.rules.specs.Setup as rules
use Rattle.rules.specs.Setup.{real_time}
use Rattle.rules.specs.State.{State}
use Rattle.rules.specs.Events.{arrive, behind}
use Rattle.gate.specs.declared.Setup.{Setup}
use Rattle.gate.specs.Shown.{setup_of}

-- Invoke c, up to the pick: a real-time client joins line or room, a best-effort client the background queue.
abbrev pub enters : rules.Setup → ℕ → State → State
enters u c s = cond (real_time u c) (arrive u c (s.lines (u.cluster c)) s) (behind c s)

-- What an invoke finds: its cluster has a size, an empty line leaves a turn free, and so does the background queue,
-- in which the client is not.
pub record Ready (v : Setup) (s : State) (c : ℕ) : Type 0 where
  pub size : 0 < (setup_of v).size ((setup_of v).cluster c)
  pub turn : length (s.lines ((setup_of v).cluster c)) ≡ 0 → length s.global < max_clusters
  pub last : length s.background < max_clients
  pub absent : has c s.background ≡ false
