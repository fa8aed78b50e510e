-- What an accepted reply and abort find: somebody in service, and room in the global queue.
-- Assumes nothing.
use Rattle.std.specs.Prelude.{ℕ, ◌<◌, ◌≡◌, true, List, length}
use Rattle.rules.specs.Limits.{max_clusters}
use Rattle.rules.specs.Lists.{heads, remove}
use Rattle.rules.specs.State.{State, Server, idle, front, best, spent, tidying}
use Rattle.gate.specs.declared.Setup.{Setup}
use Rattle.gate.specs.Shown.{setup_of}

-- What a reply finds: the turn of the front or spent client in service is not in the global queue.
abbrev pub Yields : Server → List ℕ → Type 0
Yields idle g = ⊥
Yields (front c) g = length g < max_clusters
Yields (best c) g = Unit {0}
Yields (spent c) g = length g < max_clusters
Yields tidying g = ⊥

-- What an abort finds: where c is a front, its turn is free once it left the global queue.
abbrev pub Turn : Setup → State → ℕ → Type 0
Turn v s c = heads c (s.lines ((setup_of v).cluster c)) ≡ true → length (remove c s.global) < max_clusters
