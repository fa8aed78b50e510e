-- A client and its cluster, as the code finds it.
-- Assumes nothing.
use Rattle.std.specs.Prelude.{ℕ, ◌<◌, List, ◌≡◌, get_or}
use Rattle.rules.specs.Limits.{max_clusters, max_clients}

-- c is a client's number, and k its cluster's, which has a line
pub record Home (homes : List ℕ) (c k : ℕ) : Type 0 where
  pub known : c < max_clients
  pub own : k ≡ get_or homes c 0
  pub low : k < max_clusters
