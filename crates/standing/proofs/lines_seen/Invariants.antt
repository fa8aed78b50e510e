-- `standing::lines_seen` meets its contract: lines passed are sound; who is seen from here on is who is seen in all.
-- Assumes nothing.
use Prim.Native.Nat.{◌+◌, ◌-◌, ◌≤◌}
use mathlib.Core.Path.{◌≡◌}
use mathlib.Core.Bool.{true}
use mathlib.Core.List.{◌++◌}
use lib.ListN.{length, drop}
use Rattle.rules.specs.Limits.{max_clusters, max_size}
use Rattle.sets.specs.Sets.{member}
use Rattle.places.specs.Places.{unpad}
use Rattle.places.specs.Tests.{all_below}
use Rattle.seen.specs.Seen.{seen_from}
use Rattle.soundness.specs.Tests.{joined}
use Rattle.standing.specs.Answers.{lines_in}
use Rattle.standing.proofs.Queues.{line_rest}
use Rattle.standing.proofs.LineTurns.{fits}
use Rattle.standing.proofs.lines_seen.Given as goal

abbrev pub invariant-loop-j : goal.invariant-loop-j
invariant-loop-j l =
    (l.j ≤ l.m) × (length l.x-items ≡ max_size)
    × (line_rest l.m (member l.known) l.j (drop l.j l.x-items) ≡ fits l.sizes l.own l.lines l.k)
    × (seen_from l.seen (unpad (drop l.j l.x-items) ++ joined (lines_in l.lines) (l.k + 1) (max_clusters - (l.k + 1)))
    ≡ seen_from 0 (joined (lines_in l.lines) 0 max_clusters))

abbrev pub invariant-lines : goal.invariant-lines
invariant-lines l =
    (all_below l.k (fits l.sizes l.own l.lines) ≡ true)
    × (seen_from l.seen (joined (lines_in l.lines) l.k (max_clusters - l.k)) ≡ seen_from 0 (joined (lines_in l.lines) 0 max_clusters))
