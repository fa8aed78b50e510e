-- Who is seen in the lines, and who may be in the rooms: what the functions of this crate answer.
-- Assumes nothing.
use Rattle.std.specs.Prelude.{ℕ, ◌^◌, Bool, ◌&&◌, ◌||◌, List, eqb, ltb, leb, length, get_or}
use Rattle.std.proofs.Math.Option.{Option}
use Rattle.rules.specs.Limits.{max_clusters, max_size, max_clients}
use Rattle.sets.specs.Sets.{member, less_of}
use Rattle.places.specs.Places.{unpad}
use Rattle.gate.specs.declared.Line.{Line}
use Rattle.gate.specs.Shown.{blank_line}
use Rattle.places.specs.Tests.{every, all_below}
use Rattle.soundness.specs.Tests.{joined}
use Rattle.soundness.specs.Clauses.{laid}
use Rattle.seen.specs.Seen.{seen_if}

-- LINES AND QUEUES

-- the lines that the places hold
abbrev pub lines_in : List Line → ℕ → List ℕ
lines_in ls k = unpad (get_or ls k blank_line).places

-- at most m in a line, and each of them passes the test
unfoldable pub line_fits : ℕ → (ℕ → Bool) → List ℕ → Bool
line_fits m p q = laid max_size q && (leb (length (unpad q)) m && every p (unpad q))

-- so in each line, by its own size and test
unfoldable pub lines_fit : (ℕ → ℕ) → (ℕ → ℕ → Bool) → List Line → Bool
lines_fit m p ls =
    eqb (length ls) max_clusters && all_below max_clusters (λ (k : ℕ). line_fits (m k) (p k) (get_or ls k blank_line).places)

-- WHO IS SEEN

-- by the sizes, and the set of those who may stand in each line
abbrev pub lines_seen : List ℕ → List ℕ → List Line → Option ℕ
lines_seen sizes own ls =
    seen_if (lines_fit (λ (k : ℕ). get_or sizes k 0) (λ (k : ℕ). member (get_or own k 0)) ls) 0
    (joined (lines_in ls) 0 max_clusters)

-- WAITING ROOMS

-- the room of a line of m, by the set of those of its cluster
unfoldable pub room_fits : ℕ → ℕ → ℕ → List ℕ → ℕ → Bool
room_fits m own standing line room =
    ltb room (2 ^ max_clients)
    && (eqb (less_of room (less_of own standing)) 0 && (eqb room 0 || leb m (length line)))

unfoldable pub rooms_fit : List ℕ → List ℕ → ℕ → List Line → List ℕ → Bool
rooms_fit sizes own standing lines rooms =
    eqb (length rooms) max_clusters
    && all_below max_clusters (λ (k : ℕ).
    room_fits (get_or sizes k 0) (get_or own k 0) standing (lines_in lines k) (get_or rooms k 0))
