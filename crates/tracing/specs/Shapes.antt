-- The lines of a trace by their numbers: the setup or entry that they say, and when an entry fits. The lines S, Z and C
-- have the numbers of a log's items (`items`: `head_fits`, `sizes_form`, `row_form`).
-- Assumes nothing.
use Rattle.std.specs.Prelude.{ℕ, ◌+◌, ◌≤◌, Bool, ◌&&◌, ◌||◌, cond, List, [], ◌∷◌, eqb, leb, length, get_or}
use Rattle.std.specs.Prelude.{take, drop, set, replicate}
use Rattle.std.proofs.Math.Option.{Option, some, none}
use Rattle.rules.specs.Limits.{max_clusters, max_clients}
use Rattle.rules.specs.Records.{Record}
use Rattle.rules.specs.Traces.{Seen}
use Rattle.gate.specs.declared.Setup.{Setup}
use Rattle.gate.specs.Shown.{table}
use Rattle.layout.specs.Layout.{carries_ranks, deadlines_byte}
use Rattle.text.specs.Text.{bits8, bits16, bits32}
use Rattle.lines.specs.Lines.{dash, fit_in, all_fit}

-- LINE S: VERSION K N L, and behind them W and R where logs of that version carry them

-- R: 0 where the line has none
abbrev pub ranks_of : List ℕ → ℕ
ranks_of vs = get_or vs 5 0

-- the setup before its tables; W is 0 where the line has none
unfoldable pub head_setup : List ℕ → Setup
head_setup vs = record {
  clusters = get_or vs 1 0;
  clients = get_or vs 2 0;
  cap = get_or vs 3 0;
  tidy = get_or vs 4 0;
  timed = eqb (ranks_of vs) deadlines_byte;
  sizes = replicate max_clusters 0;
  kinds = replicate max_clients 0;
  homes = replicate max_clients 0;
  priorities = replicate max_clients 0;
}

-- LINE Z: K sizes

unfoldable pub with_sizes : List ℕ → Setup → Setup
with_sizes vs s = record {
  clusters = s.clusters;
  clients = s.clients;
  cap = s.cap;
  tidy = s.tidy;
  timed = s.timed;
  sizes = table max_clusters (λ (k : ℕ). get_or vs k 0);
  kinds = s.kinds;
  homes = s.homes;
  priorities = s.priorities;
}

-- LINES C: KIND CLUSTER PRIORITY

-- the row of client c
unfoldable pub with_row : ℕ → List ℕ → Setup → Setup
with_row c vs s = record {
  clusters = s.clusters;
  clients = s.clients;
  cap = s.cap;
  tidy = s.tidy;
  timed = s.timed;
  sizes = s.sizes;
  kinds = set s.kinds c (get_or vs 0 0);
  homes = set s.homes c (get_or vs 1 0);
  priorities = set s.priorities c (get_or vs 2 0);
}

-- LINES E, in a trace of version v

-- CODE ARGUMENT ANSWER, with DEADLINE before ANSWER where logs of that version have it in their records
abbrev pub entry_widths : ℕ → List ℕ
entry_widths v = bits8 ∷ bits16 ∷ cond (carries_ranks v) (bits32 ∷ bits16 ∷ []) (bits16 ∷ [])

-- so ANSWER is behind two or three numbers,
abbrev pub answer_at : ℕ → ℕ
answer_at v = cond (carries_ranks v) 3 2

-- then SERVED,
abbrev pub served_at : ℕ → ℕ
served_at v = answer_at v + 1

-- then CHARGE ..
abbrev pub charges_at : ℕ → ℕ
charges_at v = served_at v + 1

-- SERVED is `-` for nobody
abbrev pub entry_begins : ℕ → List ℕ → Bool
entry_begins v vs =
    (leb (charges_at v) (length vs) && fit_in (entry_widths v) (take (served_at v) vs))
    && (leb (get_or vs (served_at v) 0) bits16 || eqb (get_or vs (served_at v) 0) dash)

-- any count of charges, none too
abbrev pub entry_fits : ℕ → List ℕ → Bool
entry_fits v vs = entry_begins v vs && all_fit bits32 (drop (charges_at v) vs)

-- 0 where the line has none
abbrev pub deadline_in : ℕ → List ℕ → ℕ
deadline_in v vs = cond (carries_ranks v) (get_or vs 2 0) 0

abbrev pub event_in : ℕ → List ℕ → Record
event_in v vs = record { code = get_or vs 0 0; argument = get_or vs 1 0; deadline = deadline_in v vs }

abbrev pub served_of : ℕ → Option ℕ
served_of n = cond (eqb n dash) none (some n)

abbrev pub seen_of : ℕ → List ℕ → Seen
seen_of v vs = record {
  answer = get_or vs (answer_at v) 0;
  served = served_of (get_or vs (served_at v) 0);
  charges = drop (charges_at v) vs;
}

-- WHAT FITS IS WITHIN ITS WIDTH

pub record HeadNumbers (vs : List ℕ) : Type 0 where
  pub version : get_or vs 0 0 ≤ bits16
  pub clusters : get_or vs 1 0 ≤ bits8
  pub clients : get_or vs 2 0 ≤ bits8
  pub cap : get_or vs 3 0 ≤ bits16
  pub tidy : get_or vs 4 0 ≤ bits16
  pub ranks : ranks_of vs ≤ bits8

pub record RowNumbers (vs : List ℕ) : Type 0 where
  pub kind : get_or vs 0 0 ≤ bits8
  pub cluster : get_or vs 1 0 ≤ bits8
  pub priority : get_or vs 2 0 ≤ bits16

pub record EntryNumbers (v : ℕ) (vs : List ℕ) : Type 0 where
  pub code : get_or vs 0 0 ≤ bits8
  pub argument : get_or vs 1 0 ≤ bits16
  pub deadline : deadline_in v vs ≤ bits32
  pub answer : get_or vs (answer_at v) 0 ≤ bits16
