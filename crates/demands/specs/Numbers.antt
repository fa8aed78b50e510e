-- The numbers of refusal that each kind of thing can be answered with.
-- Assumes nothing.
use Rattle.std.specs.Prelude.{ℕ, List, [], ◌∷◌}
use Rattle.rules.specs.Refusals.{accepted, bad_clusters, no_cap, many_clients, bad_size, bad_row, no_client}
use Rattle.rules.specs.Refusals.{waits_already, server_idle, run_of_none, run_past_cap, not_waiting, best_effort}
use Rattle.rules.specs.Refusals.{spent_already, unknown_record, unsound, not_tidying, log_short, bad_mark}
use Rattle.rules.specs.Refusals.{bad_version, log_cut, log_long, no_room, bad_line, bad_ranks, field_out, over_period, bad_lines}

-- 0, and 1 to 5
abbrev pub of_setup : List ℕ
of_setup = accepted ∷ bad_clusters ∷ no_cap ∷ many_clients ∷ bad_size ∷ bad_row ∷ []

-- 0, 10 to 19, and 26
abbrev pub of_event : List ℕ
of_event =
    accepted ∷ no_client ∷ waits_already ∷ server_idle ∷ run_of_none ∷ run_past_cap ∷ not_waiting ∷ best_effort ∷ spent_already ∷
    unknown_record ∷ unsound ∷ not_tidying ∷ []

-- 20 to 24, 33, and a setup's own
abbrev pub of_log : List ℕ
of_log =
    log_short ∷ bad_mark ∷ bad_version ∷ log_cut ∷ log_long ∷ bad_ranks ∷ bad_clusters ∷ no_cap ∷ many_clients ∷ bad_size ∷
    bad_row ∷ []

-- the writer's, for a setup: its own, 22 and 25
abbrev pub of_written_setup : List ℕ
of_written_setup = bad_version ∷ no_room ∷ of_setup

-- for a record: 0, 18, 22 and 25
abbrev pub of_written_record : List ℕ
of_written_record = accepted ∷ unknown_record ∷ bad_version ∷ no_room ∷ []

-- of a log that is exported: its own, and 25
abbrev pub of_export : List ℕ
of_export = no_room ∷ of_log

-- of a text that is imported: 29 before these
abbrev pub of_import : List ℕ
of_import = bad_line ∷ of_export

-- 0, and 30 to 32
abbrev pub of_order : List ℕ
of_order = accepted ∷ field_out ∷ over_period ∷ bad_lines ∷ []
