-- What the demands and the round trip ask for is met: by a refused setup, by logs that are refused or cut, and by the
-- gate and the bytes of document 01's own log, which reaches both bounds of demand 3.
-- Assumes nothing.
use Prim.Native.Nat.{ℕ, ◌+◌, ◌*◌, ◌<◌}
use mathlib.Core.Path.{◌≡◌, refl, ◌∙◌}
use mathlib.Core.Bool.{false, true}
use mathlib.Core.List.{List, [], ◌∷◌, map, reverse}
use Rattle.std.specs.Prelude.{Ok, Err}
use native.Mathlib.Omega.{arith}
use lib.ListN.{length, replicate}
use Rattle.rules.specs.Refusals.{accepted, bad_clusters}
use Rattle.rules.specs.Setup.{Accepted, real_time, setup_answer}
use Rattle.rules.specs.State.{fresh}
use Rattle.rules.specs.Rank.{outranks}
use Rattle.rules.specs.Queues.{refill, queue, pick}
use Rattle.rules.specs.Events.{invoked, ran, replied, aborted, readied}
use Rattle.rules.specs.Step.{answer_by, moved_by, next_by, step_by}
use Rattle.rules.specs.Records.{Record, Heard, event_of, heard_of}
use Rattle.rules.specs.Replay.{entries_from}
use Rattle.rules.specs.History.{said, struck}
use Rattle.rules.specs.Demands.{worst, worst_unstruck}
use Rattle.rules.proofs.Cases.{log_setup, log_records, quiet_records}
use Rattle.gate.specs.declared.Setup.{Setup}
use Rattle.gate.specs.Shown.{setup_of, table}
use Rattle.gate.specs.Made.{verdict_of, made, trimmed_in, zero_past, empty_bytes}
use Rattle.logs.specs.declared.Refusal.TheVariants.{Short}
use Rattle.layout.specs.Tables.{setup_in}
use Rattle.logs.specs.Opening.{head_of, tables_of, opening_of}
use Rattle.layout.specs.Layout.{record_size}
use Rattle.layout.specs.Log.{Sized, setup_bytes}
use Rattle.logs.specs.Reading.{whole}
use Rattle.writing.specs.Writing.{item_put, form_put}
use Rattle.rewriting.specs.Sequence.{onwards, log_put}
use Rattle.demands.specs.Histories.{charge_after, NoneUnknown}
use Rattle.demands.proofs.DemandThree.{u, stored}

-- DEMAND 1

-- A setup with no clusters.
pub empty-refused : setup_answer (setup_of empty_bytes) ≡ bad_clusters
unfolding setup_answer
empty-refused = refl

-- A log that is too short ..
pub short-log : opening_of [] ≡ Err Short
unfolding opening_of head_of
short-log = refl

-- .. and one whose first record is cut: `GTL`, version 1, K 1, N 0, L 10, a size of 1, and a record's code.
abbrev pub cut_bytes : List ℕ
cut_bytes = 71 ∷ 84 ∷ 76 ∷ 1 ∷ 0 ∷ 1 ∷ 0 ∷ 10 ∷ 0 ∷ 1 ∷ 1 ∷ []

pub cut-opens : opening_of cut_bytes ≡ Ok 10
unfolding opening_of head_of tables_of setup_in verdict_of setup_answer table
cut-opens = refl

pub cut_short : 10 + record_size 1 * whole cut_bytes 10 ≡ length cut_bytes → ⊥
cut_short e = omega (arith, e)

-- DEMAND 3: THE LOG OF DOCUMENT 01

abbrev pub log_held : Setup
log_held = record {
  clusters = log_setup.clusters;
  clients = log_setup.clients;
  cap = log_setup.cap;
  tidy = log_setup.tidy;
  timed = log_setup.timed;
  sizes = table 8 log_setup.size;
  kinds = table 64 log_setup.kind;
  homes = table 64 log_setup.cluster;
  priorities = table 64 log_setup.priority;
}

pub bytes-accepted : Accepted (setup_of log_held)
unfolding setup_answer table
bytes-accepted = record { no_refusal = refl; sixteen_bits = omega arith; tidy_bits = omega arith }

pub client-real : real_time (u log_held bytes-accepted) 1 ≡ true
unfolding table trimmed_in zero_past
client-real = refl

pub client-known : 1 < (u log_held bytes-accepted).clients
unfolding trimmed_in
client-known = omega arith

-- what the records of a log of version 1 say, the latest first
abbrev heards : List Record → List Heard
heards rs = map (heard_of 1 false) (reverse rs)

-- m = 1, K = 1, L = 10: the gate has charged client 1 with (2 + 2)10 after the log ..
pub reached : charge_after (made log_held).gate (heards log_records) 1 ≡ worst 1 1 10
unfolding table trimmed_in zero_past event_of answer_by moved_by next_by step_by
    outranks refill queue pick invoked ran replied aborted readied
reached = stored log_held bytes-accepted (heards log_records) 1 (omega arith) ∙ refl

-- .. and with (1 + 2)10 where nobody is aborted.
pub not-struck :
    struck (u log_held bytes-accepted) 1 (said (u log_held bytes-accepted) (heards quiet_records)) ≡ false
unfolding table trimmed_in zero_past event_of answer_by moved_by next_by step_by
    outranks refill queue pick invoked ran replied aborted readied
not-struck = refl

pub reached-unstruck : charge_after (made log_held).gate (heards quiet_records) 1 ≡ worst_unstruck 1 1 10
unfolding table trimmed_in zero_past event_of answer_by moved_by next_by step_by
    outranks refill queue pick invoked ran replied aborted readied
reached-unstruck = stored log_held bytes-accepted (heards quiet_records) 1 (omega arith) ∙ refl

-- THE ROUND TRIP: THE SAME LOG

-- its tables have their sizes, it is written into 65 bytes, each record of it, and none is answered 18
pub log-sized : Sized log_held
unfolding table
log-sized =
    record { sizes = refl; kinds = refl; homes = refl; priorities = refl; cap = omega arith; tidy = omega arith }

pub log-written : (log_put 1 log_held log_records (replicate 65 0)).told.number ≡ accepted
unfolding log_put onwards form_put item_put setup_bytes verdict_of setup_answer table event_of
log-written = refl

pub log-known : NoneUnknown (setup_of log_held) fresh (map (heard_of 1 false) log_records)
unfolding entries_from table event_of answer_by moved_by next_by step_by
    outranks refill queue pick invoked ran replied aborted readied
log-known =
    (refl, (refl, (refl, (refl, (refl, (refl, (refl, (refl, (refl, (refl, (refl, (refl, (refl, tt)))))))))))))
