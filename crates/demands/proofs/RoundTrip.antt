-- The panel writes its own log, in a version that the caller names: what the writer answers and leaves, that reading
-- gives back what was written, and that writing what was read gives the same bytes. Assumes nothing.
use Prim.Native.Nat.{ℕ, ◌+◌, ◌*◌, ◌≤◌}
use mathlib.Core.Path.{◌≡◌, refl, sym, ap, ◌∙◌}
use mathlib.Core.Bool.{Bool, true, false, not, ◌&&◌}
use mathlib.Core.List.{List, [], ◌∷◌, map}
use Rattle.std.specs.Prelude.{Ok}
use lib.Dec.{eqb}
use lib.ListN.{length, take}
use Rattle.rules.specs.Lists.{has}
use Rattle.rules.specs.Refusals.{accepted, unknown_record, bad_version, no_room}
use Rattle.rules.specs.Setup as rules
use Rattle.rules.specs.State.{State, fresh}
use Rattle.rules.specs.Events.{Event}
use Rattle.rules.specs.Records.{Record, Heard, known, reply_ready, unknown, is_known, heard_of}
use Rattle.rules.specs.Records.{record_of, form_fits, answer_of, step_of}
use Rattle.rules.specs.Replay.{entries_from}
use Rattle.rules.proofs.Tests.{by-test, clash}
use Rattle.rules.proofs.Lists.{has-tail}
use Rattle.gate.specs.declared.Setup.{Setup}
use Rattle.gate.specs.Shown.{setup_of}
use Rattle.gate.specs.Made.{Told, verdict_of, made}
use Rattle.text.specs.Text.{written}
use Rattle.layout.specs.Layout.{max_log, record_size, records_at}
use Rattle.layout.specs.Tables.{version_in, setup_in}
use Rattle.layout.specs.Log.{Sized, setup_bytes, record_bytes, log_bytes}
use Rattle.logs.specs.Opening.{opening_of}
use Rattle.logs.specs.Reading.{whole, records_in, heards_in}
use Rattle.logs.proofs.Openings.{opens}
use Rattle.logs.proofs.Again.{log-again}
use Rattle.writing.specs.Writing.{unrefused, Left, lacks_room, form_put, version_ranks, version_fits, setup_told, setup_put}
use Rattle.writing.specs.Writing.{record_told, record_put, event_told, event_put}
use Rattle.writing.proofs.Room.{item-number, item-same}
use Rattle.rewriting.specs.Sequence.{log_put, events_put}
use Rattle.rewriting.specs.RoundTrip.{ReadBack, AllBytes, last_answer, written_up_to}
use Rattle.rewriting.specs.Printed.{printed_of, text_of}
use Rattle.rewriting.proofs.ReadBack.{writes-log, says-events}
use Rattle.rewriting.proofs.Events.{events-put, events-read}
use Rattle.rewriting.proofs.WriteBack.{write-back, write-back-whole}
use Rattle.rewriting.proofs.Prints.{printed-text}
use Rattle.demands.specs.Histories.{NoneUnknown}
use Rattle.demands.specs.Numbers.{of_setup, of_written_setup, of_written_record}
use Rattle.demands.proofs.DemandOne.{setup-number}

-- WHAT A WRITE ANSWERS AND LEAVES

form-same : (t : Told) (item : List ℕ) (used : ℕ) (out : List ℕ)
    → ((form_put t item used out).told.number ≡ accepted → ⊥)
    → ((form_put t item used out).used ≡ used) × ((form_put t item used out).bytes ≡ out)
unfolding form_put
form-same t item used out n =
    by-test (eqb t.number accepted)
    (λ b. let q = item-same item used out (λ e. n (rw b e)) in (rw b q.0, rw b q.1))
    (λ b. (rw b, rw b))

-- A refusal changes no byte, and no count of the bytes that are used: of a setup,
pub refused-setup-same : (v : ℕ) (u : Setup) (out : List ℕ) → ((setup_put v u out).told.number ≡ accepted → ⊥)
    → ((setup_put v u out).used ≡ 0) × ((setup_put v u out).bytes ≡ out)
refused-setup-same v u out n = form-same (setup_told v u) (setup_bytes v u) 0 out n

-- of a record,
pub refused-record-same : (v : ℕ) (timed : Bool) (r : Record) (used : ℕ) (out : List ℕ)
    → ((record_put v timed r used out).told.number ≡ accepted → ⊥)
    → ((record_put v timed r used out).used ≡ used) × ((record_put v timed r used out).bytes ≡ out)
refused-record-same v timed r used out n = form-same (record_told v timed r) (record_bytes v r) used out n

-- and of an event.
pub refused-event-same : (v : ℕ) (timed : Bool) (e : Event) (used : ℕ) (out : List ℕ)
    → ((event_put v timed e used out).told.number ≡ accepted → ⊥)
    → ((event_put v timed e used out).used ≡ used) × ((event_put v timed e used out).bytes ≡ out)
refused-event-same v timed e used out n = form-same (event_told v timed e) (record_bytes v (record_of e)) used out n

form-number : (ns : List ℕ) → has accepted ns ≡ true → has no_room ns ≡ true → (t : Told) (item : List ℕ) (used : ℕ)
    (out : List ℕ) → has t.number ns ≡ true → has (form_put t item used out).told.number ns ≡ true
unfolding form_put
form-number ns a n t item used out h =
    by-test (eqb t.number accepted)
    (λ b. by-test (lacks_room (length item) used (length out))
    (λ d. rw (b, item-number item used out, d) n) (λ d. rw (b, item-number item used out, d) a))
    (λ b. rw b h)

-- Each answer has its number: of a setup 0 to 5, 22 or 25,
pub write-setup-number : (v : ℕ) (u : Setup) (out : List ℕ)
    → has (setup_put v u out).told.number of_written_setup ≡ true
unfolding made
write-setup-number v u out =
    form-number of_written_setup refl refl (setup_told v u) (setup_bytes v u) 0 out
    (by-test (version_fits v u.tidy u.timed)
    (λ b. rw b (has-tail (verdict_of (setup_of u)).number bad_version (no_room ∷ of_setup)
    (has-tail (verdict_of (setup_of u)).number no_room of_setup (setup-number u))))
    (λ b. rw b))

-- of a record 0, 18, 22 or 25,
pub write-record-number : (v : ℕ) (timed : Bool) (r : Record) (used : ℕ) (out : List ℕ)
    → has (record_put v timed r used out).told.number of_written_record ≡ true
write-record-number v timed r used out =
    form-number of_written_record refl refl (record_told v timed r) (record_bytes v r) used out
    (by-test (version_ranks v timed)
    (λ b. by-test (is_known (heard_of v timed r)) (λ k. rw (b, k)) (λ k. rw (b, k)))
    (λ b. rw b))

-- and so of an event.
pub write-event-number : (v : ℕ) (timed : Bool) (e : Event) (used : ℕ) (out : List ℕ)
    → has (event_put v timed e used out).told.number of_written_record ≡ true
write-event-number v timed e used out =
    form-number of_written_record refl refl (event_told v timed e) (record_bytes v (record_of e)) used out
    (by-test (version_ranks v timed)
    (λ b. by-test (form_fits timed e && is_known (heard_of v timed (record_of e))) (λ k. rw (b, k)) (λ k. rw (b, k)))
    (λ b. rw b))

-- 22 comes first: for a version that is not known, for version 1 where W is over 0, and for versions 1 and 2 where the
-- clients go by deadlines.
pub version-first : (v : ℕ) (u : Setup) (out : List ℕ) → version_fits v u.tidy u.timed ≡ false
    → (setup_put v u out).told.number ≡ bad_version
unfolding form_put
version-first v u out h = rw h

-- WRITER AND READER MEET IN THE BYTES OF A LOG

-- Where no write was refused, the buffer begins with the bytes of the log of the setup and the events, in that version;
-- behind them it is as it was.
pub writer-writes : (v : ℕ) (u : Setup) (es : List Event) (out : List ℕ)
    → (events_put v u es out).told.number ≡ accepted
    → ((events_put v u es out).used ≡ length (log_bytes v u (map record_of es)))
    × ((events_put v u es out).bytes ≡ written out 0 (log_bytes v u (map record_of es)))
writer-writes v u es out e =
    let same = (events-put v u es out e).1 in
    let h = writes-log v u es out (ap (λ (t : Left). t.told.number) (sym same) ∙ e) in
    (ap (λ (t : Left). t.used) same ∙ h.used, ap (λ (t : Left). t.bytes) same ∙ h.bytes)

-- A log that is accepted is the bytes of the setup and of the records that are read of it, with or without a form.
pub reader-reads : (l : List ℕ) → AllBytes l → (start : ℕ) → opening_of l ≡ Ok start
    → start + record_size (version_in l) * whole l start ≡ length l
    → log_bytes (version_in l) (setup_in l) (records_in l start) ≡ l
reader-reads l bytes start o uncut = log-again l bytes start (opens l start o) uncut

-- READ BACK

-- Reading what was written gives back the version, the setup and the events, each as its record says it in that
-- version, for any version, any setup, any events and any buffer in which no write was refused. (Every setup that the
-- code can hold is `Sized`.)
pub written-is-read : (v : ℕ) (u : Setup) (es : List Event) (out : List ℕ)
    → (events_put v u es out).told.number ≡ accepted → Sized u
    → ReadBack v u es (take (events_put v u es out).used (events_put v u es out).bytes)
written-is-read = events-read

-- From version 2 on these are the events themselves.
pub events-are-read : (v : ℕ) → (v ≡ 1 → ⊥) → (u : Setup) (es : List Event) (l : List ℕ) → ReadBack v u es l
    → heards_in l (records_at v u.clusters u.clients) ≡ map known es
events-are-read v n u es l h = h.events ∙ says-events v n es

-- WRITTEN AGAIN

-- where no record is answered 18, each has a form
all_known : (u : rules.Setup) (s : State) (xs : List Heard) → NoneUnknown u s xs → last_answer xs ≡ Ok tt
unfolding entries_from
all_known u s [] h = refl
all_known u s (x ∷ xs) h = by-heard x h.0 (all_known u (step_of u s x) xs h.1)
  where
    by-heard : (y : Heard) → not (eqb (answer_of u s y) unknown_record) ≡ true → last_answer xs ≡ Ok tt
        → last_answer (y ∷ xs) ≡ Ok tt
    by-heard (known e) q next = next
    by-heard reply_ready q next = next
    by-heard unknown q next = clash q refl

module _ (l out : List ℕ) (bytes : AllBytes l) (fits : length l ≤ length out) (start : ℕ)
    (o : opening_of l ≡ Ok start) where
  -- Writing what was read, in its own version, gives the same bytes, for every log that is accepted, to its end, and in
  -- which no record is answered 18.
  pub read-is-written : start + record_size (version_in l) * whole l start ≡ length l
      → NoneUnknown (setup_of (setup_in l)) fresh (heards_in l start)
      → log_put (version_in l) (setup_in l) (records_in l start) out
      ≡ record { told = unrefused; used = length l; bytes = written out 0 l }
  read-is-written uncut h =
      write-back-whole l out bytes fits start o uncut
      (all_known (setup_of (setup_in l)) fresh (heards_in l start) h)

  -- A log is written up to the first of its records that has no form in its version. That record is answered 18.
  pub read-is-written-up-to : log_put (version_in l) (setup_in l) (records_in l start) out ≡ written_up_to l start out
  read-is-written-up-to = write-back l out bytes fits start o

-- THE PROGRAM THAT DOES BOTH

-- `rewrite` prints the log itself, or one line: its first refusal, from the log's start to its end. The buffer that it
-- lends has 65,536 bytes.
pub rewrite-prints : (l out : List ℕ) → AllBytes l → max_log ≤ length out
    → take (printed_of l out).size (printed_of l out).bytes ≡ text_of l
rewrite-prints = printed-text
