-- Demand 1: what is done with nonsense. Each public function has an answer for whatever it is handed; these say which.
-- Assumes nothing.
use Prim.Native.Nat.{ℕ, ◌+◌, ◌*◌}
use mathlib.Core.Path.{◌≡◌, refl, ap, ◌∙◌}
use mathlib.Core.Bool.{true, false, ◌||◌}
use lib.Dec.{eqb, ltb, leb}
use mathlib.Core.List.{List, [], ◌∷◌, ◌++◌, map}
use Rattle.std.specs.Prelude as std
use Rattle.std.specs.Prelude.{Ok, Err}
use lib.ListN.{length}
use borrow.Author.Tests.{ne_eqb}
use Rattle.rules.specs.Limits.{max_clients}
use Rattle.rules.specs.Refusals.{accepted, unsound, field_out, log_cut}
use Rattle.rules.specs.Setup as rules
use Rattle.rules.specs.Setup.{real_time, clusters_fit, first_bad_size, first_bad_row, setup_answer}
use Rattle.rules.specs.Lists.{has}
use Rattle.rules.specs.State.{State, fresh, is_idle, is_spent, is_serving, is_tidying, cap_of}
use Rattle.rules.specs.Queues.{waits}
use Rattle.rules.specs.Rank.{outranks}
use Rattle.rules.specs.Events.{Event, invoke, run, reply, abort, ready}
use Rattle.rules.specs.Step.{fit_form, present, overcharges, answer_by, answer}
use Rattle.rules.specs.Records.{Heard, known, reply_ready, unknown, answer_of, step_of}
use Rattle.rules.specs.Replay.{Entry, entries_from}
use Rattle.rules.specs.Quote.{Order, quote, AllTrue}
use Rattle.rules.proofs.Tests.{by-test}
use Rattle.rules.proofs.Quotes.{quote-cases}
use Rattle.rules.proofs.Theorems.{refused-same}
use Rattle.gate.specs.declared.Setup.{Setup}
use Rattle.gate.specs.declared.Gate.{Gate}
use Rattle.gate.specs.declared.Refusal as setup
use Rattle.gate.specs.declared.Refusal.TheVariants as given
use Rattle.gate.specs.Shown.{setup_of, state_of, shown}
use Rattle.gate.specs.Made as verdict
use Rattle.gate.specs.Made.{empty_gate, fresh_gate, verdict_of, made}
use Rattle.parts.proofs.Laid.{shown-back}
use Rattle.soundness.specs.Clauses.{sound_of}
use Rattle.soundness.proofs.Exact.{passed-laid, empty-fails}
use Rattle.answers.specs.declared.Answer.{Answer}
use Rattle.answers.specs.declared.Answer.TheVariants as is
use Rattle.answers.specs.Answers.{number_of}
use Rattle.step.specs.Stepped.{Result, stepped}
use Rattle.logs.specs.declared.Refusal.{Refusal}
use Rattle.logs.specs.declared.Refusal.TheVariants.{Long, Short, BadMark, BadVersion, BadClusters, NoCap}
use Rattle.logs.specs.declared.Refusal.TheVariants.{ManyClients, CutTables, BadRanks, BadSize, BadRow, CutRecord}
use Rattle.layout.specs.Tables.{version_in, setup_in}
use Rattle.logs.specs.Opening.{told, opening_of}
use Rattle.layout.specs.Layout.{record_size}
use Rattle.logs.specs.Reading.{whole, heards_in}
use Rattle.report.specs.Report.{heading, entry_lines, refused_line, last_lines, replayed, report_of}
use Rattle.quote.specs.declared.Refusal as quoted
use Rattle.quote.specs.declared.Refusal.TheVariants as quoted-as
use Rattle.quote.specs.Told as quotes
use Rattle.order.specs.Orders.{max_bytes, values, order_from, asked}
use Rattle.step.proofs.Doors.{step-sound}
use Rattle.demands.specs.Numbers.{of_setup, of_event, of_log, of_order}

-- An unsound gate is answered 19, and handed back.
pub unsound-gate : (g : Gate) (x : Heard) → sound_of g ≡ false
    → stepped g x ≡ record { number = unsound; gate = g }
unfolding stepped
unsound-gate g x h = rw h

-- A refused event hands back the gate that it was given, sound or not.
pub refused-event : (g : Gate) (x : Heard) → ((stepped g x).number ≡ accepted → ⊥) → (stepped g x).gate ≡ g
refused-event g x n =
    by-test (sound_of g)
    (λ h.
    let e = step-sound g x h in
    let same = refused-same (setup_of g.setup) (state_of g) x (λ q. n (ap (λ (t : Result). t.number) e ∙ q)) in
    ap (λ (t : Result). t.gate) e ∙ ap (shown g.setup) same ∙ shown-back g (passed-laid g h))
    (λ h. ap (λ (t : Result). t.gate) (unsound-gate g x h))

-- A refused setup has its number, and yields the empty gate ..
pub refused-setup : (v : Setup) → (setup_answer (setup_of v) ≡ accepted → ⊥)
    → ((made v).told.number ≡ setup_answer (setup_of v)) × ((made v).gate ≡ empty_gate)
unfolding made verdict_of fresh_gate
refused-setup v n = (refl, rw (ne_eqb (setup_answer (setup_of v)) accepted n))

-- .. which answers every event 19 and stays as it is.
pub empty-gate : (x : Heard) → stepped empty_gate x ≡ record { number = unsound; gate = empty_gate }
empty-gate x = unsound-gate empty_gate x empty-fails

-- A refused order quotes 0, and its place is 0 in every answer but 30.
pub refused-order : (o : Order) → ((quote o).answer ≡ accepted → ⊥) → (quote o).budget ≡ 0
refused-order o =
    quote-cases o (λ q. (q.answer ≡ accepted → ⊥) → q.budget ≡ 0)
    (λ n. refl) (λ n. refl) (λ n. refl) (λ f n. absurd (n refl))

pub place_of : (o : Order) → ((quote o).answer ≡ field_out → ⊥) → (quote o).place ≡ 0
place_of o =
    quote-cases o (λ q. (q.answer ≡ field_out → ⊥) → q.place ≡ 0)
    (λ n. refl) (λ n. absurd (n refl)) (λ n. refl) (λ f n. refl)

-- A log refused before its records is answered by its number and offset alone ..
pub refused-log : (l : List ℕ) (r : Refusal) → opening_of l ≡ Err r → report_of l ≡ refused_line (told r)
unfolding report_of
refused-log l r e = rw e

-- .. and one whose last record is cut by the lines of its whole records, then 23 and that record's offset.
pub cut-log : (l : List ℕ) (start : ℕ) → opening_of l ≡ Ok start
    → (start + record_size (version_in l) * whole l start ≡ length l → ⊥)
    → report_of l ≡ heading (version_in l) (setup_in l).clusters (setup_in l).clients (setup_in l).cap (setup_in l).tidy
    ++ (entry_lines 0 (entries_from (setup_of (setup_in l)) fresh (heards_in l start))
    ++ refused_line (record { number = log_cut; offset = start + record_size (version_in l) * whole l start }))
unfolding report_of replayed last_lines
cut-log l start e n = rw (e, ne_eqb (start + record_size (version_in l) * whole l start) (length l) n)

-- EVERY NUMBER IS ONE OF THE DOCUMENTS'

rules-number : (u : rules.Setup) (s : State) (e : Event) → has (answer u s e) of_event ≡ true
unfolding answer_by
rules-number u s (invoke c o) =
    by-test (fit_form u.timed o) (λ f.
    by-test (leb u.clients c) (λ a. rw (f, a)) λ a.
    by-test (present u s c) (λ b. rw (f, a, b)) (λ b. rw (f, a, b)))
    (λ f. rw f)
rules-number u s (run n) =
    by-test (eqb n 0) (λ a. rw a) λ a.
    by-test (is_idle s.server) (λ b. rw (a, b)) λ b.
    by-test (ltb (cap_of u s.server) (s.units + n)) (λ d. rw (a, b, d)) λ d.
    by-test (overcharges u (outranks u s) s n) (λ e. rw (a, b, d, e)) (λ e. rw (a, b, d, e))
rules-number u s reply = by-test (is_serving s.server) (λ a. rw a) (λ a. rw a)
rules-number u s (abort c) =
    by-test (leb u.clients c) (λ a. rw a) λ a.
    by-test (real_time u c) (λ b.
    by-test (waits u s c || is_spent s.server c) (λ d.
    by-test (is_spent s.server c) (λ e. rw (a, b, d, e)) (λ e. rw (a, b, d, e)))
    (λ d. rw (a, b, d)))
    (λ b. rw (a, b))
rules-number u s ready = by-test (is_tidying s.server) (λ a. rw a) (λ a. rw a)

heard-number : (u : rules.Setup) (s : State) (x : Heard) → has (answer_of u s x) of_event ≡ true
heard-number u s (known e) = rules-number u s e
heard-number u s reply_ready = rules-number u s reply
heard-number u s unknown = refl

-- A step answers 0, 10 to 19 or 26, whatever gate and record it is handed,
pub step-number : (g : Gate) (x : Heard) → has (stepped g x).number of_event ≡ true
unfolding stepped
step-number g x =
    by-test (sound_of g) (λ h. rw h (heard-number (setup_of g.setup) (state_of g) x)) (λ h. rw h)

-- and so does every line of a report;
pub report-numbers : (u : rules.Setup) (s : State) (xs : List Heard)
    → AllTrue (map (λ (e : Entry). has e.answer of_event) (entries_from u s xs))
unfolding entries_from
report-numbers u s [] = tt
report-numbers u s (x ∷ xs) = (heard-number u s x, report-numbers u (step_of u s x) xs)

-- a setup 0 to 5;
pub setup-number : (v : Setup) → has (made v).told.number of_setup ≡ true
unfolding made verdict_of setup_answer
setup-number v =
    let u = setup_of v in
    by-test (clusters_fit u) (λ a.
    by-test (eqb u.cap 0) (λ b. rw (a, b)) λ b.
    by-test (ltb max_clients u.clients) (λ d. rw (a, b, d)) λ d.
    by-test (ltb (first_bad_size u) u.clusters) (λ e. rw (a, b, d, e)) λ e.
    by-test (ltb (first_bad_row u) u.clients) (λ f. rw (a, b, d, e, f)) (λ f. rw (a, b, d, e, f)))
    (λ a. rw a)

-- an order 0 or 30 to 32,
pub order-number : (o : Order) → has (quote o).answer of_order ≡ true
order-number o = quote-cases o (λ q. has q.answer of_order ≡ true) refl refl refl (λ f. refl)

-- and so does any line of text;
pub text-number : (s : List ℕ) → has (asked s).answer of_order ≡ true
unfolding asked
text-number s =
    by-test (ltb max_bytes (length s)) (λ a. rw a) (λ a. rw a (order-number (order_from (values s))))

-- a refused log, or a cut record of it, 20 to 24, 33 or what its setup is refused with.
pub log-number : (r : Refusal) → has (told r).number of_log ≡ true
log-number Long = refl
log-number Short = refl
log-number BadMark = refl
log-number BadVersion = refl
log-number BadClusters = refl
log-number NoCap = refl
log-number ManyClients = refl
log-number CutTables = refl
log-number BadRanks = refl
log-number (BadSize at) = refl
log-number (BadRow at) = refl
log-number (CutRecord at) = refl

-- The numbers of the enums' cases: of an event's answer,
pub answer-number : (a : Answer) → has (number_of a) of_event ≡ true
answer-number is.Accepted = refl
answer-number is.NoClient = refl
answer-number is.WaitsAlready = refl
answer-number is.ServerIdle = refl
answer-number is.RunOfNone = refl
answer-number is.RunPastCap = refl
answer-number is.NotWaiting = refl
answer-number is.BestEffort = refl
answer-number is.SpentAlready = refl
answer-number is.Unknown = refl
answer-number is.Unsound = refl
answer-number is.NotTidying = refl

-- of a setup's verdict,
pub verdict-number : (v : std.Result (Unit {0}) setup.Refusal) → has (verdict.told v).number of_setup ≡ true
verdict-number (Ok a) = refl
verdict-number (Err given.BadClusters) = refl
verdict-number (Err given.NoCap) = refl
verdict-number (Err given.ManyClients) = refl
verdict-number (Err (given.BadSize k)) = refl
verdict-number (Err (given.BadRow c)) = refl

-- and of a quote.
pub quote-number : (a : std.Result ℕ quoted.Refusal) → has (quotes.told a).answer of_order ≡ true
quote-number (std.Ok b) = refl
quote-number (std.Err (quoted-as.FieldOut at)) = refl
quote-number (std.Err quoted-as.OverPeriod) = refl
quote-number (std.Err quoted-as.BadLines) = refl
