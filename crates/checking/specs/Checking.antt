-- A checker of traces: what it holds before the first entry, and what an entry makes of it.
-- Assumes nothing.
use Rattle.std.specs.Prelude.{ℕ, ◌≡◌, Bool, true, false, not, cond, List, [], ◌∷◌, eqb, take}
use Rattle.std.specs.Prelude as code
use Rattle.std.specs.Prelude.{Some, None}
use Rattle.std.proofs.Math.Option.{Option, some, none}
use Rattle.rules.specs.Refusals.{accepted, bad_version}
use Rattle.rules.specs.Setup.{setup_answer}
use Rattle.rules.specs.Records.{Record, Heard, is_version, heard_of}
use Rattle.rules.specs.Replay.{in_service}
use Rattle.rules.specs.Traces as rules
use Rattle.rules.specs.Traces.{Seen, Traced, the_answer, the_served, the_charges, refused, agrees, differs, difference}
use Rattle.text.specs.Text.{next_count}
use Rattle.gate.specs.declared.Client.{Client}
use Rattle.gate.specs.declared.Setup.{Setup}
use Rattle.gate.specs.Shown.{setup_of, server_of}
use Rattle.gate.specs.Made.{made}
use Rattle.soundness.specs.Clauses.{sound_of}
use Rattle.step.specs.Stepped.{Result, stepped}
use Rattle.checking.specs.declared.Part.{Part}
use Rattle.checking.specs.declared.Part.TheVariants as part
use Rattle.checking.specs.declared.Verdict.{Verdict}
use Rattle.checking.specs.declared.Verdict.TheVariants.{Refused, Agrees, Differs}
use Rattle.checking.specs.declared.Checker.{Checker}

-- THE CODE'S WORDS FOR WHAT THE RULES SPEAK OF

-- whom the kernel says is in service
abbrev pub served_in : code.Option Client → Option ℕ
served_in None = none
served_in (Some c) = some c.0

-- all that it says of an entry
abbrev pub seen_in : ℕ → code.Option Client → List ℕ → Seen
seen_in n s l = record { answer = n; served = served_in s; charges = l }

abbrev pub part_in : Part → rules.Part
part_in part.Answer = the_answer
part_in part.Served = the_served
part_in part.Charges = the_charges

abbrev pub verdict_in : Verdict → rules.Verdict
verdict_in (Refused n) = refused n
verdict_in Agrees = agrees
verdict_in (Differs i p) = differs i (part_in p)

-- THE START

-- 22 for a version that is not known, else the setup's own number, if it is refused
abbrev pub first_verdict : ℕ → ℕ → Verdict
first_verdict v n = cond (not (is_version v)) (Refused bad_version) (cond (not (eqb n accepted)) (Refused n) Agrees)

-- before the first entry: the fresh gate of the setup
unfoldable pub begun : ℕ → Setup → Checker
begun v s = record {
  version = v;
  gate = (made s).gate;
  entries = 0;
  verdict = first_verdict v (setup_answer (setup_of s));
}

-- ONE ENTRY

abbrev pub is_agreeing : Verdict → Bool
is_agreeing (Refused n) = false
is_agreeing Agrees = true
is_agreeing (Differs i p) = false

-- the verdict after entry i by what differs in it
abbrev pub verdict_at : ℕ → Option rules.Part → Verdict
verdict_at i none = Agrees
verdict_at i (some the_answer) = Differs i part.Answer
verdict_at i (some the_served) = Differs i part.Served
verdict_at i (some the_charges) = Differs i part.Charges

-- what is seen after a step of our own gate: its charges are those of the first N clients
abbrev pub shown_by : Result → Seen
shown_by t = record {
  answer = t.number;
  served = in_service (server_of t.gate.server);
  charges = take t.gate.setup.clients t.gate.charges;
}

-- our gate goes on by its own step, whatever the kernel says, and the two are compared
abbrev pub entered_by : Checker → Result → Seen → Checker
entered_by k t s = record {
  version = k.version;
  gate = t.gate;
  entries = next_count k.entries;
  verdict = verdict_at k.entries (difference s (shown_by t));
}

-- what a record says, by the trace's version and whether its setup goes by deadlines
abbrev pub heard_by : Checker → Record → Heard
heard_by k r = heard_of k.version k.gate.setup.timed r

-- Later entries don't change a difference, and none changes a refusal.
unfoldable pub checked : Checker → Record → Seen → Checker
checked k r s = cond (is_agreeing k.verdict) (entered_by k (stepped k.gate (heard_by k r)) s) k

-- all entries of a trace, one by one
abbrev pub fed : Checker → List Traced → Checker
fed k [] = k
fed k (e ∷ es) = fed (checked k e.event e.seen) es

-- while a trace agrees, the gate is sound
abbrev pub Going : Checker → Type 0
Going k = is_agreeing k.verdict ≡ true → sound_of k.gate ≡ true
