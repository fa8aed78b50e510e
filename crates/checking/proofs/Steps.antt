-- A checker before the first entry and after one more; while the trace agrees its gate is sound.
-- Assumes nothing.
use Prim.Native.Nat.{ℕ, ◌≤◌}
use mathlib.Core.Path.{◌≡◌, refl, sym, ap, ◌∙◌}
use mathlib.Core.Bool.{Bool, true, false, not, cond}
use mathlib.Core.List.{List, [], ◌∷◌}
use lib.Dec.{eqb}
use lib.ListN.{take}
use borrow.Author.Tests.{eqb-true}
use Rattle.rules.specs.Limits.{max_cap, max_tidy}
use Rattle.rules.specs.Refusals.{accepted, bad_version}
use Rattle.rules.specs.Setup.{setup_answer, Accepted}
use Rattle.rules.specs.State.{fresh}
use Rattle.rules.specs.Records.{Record, Heard, is_version}
use Rattle.rules.specs.Replay.{in_service}
use Rattle.rules.specs.Traces.{Seen, Traced, difference}
use Rattle.rules.proofs.Tests.{by-test, clash}
use Rattle.gate.specs.declared.Setup.{Setup}
use Rattle.gate.specs.declared.Gate.{Gate}
use Rattle.gate.specs.Shown.{setup_of, server_of}
use Rattle.gate.specs.Made.{trimmed_in, verdict_of, made}
use Rattle.gate.proofs.Making.{made-shown}
use Rattle.parts.proofs.SoundShows.{fresh-sound}
use Rattle.soundness.specs.Clauses.{sound_of}
use Rattle.soundness.proofs.Exact.{shown-passes}
use Rattle.answers.specs.Answers.{number_of}
use Rattle.step.specs.declared.Answered.{Answered}
use Rattle.step.specs.Stepped.{Result, told_in, stepped}
use Rattle.step.proofs.Shown.{stays-sound}
use Rattle.checking.specs.declared.Verdict.{Verdict}
use Rattle.checking.specs.declared.Verdict.TheVariants.{Refused, Agrees}
use Rattle.checking.specs.declared.Checker.{Checker}
use Rattle.text.specs.Text.{next_count}
use Rattle.checking.specs.Checking.{is_agreeing, first_verdict, begun, verdict_at, entered_by}
use Rattle.checking.specs.Checking.{heard_by, checked, fed, Going}

-- THE START

pub begun-is : (v : ℕ) (s : Setup) {g : Gate} {n : ℕ} {x : Verdict} → g ≡ (made s).gate → n ≡ (made s).told.number
    → x ≡ first_verdict v n → record { version = v; gate = g; entries = 0; verdict = x } ≡ begun v s
unfolding begun made verdict_of
begun-is v s a b c = rw (a, c, b)

-- it agrees only where nothing is refused
agreeing-first : (a b : Bool) (n m : ℕ)
    → is_agreeing (cond (not a) (Refused n) (cond (not b) (Refused m) Agrees)) ≡ true → b ≡ true
agreeing-first true true n m e = refl
agreeing-first true false n m e = clash e refl
agreeing-first false b n m e = clash e refl

pub begun-going : (v : ℕ) (s : Setup) → s.cap ≤ max_cap → s.tidy ≤ max_tidy → Going (begun v s)
unfolding begun
begun-going v s l w e =
    let n = setup_answer (setup_of s) in
    let q = eqb-true n accepted (agreeing-first (is_version v) (eqb n accepted) bad_version n e) in
    let a : Accepted (setup_of s) = record { no_refusal = q; sixteen_bits = l; tidy_bits = w } in
    ap sound_of (made-shown s q) ∙ shown-passes (trimmed_in s) fresh (fresh-sound s a)

-- ONE ENTRY

pub entered-is : (k : Checker) (n : ℕ) (g : Gate) (s : Seen) {m : ℕ} {x : Verdict} {l : List ℕ}
    → m ≡ next_count k.entries → l ≡ take g.setup.clients g.charges
    → x ≡ verdict_at k.entries (difference s
    (record { answer = n; served = in_service (server_of g.server); charges = l }))
    → record { version = k.version; gate = g; entries = m; verdict = x }
    ≡ entered_by k (record { number = n; gate = g }) s
entered-is k n g s a b c = rw (a, c, b)

module _ (k : Checker) (r : Record) (s : Seen) where
  -- a verdict that is told stays
  pub checked-told : is_agreeing k.verdict ≡ false → checked k r s ≡ k
  unfolding checked
  checked-told e = rw e

  pub checked-on : is_agreeing k.verdict ≡ true
      → checked k r s ≡ entered_by k (stepped k.gate (heard_by k r)) s
  unfolding checked
  checked-on e = rw e

  pub checked-version : (checked k r s).version ≡ k.version
  checked-version =
      by-test (is_agreeing k.verdict)
      (λ y. ap (λ (j : Checker). j.version) (checked-on y))
      (λ n. ap (λ (j : Checker). j.version) (checked-told n))

  -- a record that was stepped and compared
  pub checked-by : (a : Answered) (x : Heard) (n : ℕ) (j : Checker) → is_agreeing k.verdict ≡ true
      → x ≡ heard_by k r → told_in a ≡ stepped k.gate x → n ≡ number_of a.answer
      → j ≡ entered_by k (record { number = n; gate = a.gate }) s → j ≡ checked k r s
  checked-by a x n j e heard told number is =
      is
      ∙ ap (λ (m : ℕ). entered_by k (record { number = m; gate = a.gate }) s) number
      ∙ ap (λ (t : Result). entered_by k t s) (told ∙ ap (stepped k.gate) heard)
      ∙ sym (checked-on e)

  pub checked-going : Going k → Going (checked k r s)
  checked-going going =
      by-test (is_agreeing k.verdict)
      (λ y. rw (checked-on y) (λ e. stays-sound k.gate (heard_by k r) (going y)))
      (λ n. rw (checked-told n) going)

-- and so over all that follow
pub fed-told : (k : Checker) (es : List Traced) → is_agreeing k.verdict ≡ false → fed k es ≡ k
fed-told k [] e = refl
fed-told k (d ∷ es) e = rw (checked-told k d.event d.seen e) (fed-told k es e)
