-- Entries fed one by one come to exactly the verdict on the whole trace.
-- Assumes nothing.
use Prim.Native.Nat.{ℕ, suc, ◌+◌, ◌≤◌, ◌<◌}
use native.Mathlib.Numerals.{add-one}
use native.Mathlib.Omega.{arith}
use mathlib.Core.Path.{◌≡◌, refl, sym, ap, ◌∙◌}
use mathlib.Core.Bool.{Bool, true, false}
use mathlib.Core.List.{List, [], ◌∷◌, map}
use mathlib.Core.Option.{Option, some, none}
use lib.Dec.{eqb}
use lib.ListN.{length}
use borrow.Author.Tests.{lt-ltb, eqb-true}
use Rattle.rules.specs.Limits.{max_clients, max_cap, max_tidy}
use Rattle.rules.specs.Refusals.{accepted, bad_version}
use Rattle.rules.specs.Setup.{setup_answer, Accepted}
use Rattle.rules.specs.Setup as rules-setup
use Rattle.rules.specs.State.{State, fresh}
use Rattle.rules.specs.Sound.{Sound}
use Rattle.rules.specs.Records.{Heard, is_version, heard_of, answer_of, step_of}
use Rattle.rules.specs.Replay.{in_service, charges_below}
use Rattle.rules.specs.Traces as rules
use Rattle.rules.specs.Traces.{Seen, Traced, seen_after, seen_from, the_answer, the_served, the_charges}
use Rattle.rules.specs.Traces.{difference, refused}
use Rattle.rules.specs.Traces.{agrees, differs, judged, compared, heards, reported, ruled, trace_verdict}
use Rattle.rules.proofs.Tests.{by-test}
use Rattle.rules.proofs.Setups.{allowed}
use Rattle.rules.proofs.Theorems.{sound-stays}
use Rattle.gate.specs.declared.Setup.{Setup}
use Rattle.gate.specs.declared.Gate.{Gate}
use Rattle.gate.specs.Shown.{setup_of, shown}
use Rattle.gate.specs.Made.{trimmed_in}
use Rattle.gate.proofs.Making.{made-shown, trimmed-reads}
use Rattle.gate.proofs.Tables.{charges-first}
use Rattle.parts.proofs.SoundShows.{server-back, fresh-sound}
use Rattle.step.specs.Stepped.{Result}
use Rattle.step.proofs.Shown.{step-shown}
use Rattle.checking.specs.declared.Verdict.{Verdict}
use Rattle.checking.specs.declared.Verdict.TheVariants.{Refused, Agrees}
use Rattle.checking.specs.declared.Checker.{Checker}
use Rattle.text.specs.Text.{max_count, next_count}
use Rattle.checking.specs.Checking.{verdict_in, is_agreeing, verdict_at, shown_by}
use Rattle.checking.specs.Checking.{begun, entered_by, checked, fed}
use Rattle.checking.proofs.Steps.{checked-on, fed-told}

-- WHAT OUR GATE SHOWS

-- a gate that shows a state shows what the rules have seen
seen-shown : (w : Setup) (n : ℕ) (t : State) → w.clients ≤ max_clients
    → shown_by (record { number = n; gate = shown w t })
    ≡ record { answer = n; served = in_service t.server; charges = charges_below t.charge w.clients }
unfolding shown
seen-shown w n t h = rw (server-back t.server, charges-first t.charge max_clients w.clients h)

-- ENTRY BY ENTRY

-- what follows once an entry has differed, or agrees
told-by : (i : ℕ) (o : Option rules.Part) → is_agreeing (verdict_at i o) ≡ false → (others : rules.Verdict)
    → verdict_in (verdict_at i o) ≡ judged i o others
told-by i none e others = let z : ◌≡◌ {A = Bool} true false = e in cc
told-by i (some the_answer) e others = refl
told-by i (some the_served) e others = refl
told-by i (some the_charges) e others = refl

agreed-by : (i : ℕ) (o : Option rules.Part) → is_agreeing (verdict_at i o) ≡ true
    → (verdict_at i o ≡ Agrees) × ((others : rules.Verdict) → judged i o others ≡ others)
agreed-by i none e = (refl, λ others. refl)
agreed-by i (some the_answer) e = let z : ◌≡◌ {A = Bool} true false = sym e in (cc, λ others. cc)
agreed-by i (some the_served) e = let z : ◌≡◌ {A = Bool} true false = sym e in (cc, λ others. cc)
agreed-by i (some the_charges) e = let z : ◌≡◌ {A = Bool} true false = sym e in (cc, λ others. cc)

-- a checker that has seen i entries, all of which agree
abbrev agreeing : ℕ → Gate → ℕ → Checker
agreeing v g i = record { version = v; gate = g; entries = i; verdict = Agrees }

-- one that has just seen entry i, which differs in what o says
abbrev after : ℕ → Gate → ℕ → Option rules.Part → Checker
after v g i o = record { version = v; gate = g; entries = suc i; verdict = verdict_at i o }

-- the parts of a checker put together
entry-is : (v i n : ℕ) (t : Result) (s y : Seen) → n ≡ suc i → y ≡ shown_by t
    → record { version = v; gate = t.gate; entries = n; verdict = verdict_at i (difference s (shown_by t)) }
    ≡ after v t.gate i (difference s y)
entry-is v i n t s y a b = rw (a, b)

module _ (v : ℕ) (w : Setup) where
  abbrev u : rules-setup.Setup
  u = setup_of w

  module _ (t : State) (h : Sound u t) (i : ℕ) (e : Traced) where
    abbrev x : Heard
    x = heard_of v w.timed e.event

    abbrev o : Option rules.Part
    o = difference e.seen (seen_after u t x)

    -- what the next entry makes of it
    entry-on : i < max_count
        → checked (agreeing v (shown w t) i) e.event e.seen ≡ after v (shown w (step_of u t x)) i o
    unfolding shown
    entry-on b =
        let few = (allowed u h.setup).few-clients in
        let next : next_count i ≡ suc i = rw (lt-ltb i max_count b) (add-one i) in
        checked-on (agreeing v (shown w t) i) e.event e.seen refl
        ∙ ap (λ (r : Result). entered_by (agreeing v (shown w t) i) r e.seen) (step-shown w t x h)
        ∙ entry-is v i (next_count i) (record { number = answer_of u t x; gate = shown w (step_of u t x) }) e.seen
        (seen_after u t x) next (sym (seen-shown w (answer_of u t x) (step_of u t x) few))

  fed-from : (t : State) → Sound u t → (i : ℕ) (es : List Traced) → i + length es ≤ max_count
      → verdict_in (fed (agreeing v (shown w t) i) es).verdict
      ≡ compared i (map (λ (e : Traced). e.seen) es) (seen_from u t (heards v w.timed es))
  unfolding compared seen_from
  fed-from t h i [] b = refl
  fed-from t h i (e ∷ es) b =
      let d = difference e.seen (seen_after u t (heard_of v w.timed e.event)) in
      let t' = step_of u t (heard_of v w.timed e.event) in
      let others = compared (suc i) (map (λ (f : Traced). f.seen) es) (seen_from u t' (heards v w.timed es)) in
      ap (λ (k : Checker). verdict_in (fed k es).verdict) (entry-on t h i e (omega arith))
      ∙ by-test (is_agreeing (verdict_at i d))
      (λ y. let a = agreed-by i d y in
      ap (λ (z : Verdict). verdict_in (fed (record { version = v; gate = shown w t'; entries = suc i; verdict = z }) es
      ).verdict) a.0
      ∙ fed-from t' (sound-stays u t (heard_of v w.timed e.event) h) (suc i) es (omega arith)
      ∙ sym (a.1 others))
      (λ n. ap (λ (k : Checker). verdict_in k.verdict) (fed-told (after v (shown w t') i d) es n)
      ∙ told-by i d n others)

-- THE WHOLE TRACE

-- a checker with a verdict that is told
stays-told : (k : Checker) (es : List Traced) {x : Verdict} → k.verdict ≡ x → is_agreeing x ≡ false
    → verdict_in (fed k es).verdict ≡ verdict_in x
stays-told k es e n =
    ap (λ (j : Checker). verdict_in j.verdict) (fed-told k es (ap is_agreeing e ∙ n)) ∙ ap verdict_in e

-- the checker's first verdict, and the trace's, by version and setup
module _ (v : ℕ) (s : Setup) (es : List Traced) where
  abbrev n : ℕ
  n = setup_answer (setup_of s)

  begun-unknown : is_version v ≡ false → (begun v s).verdict ≡ Refused bad_version
  unfolding begun
  begun-unknown y = rw y

  begun-refused : is_version v ≡ true → eqb n accepted ≡ false → (begun v s).verdict ≡ Refused n
  unfolding begun
  begun-refused y z = rw (y, z)

  begun-accepted : is_version v ≡ true → eqb n accepted ≡ true
      → begun v s ≡ agreeing v (shown (trimmed_in s) fresh) 0
  unfolding begun
  begun-accepted y z = rw (y, z, made-shown s (eqb-true n accepted z))

  trace-unknown : is_version v ≡ false → trace_verdict v (setup_of s) es ≡ refused bad_version
  unfolding trace_verdict
  trace-unknown y = rw y

  trace-refused : is_version v ≡ true → eqb n accepted ≡ false → trace_verdict v (setup_of s) es ≡ refused n
  unfolding trace_verdict
  trace-refused y z = rw (y, z)

  trace-compared : is_version v ≡ true → eqb n accepted ≡ true
      → trace_verdict v (setup_of s) es ≡ compared 0 (reported v (setup_of s) es) (ruled v (setup_of s) es)
  unfolding trace_verdict
  trace-compared y z = rw (y, z)

-- Feeding the entries of a trace one by one comes to its verdict, whatever that is. (Nobody feeds 2^64 entries.)
pub fed-verdict : (v : ℕ) (s : Setup) → s.cap ≤ max_cap → s.tidy ≤ max_tidy → (es : List Traced)
    → length es ≤ max_count → verdict_in (fed (begun v s) es).verdict ≡ trace_verdict v (setup_of s) es
fed-verdict v s low few es fits =
    let m = setup_answer (setup_of s) in
    by-test (is_version v)
    (λ y. by-test (eqb m accepted)
    (λ z. let a : Accepted (setup_of s)
    = record { no_refusal = eqb-true m accepted z; sixteen_bits = low; tidy_bits = few } in
    ap (λ (k : Checker). verdict_in (fed k es).verdict) (begun-accepted v s es y z)
    ∙ fed-from v (trimmed_in s) fresh (fresh-sound s a) 0 es (omega arith)
    ∙ ap (λ (r : rules-setup.Setup). compared 0 (reported v r es) (seen_from r fresh (heards v r.timed es)))
    (trimmed-reads s)
    ∙ sym (trace-compared v s es y z))
    (λ z. stays-told (begun v s) es (begun-refused v s es y z) refl ∙ sym (trace-refused v s es y z)))
    (λ y. stays-told (begun v s) es (begun-unknown v s es y) refl ∙ sym (trace-unknown v s es y))
