-- Lines E, one by one, feed the checker with the entries that they say: what it comes to is the verdict on the whole
-- trace (`checking`: `fed-verdict`).
-- Assumes nothing.
use Prim.Native.Nat.{ℕ}
use mathlib.Core.Path.{◌≡◌, refl, sym, ap, ◌∙◌}
use mathlib.Core.Bool.{true, false, not}
use mathlib.Core.List.{List, [], ◌∷◌, map}
use Rattle.rules.proofs.Tests.{by-test}
use Rattle.gate.specs.declared.Setup.{Setup}
use Rattle.text.specs.Text.{space}
use Rattle.checking.specs.declared.Checker.{Checker}
use Rattle.text.specs.Text.{next_count}
use Rattle.checking.specs.Checking.{is_agreeing, checked, fed}
use Rattle.checking.proofs.Steps.{checked-told, checked-version}
use Rattle.lines.specs.Lines.{values_of}
use Rattle.tracing.specs.declared.Stage.TheVariants.{Entries}
use Rattle.tracing.specs.declared.Trace.{Trace}
use Rattle.tracing.specs.Shapes.{entry_fits}
use Rattle.tracing.specs.Tracing.{trace, taken, taken_all, traced_in, AllEntries}
use Rattle.tracing.proofs.Lines.{decided-stays, taken-on}

module _ (v r q : ℕ) (s : Setup) where
  abbrev at : ℕ → Checker → Trace
  at n k = trace Entries n r q s k

  -- one line: it is counted while the trace agrees
  entry-taken : (n : ℕ) (k : Checker) (l : List ℕ) → k.version ≡ v → is_agreeing k.verdict ≡ true
      → entry_fits v (values_of 69 space l) ≡ true
      → taken (at n k) l ≡ at (next_count n) (checked k (traced_in v l).event (traced_in v l).seen)
  entry-taken n k l w e f = let d : not (is_agreeing k.verdict) ≡ false = ap not e in
      taken-on (at n k) l d ∙ rw (w, f)

  decided : (n : ℕ) (k : Checker) (l : List ℕ) → is_agreeing k.verdict ≡ false → taken (at n k) l ≡ at n k
  decided n k l e = decided-stays (at n k) l (ap not e)

  pub entries-fed : (n : ℕ) (k : Checker) → k.version ≡ v → (ls : List (List ℕ)) → AllEntries v ls
      → (taken_all (at n k) ls).checker ≡ fed k (map (traced_in v) ls)
  entries-fed n k w [] all = refl
  entries-fed n k w (l ∷ ls) all =
      let e = traced_in v l in
      by-test (is_agreeing k.verdict)
      (λ y. ap (λ (t : Trace). (taken_all t ls).checker) (entry-taken n k l w y all.0)
      ∙ entries-fed (next_count n) (checked k e.event e.seen) (checked-version k e.event e.seen ∙ w) ls
      all.1)
      (λ f. ap (λ (t : Trace). (taken_all t ls).checker) (decided n k l f)
      ∙ entries-fed n k w ls all.1
      ∙ ap (λ (j : Checker). fed j (map (traced_in v) ls)) (sym (checked-told k e.event e.seen f)))
