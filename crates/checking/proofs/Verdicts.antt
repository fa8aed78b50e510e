-- The verdicts that the code comes to, case by case.
-- Assumes nothing.
use Prim.Native.Nat.{ℕ}
use mathlib.Core.Path.{◌≡◌}
use mathlib.Core.Bool.{true, false}
use borrow.Author.Tests.{eq-eqb, ne_eqb}
use Rattle.rules.specs.Refusals.{accepted, bad_version}
use Rattle.rules.specs.Records.{is_version}
use Rattle.rules.specs.Traces.{Seen, same_served, same_charges, difference}
use Rattle.checking.specs.declared.Part.TheVariants as part
use Rattle.checking.specs.declared.Verdict.TheVariants.{Refused, Agrees, Differs}
use Rattle.checking.specs.Checking.{first_verdict, verdict_at}

-- BEFORE THE FIRST ENTRY

module _ (v n : ℕ) where
  pub first-unknown : is_version v ≡ false → first_verdict v n ≡ Refused bad_version
  first-unknown e = rw e

  pub first-refused : is_version v ≡ true → (n ≡ accepted → ⊥) → first_verdict v n ≡ Refused n
  first-refused e h = rw (e, ne_eqb n accepted h)

  pub first-agrees : is_version v ≡ true → n ≡ accepted → first_verdict v n ≡ Agrees
  first-agrees e h = rw (e, eq-eqb n accepted h)

-- AFTER AN ENTRY

module _ (i : ℕ) (a b : Seen) where
  pub answer-differs : (a.answer ≡ b.answer → ⊥) → verdict_at i (difference a b) ≡ Differs i part.Answer
  answer-differs h = rw (ne_eqb a.answer b.answer h)

  pub served-differs : a.answer ≡ b.answer → same_served a.served b.served ≡ false
      → verdict_at i (difference a b) ≡ Differs i part.Served
  served-differs h e = rw (eq-eqb a.answer b.answer h, e)

  pub charges-differ : a.answer ≡ b.answer → same_served a.served b.served ≡ true
      → same_charges a.charges b.charges ≡ false → verdict_at i (difference a b) ≡ Differs i part.Charges
  charges-differ h e f = rw (eq-eqb a.answer b.answer h, e, f)

  pub entry-agrees : a.answer ≡ b.answer → same_served a.served b.served ≡ true
      → same_charges a.charges b.charges ≡ true → verdict_at i (difference a b) ≡ Agrees
  entry-agrees h e f = rw (eq-eqb a.answer b.answer h, e, f)
