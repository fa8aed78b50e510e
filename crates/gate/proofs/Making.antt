-- The gate that is made of a setup, accepted or refused.
-- Assumes nothing.
use mathlib.Core.Path.{◌≡◌, sym, ap, ◌∙◌, fun_ext}
use mathlib.Core.Bool.{cond}
use lib.Dec.{eqb}
use Rattle.std.proofs.Common.{Result}
use borrow.Author.Tests.{eq-eqb}
use Rattle.rules.specs.Refusals.{accepted}
use Rattle.rules.proofs.Tests.{by-test}
use Rattle.rules.specs.Setup as rules
use Rattle.rules.specs.Setup.{setup_answer}
use Rattle.rules.specs.State.{fresh}
use Rattle.gate.specs.declared.Setup.{Setup}
use Rattle.gate.specs.declared.Gate.{Gate}
use Rattle.gate.specs.declared.Refusal.{Refusal}
use Rattle.gate.specs.Shown.{setup_of, shown}
use Rattle.gate.specs.Made.{Told, told, verdict_of, trimmed_in, empty_bytes, empty_gate, fresh_gate, made_of, made}
use Rattle.gate.proofs.Zeros.{zeros-at}

module _ (s : Setup) (v : Result (Unit {0}) Refusal) (g : Gate) (e : told v ≡ verdict_of (setup_of s)) where
  pub made-by : (w : Setup) → w ≡ cond (eqb (told v).number accepted) (trimmed_in s) empty_bytes → g ≡ shown w fresh
      → made_of (record { verdict = v; gate = g }) ≡ made s
  unfolding made fresh_gate empty_gate verdict_of
  made-by w p q = by-test (eqb (told v).number accepted)
      (λ a. let b = ap (λ (t : Told). eqb t.number accepted) (sym e) ∙ a in rw (q, p, a, e, b))
      (λ a. let b = ap (λ (t : Told). eqb t.number accepted) (sym e) ∙ a in rw (q, p, a, e, b))

-- An accepted setup's gate is at rest, with zeros past N and K.
pub made-shown : (v : Setup) → setup_answer (setup_of v) ≡ accepted → (made v).gate ≡ shown (trimmed_in v) fresh
unfolding made fresh_gate
made-shown v a = rw (eq-eqb (setup_answer (setup_of v)) accepted a)

-- the bytes with zeros past N and K hold the rules' setup with zeros there
pub trimmed-reads : (v : Setup) → setup_of (trimmed_in v) ≡ rules.trimmed (setup_of v)
unfolding trimmed_in
trimmed-reads v =
    rw (
      fun_ext (zeros-at v.clusters v.sizes),
      fun_ext (zeros-at v.clients v.kinds),
      fun_ext (zeros-at v.clients v.homes),
      fun_ext (zeros-at v.clients v.priorities),
    )
