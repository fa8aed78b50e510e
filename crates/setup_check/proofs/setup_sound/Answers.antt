-- `setup_check::setup_sound` meets its contract.
-- Assumes nothing.
use mathlib.Core.Path.{sym, ap, ◌∙◌}
use lib.Dec.{eqb}
use borrow.Author.Rules.{rules}
use borrow.Author.Tests.{le-leb}
use Rattle.rules.specs.Limits.{max_cap, max_tidy}
use Rattle.rules.specs.Refusals.{accepted}
use Rattle.gate.specs.Made.{Told, verdict_of}
use Rattle.soundness.specs.Clauses.{setup_sound, is_trimmed}
use Rattle.setup_check.proofs.setup_sound.Goals as goal

pub returns-then-not-is_accepted : goal.returns-then-not-is_accepted
unfolding setup_sound verdict_of
returns-then-not-is_accepted c =
    let v = c.setup_verdict-verdict in
    let a = c.is_accepted in
    let e = sym (ap (λ (t : Told). eqb t.number accepted) v.ensures) ∙ sym a.ensures in
    rw (e ∙ c.if-not-is_accepted.true)

pub returns : goal.returns
unfolding setup_sound is_trimmed verdict_of
returns c =
    let s = c.args.s in
    rw (
      sym (ap (λ (t : Told). eqb t.number accepted) c.setup_verdict-verdict.ensures)
          ∙ sym c.is_accepted.ensures ∙ c.if-not-is_accepted.false,
      le-leb s.cap max_cap (search rules),
      le-leb s.tidy max_tidy (search rules),
    ) c.is_trimmed.ensures
