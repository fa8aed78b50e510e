-- `gate::Gate::fresh` meets its contract.
-- Assumes nothing.
use mathlib.Core.Path.{◌≡◌, sym, ◌∙◌}
use mathlib.Core.Bool.{cond}
use lib.Dec.{eqb}
use Rattle.rules.specs.Refusals.{accepted}
use Rattle.gate.specs.Made.{told, trimmed_in, empty_bytes}
use Rattle.gate.proofs.Making.{made-by}
use Rattle.gate.proofs.Gate.fresh.Goals as goal
use Rattle.gate.proofs.Gate.fresh.Goals.{then-is_accepted, else-is_accepted}

pub returns : goal.returns
returns c =
    let s = c.args.s in
    let v = c.setup_verdict-verdict.result in
    let w = c.if-is_accepted.kept in
    let kept : w ≡ cond (eqb (told v).number accepted) (trimmed_in s) empty_bytes = elim c.if-is_accepted.branch [
      | then-is_accepted b ↦ rw (sym c.is_accepted.ensures ∙ b.if-is_accepted.true) (b.kept-is ∙ b.trimmed-kept.ensures)
      | else-is_accepted b ↦ rw (sym c.is_accepted.ensures ∙ b.if-is_accepted.false) (b.kept-is ∙ b.empty_setup-kept.ensures)
    ] in
    made-by s v c.at_rest.result c.setup_verdict-verdict.ensures w kept c.at_rest.ensures
