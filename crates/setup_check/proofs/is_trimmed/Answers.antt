-- `setup_check::is_trimmed` meets its contract.
-- Assumes nothing.
use mathlib.Core.Path.{sym, ◌∙◌}
use lib.ListN.{drop}
use Rattle.rules.proofs.Tests.{clash}
use Rattle.setup_check.proofs.Sets.{all_zero}
use Rattle.setup_check.proofs.is_trimmed.Goals as goal
use Rattle.setup_check.proofs.is_trimmed.Goals.{then-holds_only_from, else-holds_only_from}
use Rattle.setup_check.proofs.is_trimmed.Goals.{then-holds_only_from-2, else-holds_only_from-2}

pub returns-then-holds_only_from-3 : goal.returns-then-holds_only_from-3
returns-then-holds_only_from-3 c =
    let s = c.args.s.now in
    let z = c.zero_priorities_from.ensures ∙ all_zero (drop c.from-n.result s.priorities) in
    let v = c.if-holds_only_from-3.true in
    elim c.if-holds_only_from-2.branch [
      | then-holds_only_from-2 x ↦
          let h = sym x.holds_only_from-then-holds_only_from-2.ensures ∙ sym x.value-is ∙ v in
          elim c.if-holds_only_from.branch [
            | then-holds_only_from y ↦
                let k = sym y.holds_only_from-then-holds_only_from.ensures ∙ sym y.value-is ∙ x.if-holds_only_from-2.true in
                rw (← c.from-k.ensures, ← c.from-n.ensures, sym c.holds_only_from.ensures ∙ y.if-holds_only_from.true, k, h) z
            | else-holds_only_from y ↦ clash x.if-holds_only_from-2.true (y.value-is ∙ y.if-holds_only_from.false)
          ]
      | else-holds_only_from-2 x ↦ clash v (x.value-is ∙ x.if-holds_only_from-2.false)
    ]
