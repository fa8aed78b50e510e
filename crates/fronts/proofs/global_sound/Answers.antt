-- `fronts::global_sound` meets its contract.
-- Assumes nothing.
use Prim.Native.Nat.{ℕ}
use mathlib.Core.Path.{sym, ap, ◌∙◌}
use mathlib.Core.Option.{Option}
use lib.Dec.{eqb}
use Rattle.seen.specs.Seen.{seen_of}
use Rattle.fronts.specs.Answers.{then_test}
use Rattle.fronts.proofs.global_sound.Goals as goal

pub returns-in_default : goal.returns-in_default
returns-in_default c =
    ap (λ (o : Option ℕ). then_test o (λ (t : ℕ). eqb t c.args.fronts))
    (sym (ap seen_of c.in_default.is) ∙ c.queue_seen.ensures)

pub returns : goal.returns
returns c =
    ap (λ (o : Option ℕ). then_test o (λ (t : ℕ). eqb t c.args.fronts))
    (sym (ap seen_of c.in-Some.is) ∙ c.queue_seen.ensures)
