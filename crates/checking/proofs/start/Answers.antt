-- `checking::start` meets its contract.
-- Assumes nothing.
use mathlib.Core.Path.{sym, ap, ◌∙◌, subst}
use borrow.Author.Rules.{rules}
use Rattle.gate.specs.Made.{Made}
use Rattle.checking.specs.Checking.{Going}
use Rattle.checking.proofs.Steps.{begun-is, begun-going}
use Rattle.checking.proofs.start.Goals as goal

pub returns : goal.returns
returns c =
    let f = c.fresh-f.ensures in
    let is = begun-is c.args.version c.args.s (ap (λ (m : Made). m.gate) f)
    (c.number.ensures ∙ ap (λ (m : Made). m.told.number) f) c.first_verdict-first.ensures in record {
      value = is;
      going = subst Going (sym is) (begun-going c.args.version c.args.s (search rules) (search rules));
    }
