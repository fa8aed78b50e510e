-- `form::answer` meets its contract: the order is asked for, and its answer is written.
-- Assumes nothing.
use mathlib.Core.Path.{sym, subst}
use lib.Seq.{length-take-le}
use Rattle.rules.specs.Quote.{Quote}
use Rattle.text.specs.Text.{WroteAt}
use Rattle.form.specs.Output.{line}
use Rattle.form.proofs.answer.Goals as goal

pub slice_bounds-ask-end : goal.slice_bounds-ask-end
slice_bounds-ask-end c =
    sym (length-take-le c.args.n c.args.room.now c.requires.n_in_bounds)

pub returns : goal.returns
returns c = let p = c.put_answer in
    let a = c.args in record {
      wrote_at =
          subst (λ (x : Quote). WroteAt a.at (line x) a.out.now p.new.out p.result) c.ask.ensures p.ensures.wrote_at;
      upper_bound = p.ensures.upper_bound;
    }
