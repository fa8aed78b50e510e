-- `checking::entered` meets its contract: our own charges are those of the first N clients.
-- Assumes nothing.
use Prim.Native.Nat.{ℕ, min}
use native.Mathlib.Omega.{arith}
use mathlib.Core.Path.{◌≡◌, sym, ap, ◌∙◌}
use lib.ListN.{length, take}
use lib.Seq.{length-take-le}
use borrow.Author.Rules.{rules}
use Rattle.text.proofs.Firsts.{take-least}
use Rattle.checking.specs.Checking.{seen_in}
use Rattle.checking.proofs.Steps.{entered-is}
use Rattle.checking.proofs.entered.Goals as goal

pub slice_bounds-ours-end : goal.slice_bounds-ours-end
slice_bounds-ours-end c =
    let n : length c.args.g.charges ≡ 64 = search rules in
    sym (length-take-le c.min-clients.result c.args.g.charges
    (omega (arith, c.min-clients.ensures, n)))

pub returns : goal.returns
returns c =
    let a = c.args in
    let n : length a.g.charges ≡ 64 = search rules in
    let clients = c.min-clients.ensures
    ∙ ap (λ (n : ℕ). min n 64) c.from.ensures
    ∙ ap (min a.g.setup.clients) (sym n) in
    entered-is a.k a.n a.g (seen_in a.answer a.says a.theirs.now) c.next_count.ensures
    (ap (λ (n : ℕ). take n a.g.charges) clients ∙ take-least a.g.setup.clients a.g.charges)
    c.verdict_at-v.ensures
