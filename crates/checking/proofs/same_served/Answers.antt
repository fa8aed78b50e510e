-- `checking::same_served` meets its contract, by whom the kernel says.
-- Assumes nothing.
use mathlib.Core.Path.{sym, ap, ◌∙◌}
use mathlib.Core.Bool.{not}
use Rattle.gate.specs.Shown.{server_of}
use Rattle.checking.proofs.Same.{nobody-served, client-served}
use Rattle.checking.proofs.same_served.Goals as goal

pub returns-in-None : goal.returns-in-None
returns-in-None c =
    let v = server_of c.args.s in
    rw c.in-None.is (ap not c.is_serving.ensures ∙ sym (nobody-served v))

pub returns-in-Some : goal.returns-in-Some
returns-in-Some c =
    let a = c.args in
    let v = server_of a.s in
    rw c.in-Some.is
    (rw c.from.ensures at c.serves.ensures ∙ sym (client-served v _))
