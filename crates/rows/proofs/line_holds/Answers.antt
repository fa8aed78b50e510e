-- `rows::line_holds` meets its contract: x is there exactly where a place is found.
-- Assumes nothing.
use mathlib.Core.Path.{◌≡◌, sym, ap, ◌∙◌}
use borrow.Author.Rules.{rules}
use lib.Dec.{ltb}
use lib.ListN.{length}
use Rattle.rules.specs.Limits.{max_size}
use Rattle.places.specs.Places.{place_of}
use Rattle.places.proofs.Queues.{place-has}
use Rattle.rows.proofs.line_holds.Goals as goal

pub returns : goal.returns
returns c =
    let a = c.args in
    let all : length a.l.places ≡ max_size = search rules in
    rw c.find.ensures (ap (ltb (place_of a.x a.l.places)) (sym all) ∙ place-has a.x a.l.places)
