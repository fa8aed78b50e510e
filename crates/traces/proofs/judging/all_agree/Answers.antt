-- `traces::judging::all_agree` meets its contract, by whether a line has begun.
-- Assumes nothing.
use borrow.Author.Rules.{rules}
use native.Mathlib.Omega.{arith}
use mathlib.Core.Path.{◌≡◌, ◌∙◌}
use lib.ListN.{length}
use Rattle.traces.specs.Reading.{room_bytes}
use Rattle.traces.proofs.Closing.{agreed-none, agreed-some}
use Rattle.traces.proofs.judging.all_agree.Goals as goal

-- the room is whole
room : (c : goal.After-lacking_line) → length c.args.held.room ≡ room_bytes
room c = search rules

pub returns-then-held-eq0 : goal.returns-then-held-eq0
returns-then-held-eq0 c =
    let h = c.args.held in
    agreed-none h.trace h.room h.n c.if-held-eq0.true

pub returns : goal.returns
returns c =
    let h = c.args.held in
    c.lacking_line.ensures ∙ agreed-some h.trace h.room h.n c.if-held-eq0.false (omega (arith, room c))
