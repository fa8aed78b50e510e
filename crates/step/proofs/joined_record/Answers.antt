-- `step::joined_record` meets its contract: the parts go in, and come back.
-- Assumes nothing.
use mathlib.Core.Path.{◌≡◌}
use lib.ListN.{length}
use borrow.Author.Rules.{rules}
use Rattle.step.proofs.Doors.{answered, given, holds, in-range}
use Rattle.step.proofs.joined_record.Goals as goal

pub sound_record-r-requires : goal.sound_record-r-requires
sound_record-r-requires c =
    let far = c.well_formed.0.1.1.1.1.1.1.1.1.1 in
    let n : length c.args.s.homes ≡ 64 = search (rules, far.0) in
    let p : length c.args.s.priorities ≡ 64 = search (rules, far.1) in
    in-range (holds c.args.s c.args.q c.args.charges c.args.deadlines p c.requires) n

pub returns : goal.returns
returns c =
    let far = c.well_formed.0.1.1.1.1.1.1.1.1.1.1 in
    let p : length c.args.s.priorities ≡ 64 = search (rules, far) in
    let r = c.sound_record-r in
    let k = c.keys_of-keys in
    let v = c.args.s in
    let h = holds v c.args.q c.args.charges c.args.deadlines p c.requires in
    rw (c.gate_of.ensures, c.deadlines_of-due.ensures)
    (answered v c.args.q c.args.charges c.args.deadlines p c.requires r.result _ _ _
    (r.ensures v _ (given v) (rw k.ensures h)))
