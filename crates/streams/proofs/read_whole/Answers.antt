-- What is held is what the input has lost.
use Rattle.std.proofs.Common.{arith, sym, ◌∙◌}
use Rattle.streams.proofs.Known.{more-lost}
use Rattle.streams.proofs.read_whole.Goals as goal

pub loop-n-preserved : goal.loop-n-preserved
loop-n-preserved g c =
    let read = c.read_some-read in
    let more =
    more-lost _ _ _ c.loop-n.n _ read.result c.loop-n.room _ _ c.loop-n.invariant.0 read.ensures.within
    c.loop-n.invariant.1 read.ensures.bytes (sym c.in-Continue.is ∙ c.standing_after.ensures) in
    (omega (arith, more, read.auto.part), more.2)
