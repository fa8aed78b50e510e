-- `traces::judging::put_line` meets its contract: piece behind piece.
-- Assumes nothing.
use native.Mathlib.Omega.{arith}
use Rattle.text.proofs.Written.{wrote_on}
use Rattle.traces.proofs.judging.put_line.Goals as goal

pub returns : goal.returns
returns c =
    let w = c.put_bytes-a.ensures in
    let w = wrote_on w (omega (arith, c.requires, w.ends)) c.put_number-b.ensures.wrote_at in
    wrote_on w (omega (arith, c.requires, c.put_bytes-a.ensures.ends, c.put_number-b.ensures.upper_bound))
    c.put_bytes.ensures
