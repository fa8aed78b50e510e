-- `group_tells::put_malformed` meets its contract: a word, a number and an LF, each behind what was written before.
-- Assumes nothing.
use native.Mathlib.Omega.{arith}
use Rattle.text.proofs.Written.{wrote_on}
use Rattle.group_tells.specs.Tells.{malformed_text}
use Rattle.group_tells.proofs.put_malformed.Goals as goal

pub returns : goal.returns
unfolding malformed_text
returns c =
    let front = wrote_on c.put_bytes-i.ensures (omega arith) c.put_number-j.ensures.wrote_at in record {
      wrote_at = wrote_on front (omega arith) c.put_byte.ensures;
      upper_bound = omega (arith, c.put_byte.ensures.ends, c.put_number-j.ensures.upper_bound, c.put_bytes-i.ensures.ends);
    }
