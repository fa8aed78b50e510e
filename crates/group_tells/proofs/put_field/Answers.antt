-- `group_tells::put_field` meets its contract, by the cases of the delegate.
-- Assumes nothing.
use native.Mathlib.Omega.{arith}
use Rattle.text.proofs.Written.{wrote_on}
use Rattle.group_tells.proofs.put_field.Goals as goal

pub returns-in-Nobody : goal.returns-in-Nobody
returns-in-Nobody c =
    rw c.in-Nobody.is (record {
      wrote_at = c.put_bytes.ensures;
      upper_bound = omega (arith, c.put_bytes.ensures.ends);
    })

pub returns-in-Server : goal.returns-in-Server
returns-in-Server c =
    rw c.in-Server.is (record {
      wrote_at = rw (← c.from.ensures) (wrote_on c.put_bytes-i.ensures (omega arith) c.put_number.ensures.wrote_at);
      upper_bound = omega (arith, c.put_bytes-i.ensures.ends, c.put_number.ensures.upper_bound);
    })

pub returns-in-Context : goal.returns-in-Context
returns-in-Context c =
    rw c.in-Context.is (record {
      wrote_at = rw (← c.from-in-Context.ensures) (wrote_on c.put_bytes-i-in-Context.ensures (omega arith) c.put_number-in-Context.ensures.wrote_at);
      upper_bound = omega (
        arith,
        c.put_bytes-i-in-Context.ensures.ends,
        c.put_number-in-Context.ensures.upper_bound,
      );
    })
