-- `setup_check::clients_below` meets its contract: the loop holds the clients passed.
-- Assumes nothing.
use mathlib.Core.Path.{◌≡◌}
use native.Mathlib.Omega.{arith}
use Rattle.gate.specs.Shown.{table}
use Rattle.setup_check.proofs.Sets.{no-clients}
use Rattle.setup_check.proofs.clients_below.Goals as goal

pub loop-c-init : goal.loop-c-init
unfolding table
loop-c-init c = no-clients c.args.kinds.now c.args.homes.now

pub with_client-all-requires : goal.with_client-all-requires
with_client-all-requires c =
    let l = c.loop-c in
    (omega arith, c.requires.1.low l.c, l.invariant)

pub returns : goal.returns
returns c =
    let l = c.loop-c in
    let e : l.c ≡ c.args.n = omega arith in
    rw (← e) l.invariant
