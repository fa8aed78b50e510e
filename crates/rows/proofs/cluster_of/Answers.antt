-- `rows::cluster_of` meets its contract.
-- Assumes nothing.
use mathlib.Core.Path.{sym}
use native.Mathlib.Omega.{arith}
use lib.ListN.{get_or-eq_default}
use Rattle.rows.proofs.cluster_of.Goals as goal

pub returns-then-c-ge-MAX_CLIENTS : goal.returns-then-c-ge-MAX_CLIENTS
returns-then-c-ge-MAX_CLIENTS c =
    let a = c.args in
    let n = c.requires in
    sym (get_or-eq_default a.homes.now 0 (omega (arith, n)))
