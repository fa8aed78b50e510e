-- `tracing::tabled` meets its contract.
-- Assumes nothing.
use native.Mathlib.Omega.{arith}
use borrow.Author.Tests.{lt-ltb, le-ltb}
use Rattle.tracing.proofs.Taken.{rows_left, rows-done}
use Rattle.tracing.proofs.stages.tabled.Goals as goal

pub returns-then-rows-from : goal.returns-then-rows-from
returns-then-rows-from c =
    let a = c.args in (
      rows_left a.t a.rows a.s
          (lt-ltb a.rows a.s.clients (omega (arith, c.if-rows-from.true, c.from.ensures))),
      c.requires,
    )

pub returns : goal.returns
returns c =
    let a = c.args in (
      rows-done a.t a.rows a.s
          (le-ltb a.rows a.s.clients (omega (arith, c.if-rows-from.false, c.from.ensures)))
          c.start.ensures.value c.ranked-first.ensures.0,
      c.ranked-first.ensures.1,
    )
