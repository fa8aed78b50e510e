-- `quote::lines_out` meets its contract. The loop's invariant: the first bad field of the lines that are left,
-- counted from the first line, is that of all lines.
-- Assumes nothing.
use native.Mathlib.Omega.{arith}
use mathlib.Core.Path.{ap}
use mathlib.Core.Bool.{not}
use Rattle.rules.specs.Limits.{max_calls, max_cap, max_tidy}
use Rattle.quote.proofs.Ranges.{told-out, told-in}
use Rattle.quote.proofs.Lines.{at, calls-out, cap-out, tidy-out, all-three-in, none_out}
use Rattle.quote.proofs.lines_out.Goals as goal

pub returns-then-not-in_range-clause-place : goal.returns-then-not-in_range-clause-place
returns-then-not-in_range-clause-place c =
    let a = c.args in
    let r = c.in_range in
    let x = at a.calls.now c.loop-i.i in
    let n = told-out 0 max_calls x c.in_range-arg-1.given r.result r.ensures (ap not c.if-not-in_range.true) in
    omega (
      arith,
      calls-out a.calls.now a.caps.now a.tidies.now c.loop-i.i (omega arith) c.requires.0 n,
    )

pub returns-then-not-in_range-2-clause-place : goal.returns-then-not-in_range-2-clause-place
returns-then-not-in_range-2-clause-place c =
    let a = c.args in
    let r = c.in_range-in-loop-i in
    let n = told-in 0 max_calls (at a.calls.now c.loop-i.i) c.in_range-arg-1.given c.in_range.result c.in_range.ensures
    (ap not c.if-not-in_range.false) in
    let x = at a.caps.now c.loop-i.i in
    let y = told-out 1 max_cap x c.in_range-arg-in-loop-i-1.given r.result r.ensures
    (ap not c.if-not-in_range-2.true) in
    omega (
      arith,
      cap-out a.calls.now a.caps.now a.tidies.now c.loop-i.i (omega arith) c.requires.0 n y,
    )

pub returns-then-not-in_range-3-clause-place : goal.returns-then-not-in_range-3-clause-place
returns-then-not-in_range-3-clause-place c =
    let a = c.args in
    let r = c.in_range-in-loop-i-2 in
    let n = told-in 0 max_calls (at a.calls.now c.loop-i.i) c.in_range-arg-1.given c.in_range.result c.in_range.ensures
    (ap not c.if-not-in_range.false) in
    let x = at a.tidies.now c.loop-i.i in
    let y = told-out 0 max_tidy x c.in_range-arg-in-loop-i-2-1.given r.result r.ensures
    (ap not c.if-not-in_range-3.true) in
    let l = told-in 1 max_cap (at a.caps.now c.loop-i.i) c.in_range-arg-in-loop-i-1.given
    c.in_range-in-loop-i.result c.in_range-in-loop-i.ensures (ap not c.if-not-in_range-2.false) in
    let even = c.requires.0 in
    omega (
      arith,
      tidy-out a.calls.now a.caps.now a.tidies.now c.loop-i.i (omega arith) even n l y,
    )

pub loop-i-preserved : goal.loop-i-preserved
loop-i-preserved c =
    let a = c.args in
    let r = c.in_range-in-loop-i-2 in
    let x = at a.tidies.now c.loop-i.i in
    let y = told-in 0 max_tidy x c.in_range-arg-in-loop-i-2-1.given r.result r.ensures
    (ap not c.if-not-in_range-3.false) in
    let n = told-in 0 max_calls (at a.calls.now c.loop-i.i) c.in_range-arg-1.given c.in_range.result c.in_range.ensures
    (ap not c.if-not-in_range.false) in
    let l = told-in 1 max_cap (at a.caps.now c.loop-i.i) c.in_range-arg-in-loop-i-1.given
    c.in_range-in-loop-i.result c.in_range-in-loop-i.ensures (ap not c.if-not-in_range-2.false) in
    let even = c.requires.0 in
    omega (
      arith,
      all-three-in a.calls.now a.caps.now a.tidies.now c.loop-i.i (omega arith) even
          (record { calls = n; cap = l; tidy = y }),
    )

pub returns-clause-place : goal.returns-clause-place
returns-clause-place c = let a = c.args in
    omega (arith, none_out a.calls.now a.caps.now a.tidies.now c.loop-i.i (omega arith))
