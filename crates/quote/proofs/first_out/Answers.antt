-- `quote::first_out` meets its contract: the fields are tested in their order, and the first that fails is the place.
-- Assumes nothing.
use Prim.Native.Nat.{ℕ, ◌^◌, ◌<◌}
use native.Mathlib.Omega.{arith}
use mathlib.Core.Path.{◌≡◌, ap}
use mathlib.Core.Bool.{Bool, true, not}
use lib.IntN.{ℤ}
use lib.Signed.{mag}
use Rattle.rules.specs.Limits.{max_work, max_period, max_size, max_clusters}
use Rattle.rules.specs.Quote.{in_range}
use Rattle.quote.specs.Steps.{fields_out}
use Rattle.quote.proofs.Ranges.{told-out, told-in, read}
use Rattle.quote.proofs.first_out.Goals as goal

-- a field whose test has passed is in its range
passed : (low high : ℕ) (x : ℤ) (fits : mag x < 2 ^ 63) {r : Bool} → r ≡ in_range low high (read x) → r ≡ true
    → in_range low high x ≡ true
passed low high x fits e t = told-in low high x fits _ e (ap not t)

pub returns-then-not-in_range-clause-place : goal.returns-then-not-in_range-clause-place
unfolding fields_out
returns-then-not-in_range-clause-place c =
    let r = c.in_range in
    let out = told-out 1 max_work c.args.e c.ranges.e.sfits r.result r.ensures (ap not c.if-not-in_range.true) in
    rw (out)

pub returns-then-not-in_range-2-clause-place : goal.returns-then-not-in_range-2-clause-place
unfolding fields_out
returns-then-not-in_range-2-clause-place c =
    let r = c.in_range-2 in
    let out = told-out 1 max_period c.args.p c.ranges.p.sfits r.result r.ensures (ap not c.if-not-in_range-2.true) in
    let work_in = passed 1 max_work c.args.e c.ranges.e.sfits c.in_range.ensures c.if-not-in_range.false in
    rw (work_in, out)

pub returns-then-not-in_range-3-clause-place : goal.returns-then-not-in_range-3-clause-place
unfolding fields_out
returns-then-not-in_range-3-clause-place c =
    let r = c.in_range-3 in
    let out = told-out 1 max_size c.args.m c.ranges.m.sfits r.result r.ensures (ap not c.if-not-in_range-3.true) in
    let work_in = passed 1 max_work c.args.e c.ranges.e.sfits c.in_range.ensures c.if-not-in_range.false in
    let period-in = passed 1 max_period c.args.p c.ranges.p.sfits c.in_range-2.ensures c.if-not-in_range-2.false in
    rw (work_in, period-in, out)

pub returns-then-not-in_range-4-clause-place : goal.returns-then-not-in_range-4-clause-place
unfolding fields_out
returns-then-not-in_range-4-clause-place c =
    let r = c.in_range-4 in
    let out = told-out 1 max_clusters c.args.k c.ranges.k.sfits r.result r.ensures (ap not c.if-not-in_range-4.true) in
    let work_in = passed 1 max_work c.args.e c.ranges.e.sfits c.in_range.ensures c.if-not-in_range.false in
    let period-in = passed 1 max_period c.args.p c.ranges.p.sfits c.in_range-2.ensures c.if-not-in_range-2.false in
    let size_in = passed 1 max_size c.args.m c.ranges.m.sfits c.in_range-3.ensures c.if-not-in_range-3.false in
    rw (work_in, period-in, size_in, out)

pub returns-clause-place : goal.returns-clause-place
unfolding fields_out
returns-clause-place c =
    let work_in = passed 1 max_work c.args.e c.ranges.e.sfits c.in_range.ensures c.if-not-in_range.false in
    let period-in = passed 1 max_period c.args.p c.ranges.p.sfits c.in_range-2.ensures c.if-not-in_range-2.false in
    let size_in = passed 1 max_size c.args.m c.ranges.m.sfits c.in_range-3.ensures c.if-not-in_range-3.false in
    let clusters-in = passed 1 max_clusters c.args.k c.ranges.k.sfits c.in_range-4.ensures c.if-not-in_range-4.false in
    rw (work_in, period-in, size_in, clusters-in)
    (omega (arith, c.lines_out.ensures.place))
