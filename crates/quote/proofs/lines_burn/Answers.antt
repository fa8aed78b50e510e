-- `quote::lines_burn` meets its contract. The loop's invariant: the sum and what the lines that are left burn make
-- what all lines burn.
-- Assumes nothing.
use Prim.Native.Nat.{◌+◌, ◌*◌}
use native.Mathlib.Omega.{arith}
use mathlib.Core.Path.{◌≡◌, ◌∙◌}
use lib.IntN.{nat_abs}
use Rattle.rules.specs.Demands.{worst}
use Rattle.rules.specs.Limits.{max_calls, max_cap, max_tidy}
use Rattle.quote.proofs.Ranges.{same-range, read_back}
use Rattle.quote.proofs.Lines.{at, line-in, line-burnt, none-burnt}
use Rattle.quote.proofs.lines_burn.Goals as goal

-- what the line burns, of the numbers themselves
burns : (c : goal.After-line_burns-sum) → let a = c.args in
    let i = c.loop-i.i in
    c.line_burns-sum.result
    ≡ nat_abs (at a.calls.now i)
    * worst a.m a.k (nat_abs (at a.caps.now i) + nat_abs (at a.tidies.now i))
burns c = let a = c.args in
    let i = c.loop-i.i in
    let n = read_back (at a.calls.now i) c.line_burns-arg-1.given in
    let l = read_back (at a.caps.now i) c.line_burns-arg-in-loop-i-1.given in
    let w = read_back (at a.tidies.now i) c.line_burns-arg-in-loop-i-2-1.given in
    c.line_burns-sum.ensures.value ∙ rw (n, l, w)

pub line_burns-sum-requires : goal.line_burns-sum-requires
line_burns-sum-requires c = let i = c.loop-i.i in
    let calls = c.args.calls.now in
    let caps = c.args.caps.now in
    let tidies = c.args.tidies.now in
    let l = line-in calls caps tidies i (omega arith) c.requires.calls_len_bound.1 in record {
      m_le_max_size = c.requires.m_le_max_size;
      line_in = record {
        calls = same-range 0 max_calls (at calls i) c.line_burns-arg-1.given ∙ l.calls;
        cap = same-range 1 max_cap (at caps i) c.line_burns-arg-in-loop-i-1.given ∙ l.cap;
        tidy = same-range 0 max_tidy (at tidies i) c.line_burns-arg-in-loop-i-2-1.given ∙ l.tidy;
      };
    }

pub loop-i-preserved : goal.loop-i-preserved
loop-i-preserved c = let a = c.args in
    let i = c.loop-i.i in
    let e = line-burnt a.calls.now a.caps.now a.tidies.now i (omega arith) c.requires.calls_len_bound.1.even
    a.m a.k in
    omega (arith, e, burns c)

pub returns : goal.returns
returns c = let a = c.args in
    let i = c.loop-i.i in
    omega (arith, none-burnt a.calls.now a.caps.now a.tidies.now i (omega arith) a.m a.k)
