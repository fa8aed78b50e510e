-- `lines::narrowed` meets its contract. The loop's invariant: i are copied, and the others fit exactly if all do.
-- Assumes nothing.
use Prim.Native.Nat.{ℕ, ◌+◌}
use native.Mathlib.Omega.{arith}
use mathlib.Core.Path.{◌≡◌, sym, ◌∙◌, subst}
use lib.ListN.{take, set}
use Rattle.text.specs.Text.{bits32}
use Rattle.lines.proofs.Widths.{one-too-wide, one-fits, all-fit, one-copied}
use Rattle.lines.proofs.narrowed.Goals as goal

pub returns-in_default-clause-value : goal.returns-in_default-clause-value
returns-in_default-clause-value c =
    let l = c.loop-i in
    sym (one-too-wide bits32 c.args.values.now l.i (omega arith) (omega (arith, c.in_default.ensures))) ∙ l.invariant.0

pub loop-i-preserved : goal.loop-i-preserved
loop-i-preserved c =
    let l = c.loop-i in
    let vs = c.args.values.now in
    let same = c.in-Ok.ensures.1 in (
      sym (one-fits bits32 vs l.i (omega arith) (omega (arith, c.in-Ok.ensures))) ∙ l.invariant.0,
      subst (λ (n : ℕ). take (l.i + 1) (set l.out l.i n) ≡ take (l.i + 1) vs) (sym same)
          (one-copied vs l.out l.i (omega arith) (omega arith) l.invariant.1),
    )

pub returns-clause-value : goal.returns-clause-value
returns-clause-value c =
    let l = c.loop-i in sym (all-fit bits32 c.args.values.now l.i (omega arith)) ∙ l.invariant.0
