-- `tracing::take_line` meets its contract.
-- Assumes nothing.
use native.Mathlib.Omega.{arith}
use mathlib.Core.Path.{sym, ap, ap₂, ◌∙◌}
use Prim.Native.Nat.{ℕ, ◌≤◌}
use lib.ListN.{length, length-take}
use Rattle.text.specs.Text.{space}
use Rattle.lines.specs.Lines.{values_of}
use Rattle.tracing.specs.declared.Trace.{Trace}
use Rattle.tracing.specs.Tracing.{trace, taken_in}
use Rattle.tracing.proofs.Lines.{decided-stays, taken-on}
use Rattle.tracing.proofs.take_line.Goals as goal

pub returns-then-is_decided : goal.returns-then-is_decided
returns-then-is_decided c =
    let decided = sym c.is_decided.ensures ∙ c.if-is_decided.true in record {
      value = sym (decided-stays c.args.t c.args.line.now decided);
      going = c.requires;
    }

pub first_taken-requires : goal.first_taken-requires
first_taken-requires c =
    let n = c.values_of-n in
    let v = n.new.v in
    let few : n.result ≤ length v
    = omega (arith, length-take n.result v, ap length n.ensures.v_after, n.ensures.value) in record {
      n_in_bounds = (few, omega arith);
      going = c.requires;
    }

pub returns : goal.returns
returns c =
    let n = c.values_of-n in
    let t = c.args.t in
    let line = c.args.line.now in
    let at : ℕ → Trace = λ m. trace t.stage m t.rows t.ranks t.setup t.checker in record {
      value = c.first_taken.ensures.0
          ∙ ap (taken_in t.stage (at c.next_count.result)) n.ensures.v_after
          ∙ ap₂ (λ (m x : ℕ). taken_in t.stage (at m) (values_of x space line))
          c.next_count.ensures c.letter.ensures
          ∙ sym (taken-on t line (sym c.is_decided.ensures ∙ c.if-is_decided.false));
      going = c.first_taken.ensures.1;
    }
