-- `tracing::entry_line` meets its contract.
-- Assumes nothing.
use Prim.Native.Nat.{ℕ, ◌+◌, ◌-◌, ◌≤◌}
use native.Mathlib.Omega.{arith}
use mathlib.Core.Path.{◌≡◌, sym, ap, ◌∙◌}
use mathlib.Core.Bool.{Bool, true}
use mathlib.Core.List.{List}
use lib.ListN.{length, take, drop, length-drop}
use lib.Seq.{take_all, length-take-le}
use Rattle.text.specs.Text.{bits32}
use Rattle.lines.specs.Lines.{all_fit}
use Rattle.tracing.specs.Shapes.{charges_at, entry_begins}
use Rattle.tracing.proofs.Fitting.{enough-numbers}
use Rattle.tracing.proofs.stages.entry_line.Goals as goal

-- what is behind the first m
behind : (vs : List ℕ) (m : ℕ) → take (length vs - m) (drop m vs) ≡ drop m vs
behind vs m = take_all (length vs - m) (drop m vs) (omega (arith, length-drop m vs))

-- where the charges begin there are enough numbers
enough : (v : ℕ) (vs : List ℕ) (m : ℕ) → m ≡ charges_at v → entry_begins v vs ≡ true → m ≤ length vs
enough v vs m e b = omega (arith, enough-numbers v vs b, e)

unmoved : (v : ℕ) (vs : List ℕ) (m : ℕ) → m ≡ charges_at v → {b : Bool}
    → b ≡ all_fit bits32 (take (length vs - m) (drop m vs)) → all_fit bits32 (drop (charges_at v) vs) ≡ b
unmoved v vs m is e =
    ap (λ (m : ℕ). all_fit bits32 (drop m vs)) (sym is)
    ∙ ap (all_fit bits32) (sym (behind vs m))
    ∙ sym e

pub returns-then-not-entry_begins : goal.returns-then-not-entry_begins
returns-then-not-entry_begins c = (
  rw (sym c.entry_begins.ensures ∙ c.if-not-entry_begins.true) c.malformed.ensures,
  rw c.malformed.ensures c.requires.going,
)

pub slice_bounds-narrowed-count : goal.slice_bounds-narrowed-count
slice_bounds-narrowed-count c =
    let v = c.args.t.checker.version in
    let vs = c.args.vs.now in
    let first = c.answer_at-before.result + 2 in
    let first-is : first ≡ charges_at v = omega (arith, c.answer_at-before.ensures.0) in
    let begins : entry_begins v vs ≡ true = sym c.entry_begins.ensures ∙ c.if-not-entry_begins.false in
    enough v vs first first-is begins

pub slice_bounds-narrowed-start : goal.slice_bounds-narrowed-start
slice_bounds-narrowed-start c =
    let v = c.args.t.checker.version in
    let vs = c.args.vs.now in
    let first = c.answer_at-before.result + 2 in
    let first-is : first ≡ charges_at v = omega (arith, c.answer_at-before.ensures.0) in
    let begins : entry_begins v vs ≡ true = sym c.entry_begins.ensures ∙ c.if-not-entry_begins.false in
    enough v vs first first-is begins

pub returns-then-not-narrowed : goal.returns-then-not-narrowed
returns-then-not-narrowed c =
    let v = c.args.t.checker.version in
    let vs = c.args.vs.now in
    let first = c.answer_at-before.result + 2 in
    let first-is : first ≡ charges_at v = omega (arith, c.answer_at-before.ensures.0) in
    let begins : entry_begins v vs ≡ true = sym c.entry_begins.ensures ∙ c.if-not-entry_begins.false in
    let n = c.narrowed in (
      rw (begins, unmoved v vs first first-is n.ensures.value ∙ c.if-not-narrowed.true)
          c.malformed-then-not-narrowed.ensures,
      rw c.malformed-then-not-narrowed.ensures c.requires.going,
    )

pub overflow_sub-n : goal.overflow_sub-n
overflow_sub-n c =
    let v = c.args.t.checker.version in
    let vs = c.args.vs.now in
    let first = c.answer_at-before.result + 2 in
    let first-is : first ≡ charges_at v = omega (arith, c.answer_at-before.ensures.0) in
    let begins : entry_begins v vs ≡ true = sym c.entry_begins.ensures ∙ c.if-not-entry_begins.false in
    enough v vs first first-is begins

pub slice_bounds-entered-end-2 : goal.slice_bounds-entered-end-2
slice_bounds-entered-end-2 c =
    let v = c.args.t.checker.version in
    let vs = c.args.vs.now in
    let first = c.answer_at-before.result + 2 in
    let first-is : first ≡ charges_at v = omega (arith, c.answer_at-before.ensures.0) in
    let begins : entry_begins v vs ≡ true = sym c.entry_begins.ensures ∙ c.if-not-entry_begins.false in
    let n = c.narrowed in
    sym (length-take-le (length vs - first) n.new.out (omega (arith, n.auto.out, c.requires.vs_in_bounds)))

pub entered-requires : goal.entered-requires
entered-requires c =
    let v = c.args.t.checker.version in
    let vs = c.args.vs.now in
    let first = c.answer_at-before.result + 2 in
    let first-is : first ≡ charges_at v = omega (arith, c.answer_at-before.ensures.0) in
    let begins : entry_begins v vs ≡ true = sym c.entry_begins.ensures ∙ c.if-not-entry_begins.false in
    let n = c.narrowed in
    let same = behind vs first in
    let count = sym (ap length same ∙ length-drop first vs) in record {
      vs_value = (
        begins,
        ap (λ (k : ℕ). take k n.new.out) count
            ∙ n.ensures.out_after (c.if-not-narrowed.false)
            ∙ same
            ∙ ap (λ (k : ℕ). drop k vs) first-is,
      );
      going = c.requires.going;
    }

pub returns : goal.returns
returns c =
    let v = c.args.t.checker.version in
    let vs = c.args.vs.now in
    let first = c.answer_at-before.result + 2 in
    let first-is : first ≡ charges_at v = omega (arith, c.answer_at-before.ensures.0) in
    let begins : entry_begins v vs ≡ true = sym c.entry_begins.ensures ∙ c.if-not-entry_begins.false in
    let n = c.narrowed in (
      rw (begins, unmoved v vs first first-is n.ensures.value ∙ c.if-not-narrowed.false) c.entered.ensures.0,
      c.entered.ensures.1,
    )
