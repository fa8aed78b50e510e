-- `group_says::said_by` meets its contract, by the length of the line and its first space.
-- Assumes nothing.
use Prim.Native.Nat.{ℕ, ◌≤◌, ◌<◌}
use native.Mathlib.Omega.{arith}
use mathlib.Core.Path.{◌≡◌, sym, ap, ◌∙◌}
use mathlib.Core.List.{List}
use lib.ListN.{length, take, length-take}
use lib.Seq.{length-take-le}
use Rattle.group_says.specs.Says.{by_word}
use Rattle.group_says.proofs.Lines.{too_long, word-alone, word-then}
use Rattle.group_says.proofs.said_by.Goals as goal

-- there are no more numbers than places
few : (n : ℕ) (v : List ℕ) {l : List ℕ} → n ≡ length l → take n v ≡ l → n ≤ length v
few n v e t = omega (arith, length-take n v, ap length t, e)

pub returns-then-line-gt-MAX_LINE : goal.returns-then-line-gt-MAX_LINE
returns-then-line-gt-MAX_LINE c = sym (too_long c.args.line.now c.if-line-gt-MAX_LINE.true)

pub returns-then-e-line : goal.returns-then-e-line
returns-then-e-line c =
    let line = c.args.line.now in
    sym (word-alone line (omega (arith, c.end-e.ensures.ends, c.if-e-line.true)))

pub slice_bounds-by_word-end : goal.slice_bounds-by_word-end
slice_bounds-by_word-end c =
    let line = c.args.line.now in
    sym (length-take-le c.end-e.result line c.end-e.ensures.within)

pub slice_bounds-v-end : goal.slice_bounds-v-end
slice_bounds-v-end c = few c.read_numbers-n.result c.read_numbers-n.new.v c.read_numbers-n.ensures.value c.read_numbers-n.ensures.v_after

pub slice_bounds-by_word-end-2 : goal.slice_bounds-by_word-end-2
slice_bounds-by_word-end-2 c =
    sym (length-take-le c.read_numbers-n.result c.read_numbers-n.new.v (few c.read_numbers-n.result c.read_numbers-n.new.v c.read_numbers-n.ensures.value c.read_numbers-n.ensures.v_after))

pub returns : goal.returns
returns c =
    let line = c.args.line.now in
    let short = c.if-line-gt-MAX_LINE.false in
    let there : c.end-e.result < length line
    = omega (arith, c.end-e.ensures.within, c.if-e-line.false) in
    c.by_word.ensures
    ∙ ap (by_word (take c.end-e.result line)) c.read_numbers-n.ensures.v_after
    ∙ sym (word-then line c.end-e.result short (omega (arith, c.end-e.ensures.ends)) there)
