-- `lines::is_begun` meets its contract, test by test.
-- Assumes nothing.
use native.Mathlib.Omega.{arith}
use lib.ListN.{length, get_or}
use borrow.Author.Tests.{le-leb, lt-leb, eq-eqb, ne_eqb}
use Rattle.lines.specs.Lines.{max_line}
use Rattle.lines.proofs.is_begun.Goals as goal

pub returns-then-line-lt1 : goal.returns-then-line-lt1
returns-then-line-lt1 c = let s = c.args.line.now in rw (lt-leb 1 (length s) (omega arith))

pub returns-then-line-gt-MAX_LINE : goal.returns-then-line-gt-MAX_LINE
returns-then-line-gt-MAX_LINE c = let s = c.args.line.now in
    rw (le-leb 1 (length s) (omega arith), lt-leb (length s) max_line (omega arith))

pub returns-then-line-letter : goal.returns-then-line-letter
returns-then-line-letter c = let a = c.args in
    let s = a.line.now in
    rw (
      le-leb 1 (length s) (omega arith),
      le-leb (length s) max_line (omega arith),
      ne_eqb (get_or s 0 0) a.letter c.if-line-letter.true,
    )

pub returns-then-line-eq1 : goal.returns-then-line-eq1
returns-then-line-eq1 c = let a = c.args in
    let s = a.line.now in
    rw (
      le-leb 1 (length s) (omega arith),
      le-leb (length s) max_line (omega arith),
      eq-eqb (get_or s 0 0) a.letter c.if-line-letter.false,
      eq-eqb (length s) 1 c.if-line-eq1.true,
    )

pub returns : goal.returns
returns c = let a = c.args in
    let s = a.line.now in
    rw (
      le-leb 1 (length s) (omega arith),
      le-leb (length s) max_line (omega arith),
      eq-eqb (get_or s 0 0) a.letter c.if-line-letter.false,
      ne_eqb (length s) 1 c.if-line-eq1.false,
    )
