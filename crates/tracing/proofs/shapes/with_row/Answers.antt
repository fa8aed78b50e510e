-- `tracing::with_row` meets its contract.
-- Assumes nothing.
use native.Mathlib.Omega.{arith}
use mathlib.Core.Path.{◌≡◌, ◌∙◌}
use Prim.Native.Nat.{◌≤◌}
use lib.ListN.{length}
use lib.Seq.{set_out}
use Rattle.tracing.specs.Shapes.{with_row}
use borrow.Author.Rules.{rules}
use Rattle.tracing.proofs.shapes.with_row.Goals as goal

pub returns-then-at-lt-MAX_CLIENTS : goal.returns-then-at-lt-MAX_CLIENTS
unfolding with_row
returns-then-at-lt-MAX_CLIENTS c =
    let kind = c.byte.ensures ∙ c.value_at.ensures in
    let home = c.byte-then-at-lt-MAX_CLIENTS.ensures ∙ c.value_at-then-at-lt-MAX_CLIENTS.ensures in
    let priority = c.word.ensures ∙ c.value_at-then-at-lt-MAX_CLIENTS-2.ensures in
    rw (kind, home, priority)

pub returns : goal.returns
unfolding with_row
returns c =
    let a = c.args in
    let n : length a.s.kinds ≡ 64 = search rules in
    let m : length a.s.homes ≡ 64 = search rules in
    let k : length a.s.priorities ≡ 64 = search rules in
    let kinds : length a.s.kinds ≤ a.c = omega arith in
    let homes : length a.s.homes ≤ a.c = omega arith in
    let priorities : length a.s.priorities ≤ a.c = omega arith in
    rw (
      set_out a.s.kinds a.c _ kinds,
      set_out a.s.homes a.c _ homes,
      set_out a.s.priorities a.c _ priorities,
    )
