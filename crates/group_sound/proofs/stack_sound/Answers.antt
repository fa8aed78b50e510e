-- `group_sound::stack_sound` meets its contract.
-- Assumes nothing.
use mathlib.Core.Path.{◌≡◌, sym, ap, ◌∙◌}
use mathlib.Core.Bool.{Bool, not}
use native.Mathlib.Omega.{arith}
use Prim.Native.Nat.{ℕ}
use borrow.Author.Tests.{le-leb, lt-leb}
use Rattle.std.specs.Prelude as code
use Rattle.std.specs.Prelude.{Some, None}
use Rattle.seen.specs.Seen.{seen_of}
use Rattle.blocking.specs.Queue.{is_nobody}
use Rattle.blocking.proofs.Found.{none-nobody}
use Rattle.group_sound.specs.Answers.{is_some, stack_fits}
use Rattle.group_sound.proofs.stack_sound.Goals as goal

-- what the code has seen, if it has
seen-some : (o : code.Option ℕ) (b : Bool) → code.is_some o ≡ not b → is_some (seen_of o) ≡ not b
seen-some None b e = e
seen-some (Some s) b e = e

pub returns-then-is_none : goal.returns-then-is_none
unfolding stack_fits
returns-then-is_none c =
    let seen = seen-some c.queue_seen.result c.is_none.result c.is_none.ensures in
    rw (sym c.ticket_set.ensures, sym c.queue_seen.ensures, seen, c.if-is_none.true)

pub returns-then-used-le1 : goal.returns-then-used-le1
unfolding stack_fits
returns-then-used-le1 c =
    let seen = seen-some c.queue_seen.result c.is_none.result c.is_none.ensures in
    rw (
      sym c.ticket_set.ensures,
      sym c.queue_seen.ensures,
      seen,
      c.if-is_none.false,
      sym c.used.ensures,
      le-leb c.used.result 1 (omega arith),
    )

pub returns-else-used-le1 : goal.returns-else-used-le1
unfolding stack_fits
returns-else-used-le1 c =
    let seen = seen-some c.queue_seen.result c.is_none.result c.is_none.ensures in
    rw (
      sym c.ticket_set.ensures,
      sym c.queue_seen.ensures,
      seen,
      c.if-is_none.false,
      sym c.used.ensures,
      lt-leb c.used.result 1 (omega arith),
    ) (none-nobody c.blocker.result c.is_none-else-used-le1.result c.is_none-else-used-le1.ensures ∙ ap is_nobody c.blocker.ensures.value)
