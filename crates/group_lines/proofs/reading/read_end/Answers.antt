-- `group_lines::reading::read_end` meets its contract, by whether a line was malformed or one has begun.
-- Assumes nothing.
use native.Mathlib.Omega.{arith}
use mathlib.Core.Path.{◌≡◌}
use lib.ListN.{length}
use borrow.Author.Rules.{rules}
use Rattle.text.proofs.Written.{wrote_none}
use Rattle.group_lines.specs.Parts.{room_bytes, begun_in}
use Rattle.group_lines.proofs.Ending.{end-malformed, end_none, end-begun}
use Rattle.group_lines.proofs.Buffers.{counted}
use Rattle.group_lines.proofs.reading.read_end.Goals as goal

pub returns-then-run : goal.returns-then-run
returns-then-run c = let a = c.args in
    let w = wrote_none 0 a.out.now in
    rw (end-malformed a.held.run c.if-run.true (begun_in a.held)) (record { prefix_len = counted w; wrote = w })

pub returns-then-held-eq0 : goal.returns-then-held-eq0
returns-then-held-eq0 c = let a = c.args in
    let w = wrote_none 0 a.out.now in
    rw (end_none a.held.run a.held.room a.held.n c.if-held-eq0.true) (record { prefix_len = counted w; wrote = w })

-- the room is whole
pub returns : goal.returns
returns c =
    let a = c.args in
    let w = c.put_malformed.ensures.wrote_at in
    let long : length a.held.room ≡ room_bytes = search rules in
    let is = end-begun a.held.run c.if-run.false a.held.room a.held.n c.if-held-eq0.false (omega arith) in
    rw (is, ← c.next_count.ensures) (record { prefix_len = counted w; wrote = w })
