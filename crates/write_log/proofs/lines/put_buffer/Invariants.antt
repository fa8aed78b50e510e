-- Each byte of the buffer has written two digits.
use Rattle.std.proofs.Common.{◌+◌, ◌*◌, ◌≡◌}
use Rattle.write_log.proofs.lines.put_buffer.Given as goal

abbrev pub invariant-loop-b : goal.invariant-loop-b
invariant-loop-b l = l.end ≡ l.at + 2 * l.b-index
