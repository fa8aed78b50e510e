-- Each record has taken its bytes of the log, and has a line of the text.
use Rattle.std.proofs.Common.{◌+◌, ◌-◌, ◌*◌, ◌≤◌, ◌≡◌, length}
use Rattle.layout.specs.Layout.{record_size}
use Rattle.write_log.specs.Sizes.{line_bytes}
use Rattle.write_log.proofs.write_records.Given as goal

abbrev pub invariant-loop-s : goal.invariant-loop-s
invariant-loop-s l =
    (length l.buffer ≡ length l.initial.buffer) × (record_size 1 * l.s.index ≤ l.s.next)
    × (record_size 1 * l.s.index ≤ length l.log + record_size 1) × (l.s.end ≤ line_bytes * (1 + l.s.index))

abbrev pub decreases-loop-s : goal.decreases-loop-s
decreases-loop-s l = length l.log - l.s.next
