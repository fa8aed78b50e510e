-- What i digits say is below 10 ^ i.
use Rattle.std.proofs.Common.{◌^◌, ◌<◌}
use Rattle.write_log.proofs.input.room_in.Given as goal

abbrev pub invariant-loop-i : goal.invariant-loop-i
invariant-loop-i l = l.room < 10 ^ l.i
