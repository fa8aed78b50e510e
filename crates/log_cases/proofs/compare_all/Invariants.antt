-- No more pairs are the same than were compared.
use Rattle.std.proofs.Common.{◌≤◌}
use Rattle.log_cases.proofs.compare_all.Given as goal

abbrev pub invariant-loop-p : goal.invariant-loop-p
invariant-loop-p g l = l.same ≤ l.p
