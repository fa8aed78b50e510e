-- No trace has gone on past what it may.
use Rattle.checking.specs.Checking.{Going}
use Rattle.check_trace.proofs.check.Given as goal

abbrev pub invariant-loop : goal.invariant-loop
invariant-loop g l = Going l.held.trace.checker
