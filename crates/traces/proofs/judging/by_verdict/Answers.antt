-- `traces::judging::by_verdict` meets its contract, case by case of the verdict.
-- Assumes nothing.
use Rattle.traces.proofs.judging.by_verdict.Goals as goal

pub returns-in-Refused : goal.returns-in-Refused
returns-in-Refused c = rw c.in-Refused.is

pub returns-in-Differs : goal.returns-in-Differs
returns-in-Differs c = rw c.in-Differs.is
