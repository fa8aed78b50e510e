-- `traces::judging::put_differs` meets its contract, by what differs.
-- Assumes nothing.
use Rattle.traces.proofs.judging.put_differs.Goals as goal

pub returns-in-Answer : goal.returns-in-Answer
returns-in-Answer c = rw c.in-Answer.is c.put_line.ensures

pub returns-in-Served : goal.returns-in-Served
returns-in-Served c = rw c.in-Served.is c.put_line-in-Served.ensures

pub returns-in-Charges : goal.returns-in-Charges
returns-in-Charges c = rw c.in-Charges.is c.put_line-in-Charges.ensures
