-- `traces::judging::put_judgement` meets its contract, case by case of the judgement.
-- Assumes nothing.
use Rattle.traces.proofs.Texts.{counted}
use Rattle.traces.proofs.judging.put_judgement.Goals as goal

pub returns-in-Malformed : goal.returns-in-Malformed
returns-in-Malformed c =
    let w = counted c.put_line.ensures in
    record { prefix_len = w.0; wrote = rw c.in-Malformed.is w.1 }

pub returns-in-Refused : goal.returns-in-Refused
returns-in-Refused c =
    let w = counted c.put_line-in-Refused.ensures in
    record { prefix_len = w.0; wrote = rw c.in-Refused.is w.1 }

pub returns-in-Differs : goal.returns-in-Differs
returns-in-Differs c =
    let w = counted c.put_differs.ensures in
    record { prefix_len = w.0; wrote = rw c.in-Differs.is w.1 }

pub returns-in-Accepted : goal.returns-in-Accepted
returns-in-Accepted c =
    let w = counted c.put_line-in-Accepted.ensures in
    record { prefix_len = w.0; wrote = rw c.in-Accepted.is w.1 }
