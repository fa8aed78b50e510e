-- `calls::reply_ready` meets its contract: 12, or the reply and the pick.
-- Assumes nothing.
use Rattle.answers.proofs.Answering.{fine}
use Rattle.calls.proofs.Replying.{both-accepted, both-refused}
use Rattle.calls.proofs.reply_ready.Goals as goal

pub returns-in_default : goal.returns-in_default
returns-in_default c = λ cs v s e h. both-refused (c.reply-r.ensures cs v s e h) c.in_default.not-Accepted

pub returns : goal.returns
returns c =
    λ cs v s e h.
    let a = c.reply-r.ensures cs v s e h in
    both-accepted a c.in-Accepted.is (c.picked-next.ensures v _ (fine h) tt a.queues)
