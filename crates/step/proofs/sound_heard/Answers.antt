-- `step::sound_heard` meets its contract: the gate is taken apart.
-- Assumes nothing.
use Rattle.step.proofs.sound_heard.Goals as goal

pub joined_record-requires : goal.joined_record-requires
joined_record-requires c = rw c.queues_of.ensures c.requires

pub returns : goal.returns
returns c = rw c.queues_of.ensures at c.joined_record.ensures
