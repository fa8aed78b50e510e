-- `step::sound_record` meets its contract.
-- Assumes nothing.
use mathlib.Core.Path.{refl}
use native.Mathlib.Omega.{arith}
use Rattle.rules.specs.Records.{unknown}
use Rattle.answers.specs.declared.Answer.TheVariants.{Unknown}
use Rattle.answers.proofs.Answering.{refuses}
use Rattle.step.proofs.sound_record.Goals as goal

pub returns-in-Known : goal.returns-in-Known
returns-in-Known c = λ v s g h. rw c.in-Known.is (c.sound_step.ensures v s g h)

pub returns-in-ReplyReady : goal.returns-in-ReplyReady
returns-in-ReplyReady c = λ v s g h. rw c.in-ReplyReady.is (c.reply_ready.ensures _ v s (g.homes, g.sizes, g.timed) h)

pub returns-in-Unknown : goal.returns-in-Unknown
returns-in-Unknown c = λ v s g h. rw c.in-Unknown.is (refuses h unknown Unknown refl (λ z. omega arith))
