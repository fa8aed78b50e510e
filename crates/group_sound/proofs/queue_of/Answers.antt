-- `group_sound::queue_of` meets its contract: the loop holds the queued contexts that it has passed.
-- Assumes nothing.
use mathlib.Core.Path.{◌≡◌, refl, ap, ap₂, ◌∙◌}
use native.Mathlib.Omega.{arith}
use Rattle.rules.proofs.Lists.{get_d_any}
use Rattle.sets.specs.Sets.{set_of}
use Rattle.sets.proofs.Laws.{set_of-next}
use Rattle.group_rules.specs.Limits.{max_contexts}
use Rattle.group_rules.specs.Groups.{no_calls}
use Rattle.blocking.proofs.Shape.{stacks-length}
use Rattle.group_sound.specs.Answers.{with_queued, queue_set}
use Rattle.group_sound.proofs.Times.{queued_in}
use Rattle.group_sound.proofs.queue_of.Goals as goal

pub loop-c-init : goal.loop-c-init
unfolding set_of
loop-c-init c = refl

pub loop-c-preserved : goal.loop-c-preserved
loop-c-preserved c =
    let l = c.loop-c in
    let stacks = c.args.stacks in
    c.with_queued-queue.ensures
    ∙ ap₂ (λ q s. with_queued q s.places l.c) l.invariant
    (get_d_any stacks l.c _ no_calls (omega (arith, stacks-length stacks 8 _ c.well_formed.0)))
    ∙ set_of-next l.c (queued_in stacks) (omega arith)

pub returns : goal.returns
unfolding queue_set
returns c =
    let e : c.loop-c.c ≡ max_contexts = omega arith in
    c.loop-c.invariant ∙ ap (λ n. set_of n (queued_in c.args.stacks)) e
