-- `group_sound::sound` meets its contract: every context that the loop has passed is sound.
-- Assumes nothing.
use Prim.Native.Nat.{ℕ, ◌<◌}
use mathlib.Core.Path.{◌≡◌, sym, ◌∙◌}
use mathlib.Core.Bool.{Bool, ◌||◌, and-false}
use mathlib.Core.List.{List}
use native.Mathlib.Omega.{arith}
use lib.Dec.{eqb}
use lib.ListN.{length, get_or}
use borrow.Author.Tests.{eq-eqb}
use Rattle.rules.proofs.Lists.{get_d_any}
use Rattle.places.proofs.Tests.{all_none, all_more, all-not, all_done}
use Rattle.group_rules.specs.declared.Tickets.{Tickets}
use Rattle.group_rules.specs.declared.Stack.{Stack}
use Rattle.group_rules.specs.declared.Group.{Group}
use Rattle.group_rules.specs.Limits.{max_contexts}
use Rattle.group_rules.specs.Groups.{no_tickets, no_calls}
use Rattle.group_rules.specs.Sound.{context_sound, eight_contexts, sound_of}
use Rattle.blocking.specs.Queue.{SetsOf}
use Rattle.group_sound.specs.Answers.{queue_set, context_fits}
use Rattle.group_sound.proofs.Shape.{times_long, tickets-long, stacks-long}
use Rattle.group_sound.proofs.Contexts.{context-is}
use Rattle.group_sound.proofs.sound.Goals as goal

-- the answer for the context that is tested
context : (g : Group) (sets : List ℕ) → SetsOf g.tickets g.stacks sets → length g.tickets ≡ max_contexts
    → length g.stacks ≡ max_contexts → (k : ℕ) → k < max_contexts → (d : Tickets) (e : Stack) {queue : ℕ} {r : Bool}
    → queue ≡ queue_set g.stacks
    → r ≡ context_fits g.entered g.last g.times sets queue (get_or g.tickets k d).counts (get_or g.stacks k e).places k
    → context_sound g k ≡ r
context g sets is n m k low d e q f =
    sym (f ∙ context-is g sets is k low q (get_d_any g.tickets k d no_tickets (omega (arith, n)))
    (get_d_any g.stacks k e no_calls (omega (arith, m))))

pub returns-then-not-last_sound : goal.returns-then-not-last_sound
unfolding sound_of
returns-then-not-last_sound c =
    rw (sym c.last_sound.ensures ∙ c.if-not-last_sound.true)
    (sym (and-false (eight_contexts c.args.g)))

pub loop-c-init : goal.loop-c-init
loop-c-init c = all_none (context_sound _)

pub returns-then-not-context_sound : goal.returns-then-not-context_sound
unfolding sound_of
returns-then-not-context_sound c =
    let g = c.args.g in
    let h = c.well_formed.0 in
    let known : context_sound g c.loop-c.c ≡ c.context_sound.result =
    context g c.queued_sets-sets.result c.queued_sets-sets.ensures.1 (tickets-long g _ h) (stacks-long g _ h) c.loop-c.c
    (omega arith) _ _ c.queue_of-queue.ensures c.context_sound.ensures in
    rw (
      all-not max_contexts (context_sound g) c.loop-c.c (omega arith)
          (known ∙ c.if-not-context_sound.true),
      and-false (g.entered || eqb g.last 0),
    ) (sym (and-false (eight_contexts g)))

pub loop-c-preserved : goal.loop-c-preserved
loop-c-preserved c =
    let g = c.args.g in
    let h = c.well_formed.0 in
    let known : context_sound g c.loop-c.c ≡ c.context_sound.result =
    context g c.queued_sets-sets.result c.queued_sets-sets.ensures.1 (tickets-long g _ h) (stacks-long g _ h) c.loop-c.c
    (omega arith) _ _ c.queue_of-queue.ensures c.context_sound.ensures in
    all_more c.loop-c.c (context_sound _) (known ∙ c.if-not-context_sound.false) c.loop-c.invariant

pub returns : goal.returns
unfolding sound_of
returns c =
    let g = c.args.g in
    let h = c.well_formed.0 in
    rw (
      eq-eqb (length g.times) max_contexts (times_long g _ h),
      eq-eqb (length g.tickets) max_contexts (tickets-long g _ h),
      eq-eqb (length g.stacks) max_contexts (stacks-long g _ h),
      sym c.last_sound.ensures ∙ c.if-not-last_sound.false,
      all_done max_contexts c.loop-c.c (context_sound g) (omega arith) (omega arith) c.loop-c.invariant,
    )
