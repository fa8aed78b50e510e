-- `group_events::popped` meets its contract.
-- Assumes nothing.
use Prim.Native.Nat.{ℕ, ◌-◌, ◌<◌}
use mathlib.Core.Path.{◌≡◌, sym, ap, ap₂, ◌∙◌, subst}
use lib.ListN.{length, get_or, set}
use Rattle.rules.specs.Limits.{unused_place}
use Rattle.group_rules.specs.declared.Tickets.{Tickets}
use Rattle.group_rules.specs.declared.Stack.{Stack}
use Rattle.group_rules.specs.declared.Group.{Group}
use Rattle.group_rules.specs.Limits.{max_servers}
use Rattle.group_rules.specs.Groups.{no_calls, calls_of}
use Rattle.group_rules.specs.Blocking.{current_of}
use Rattle.group_rules.specs.Events.{popped}
use Rattle.group_events.proofs.Tops.{top-is}
use Rattle.group_events.proofs.replies.popped.Goals as goal

-- the server on top is that of the current request
top : (g : Group) (d n : ℕ) {s : Stack} {t : ℕ} → t ≡ get_or s.places (n - 1) 0 → s ≡ get_or g.stacks d no_calls
    → n ≡ length (calls_of g d) → 0 < n → t ≡ current_of g d
top g d n e f same some = e ∙ ap (λ (s : Stack). get_or s.places (n - 1) 0) f ∙ top-is g d n same some

pub used_up-requires : goal.used_up-requires
used_up-requires c =
    subst (λ (s : ℕ). (s < max_servers) × (0 < get_or c.tickets_of.result.counts s 0)) (sym (top c.args.g c.args.c c.args.n c.top_of.ensures c.stack_of-stack.ensures c.requires.c_lt_max_contexts.1
    c.requires.c_lt_max_contexts.2)) (
      c.requires.c_bound.0,
      subst (λ (t : Tickets). 0 < get_or t.counts (current_of c.args.g c.args.c) 0)
          (sym c.tickets_of.ensures) c.requires.c_bound.1,
    )

pub returns : goal.returns
unfolding popped
returns c =
    let g = c.args.g in
    let d = c.args.c in
    ap₂ (λ (t : Tickets) (s : Stack). record {
      entered = g.entered;
      last = g.last;
      times = g.times;
      tickets = set g.tickets d t;
      stacks = set g.stacks d s;
    })
    (c.used_up.ensures
    ∙ ap₂ (λ (t : Tickets) (s : ℕ). record { counts = set t.counts s (get_or t.counts s 0 - 1) })
    c.tickets_of.ensures (top c.args.g c.args.c c.args.n c.top_of.ensures c.stack_of-stack.ensures c.requires.c_lt_max_contexts.1
    c.requires.c_lt_max_contexts.2))
    (c.without_top.ensures
    ∙ ap₂ (λ (s : Stack) (n : ℕ). record { places = set s.places (n - 1) unused_place })
    c.stack_of-stack.ensures c.requires.c_lt_max_contexts.1)
