-- `group_tells::put_fields` meets its contract. The loop's invariant: the fields of the first c contexts are written.
-- Assumes nothing.
use Prim.Native.Nat.{◌+◌, ◌*◌, ◌≤◌}
use native.Mathlib.Numerals.{add-one}
use native.Mathlib.Omega.{arith}
use mathlib.Core.Path.{◌≡◌, ap, ◌∙◌}
use lib.ListN.{length, get_or}
use Rattle.rules.proofs.Lists.{get_d_any}
use Rattle.text.proofs.Written.{wrote_none, wrote_on, wrote-length}
use Rattle.group_rules.specs.declared.Stack.{Stack}
use Rattle.group_rules.specs.Limits.{max_contexts}
use Rattle.group_rules.specs.Groups.{no_calls}
use Rattle.blocking.specs.Delegates.{told_of, delegate_in}
use Rattle.group_tells.specs.Tells.{field_bytes}
use Rattle.group_tells.proofs.Fields.{first_in, first-in}
use Rattle.group_tells.proofs.put_fields.Goals as goal

pub loop-c-init : goal.loop-c-init
unfolding first_in
loop-c-init c = let a = c.args in
    (wrote_none a.at a.out.now, omega arith, omega arith)

pub put_field-n-requires : goal.put_field-n-requires
put_field-n-requires c = omega arith

pub loop-c-preserved : goal.loop-c-preserved
unfolding first_in
loop-c-preserved c =
    let g = c.args.g in
    let q = c.queued_sets-sets.result in
    let i = c.loop-c.c in
    let many : length g.stacks ≡ max_contexts
    = c.well_formed.1.1.0.1.1.1.1.1.1.0.1.0.1 in
    let own : told_of c.delegates_to.result ≡ delegate_in g.times q (get_or g.stacks i no_calls).places i
    = c.delegates_to.ensures ∙ ap (λ (t : Stack). delegate_in g.times q t.places i)
    (get_d_any g.stacks i _ no_calls (omega (arith, many))) in
    let within : c.loop-c.n ≤ length c.args.out.now = omega arith in
    let w = wrote_on c.loop-c.invariant.0 within c.put_field-n.ensures.wrote_at in
    let most : c.put_field-n.result ≤ c.args.at + (i + 1) * field_bytes = omega (arith, c.put_field-n.ensures.upper_bound) in
    (rw (add-one, ← own) w, most, wrote-length w (omega arith))

pub shape_of-out : goal.shape_of-out
shape_of-out c = c.loop-c.invariant.2

pub returns : goal.returns
returns c =
    let a = c.args in
    let all : c.loop-c.c ≡ max_contexts = omega arith in record {
      wrote_at = rw (← first-in a.g c.queued_sets-sets.result c.queued_sets-sets.ensures.1 max_contexts (omega arith), ← all)
          c.loop-c.invariant.0;
      upper_bound = omega arith;
    }
