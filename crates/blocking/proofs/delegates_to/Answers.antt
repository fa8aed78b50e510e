-- `blocking::delegates_to` meets its contract.
-- Assumes nothing.
use Prim.Native.Nat.{ℕ, ◌-◌}
use mathlib.Core.Path.{◌≡◌, sym, ap, ◌∙◌}
use mathlib.Core.Bool.{Bool, true}
use mathlib.Core.List.{List}
use native.Mathlib.Omega.{arith}
use lib.ListN.{length, get_or}
use borrow.Author.Rules.{rules}
use borrow.Author.Tests.{ltb-true}
use Rattle.places.specs.Places.{unpad}
use Rattle.places.proofs.Pads.{unpad-fits}
use Rattle.places.proofs.Queues.{used-unpad}
use Rattle.group_rules.specs.Limits.{max_depth}
use Rattle.group_rules.specs.Blocking.{server}
use Rattle.group_rules.specs.Groups.{has_call}
use Rattle.blocking.specs.Delegates.{delegate_in}
use Rattle.blocking.proofs.Delegates.{delegate-blocked, delegate-serves, last-used}
use Rattle.blocking.proofs.delegates_to.Goals as goal

-- where the context turns out to be queued
waits : (q : List ℕ) (b : Bool) → b ≡ has_call q → b ≡ true → has_call q ≡ true
waits q b e t = sym e ∙ t

pub returns-then-not-is_queued : goal.returns-then-not-is_queued
unfolding delegate_in
returns-then-not-is_queued c = rw (sym c.is_queued.ensures ∙ c.if-not-is_queued.true)

pub top-requires : goal.top-requires
top-requires c =
    let q = c.args.s.places in
    let n : length q ≡ max_depth = search rules in
    let u : c.used.result ≡ length (unpad q) = c.used.ensures ∙ used-unpad q in
    (omega (arith, ltb-true 0 (length (unpad q)) (waits _ _ c.is_queued.ensures c.if-not-is_queued.false), u), omega (arith, u, n, unpad-fits q))

pub returns-in-None : goal.returns-in-None
returns-in-None c =
    let a = c.args in
    let q = a.s.places in
    c.top.ensures ∙ ap (λ n. server (get_or q (n - 1) 0)) c.used.ensures
    ∙ ap server (sym (last-used q (waits _ _ c.is_queued.ensures c.if-not-is_queued.false)))
    ∙ delegate-serves a.times.now a.sets.now q a.c (waits _ _ c.is_queued.ensures c.if-not-is_queued.false)
    c.in-None.ensures.value

pub returns-in_default : goal.returns-in_default
returns-in_default c =
    let a = c.args in
    c.context_of.ensures
    ∙ delegate-blocked a.times.now a.sets.now a.s.places a.c (waits _ _ c.is_queued.ensures c.if-not-is_queued.false)
    _ c.in_default.not-None c.blocker.ensures.value
