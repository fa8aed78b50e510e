-- `group_events::reply` meets its contract: each test in its order.
-- Assumes nothing.
use Prim.Native.Nat.{ℕ, ◌≤◌, ◌<◌}
use mathlib.Core.Path.{◌≡◌, sym, ap, ◌∙◌, subst}
use mathlib.Core.Bool.{true}
use mathlib.Core.List.{List}
use native.Mathlib.Omega.{arith}
use lib.ListN.{length}
use borrow.Author.Tests.{eq-eqb, ne_eqb}
use Rattle.std.proofs.lemmas.Result.{err_from_is_err_and}
use Rattle.rules.specs.Refusals.{accepted}
use Rattle.places.specs.Places.{unpad}
use Rattle.places.proofs.Queues.{used-unpad}
use Rattle.group_rules.specs.Limits.{max_contexts, max_servers, max_depth}
use Rattle.group_rules.specs.Groups.{tickets_for, calls_of, queued}
use Rattle.group_rules.specs.Blocking.{committed, current_of}
use Rattle.group_rules.specs.Events as rules
use Rattle.group_events.specs.Answers.{refusal_of}
use Rattle.group_events.proofs.Told.{told-refused, told-accepted, serves-accepted, serves-refused, places-at}
use Rattle.group_events.proofs.Answers.{reply-no-context, reply-unserved, reply-taken}
use Rattle.group_events.proofs.Tops.{top-known}
use Rattle.group_events.proofs.replies.reply.Goals as goal

-- WHAT IS KNOWN stands at the head of each answer: the context is there, queued and committed; and how many calls it
-- has.

pub returns-in_err-i : goal.returns-in_err-i
returns-in_err-i c =
    let a = c.args in
    let p = err_from_is_err_and c.from_residual.result c.from_residual.ensures.1 in
    rw (p.1, p.2)
    (told-refused a.g (rules.reply a.c.0) c.in_err-i.field-0.0
    (reply-no-context a.g a.c.0 c.in_err-i.ensures.1 ∙ sym (ap refusal_of c.in_err-i.ensures.0)))

pub returns-in_err-serves : goal.returns-in_err-serves
returns-in_err-serves c =
    let a = c.args in
    let p = err_from_is_err_and c.from_residual-in_err-serves.result c.from_residual-in_err-serves.ensures.1 in
    let low : a.c.0 < max_contexts = omega (arith, c.in_ok-i.ensures) in
    let r = c.in_err-serves.field-0.0 in
    let h : refusal_of r ≡ rules.serves a.g a.c.0 accepted
    = c.in_err-serves.ensures ∙ ap (λ (i : ℕ). rules.serves a.g i accepted) c.in_ok-i.ensures.0 in
    rw (p.1, p.2)
    (told-refused a.g (rules.reply a.c.0) r
    (reply-unserved a.g a.c.0 low (refusal_of r) (λ n. serves-refused a.g a.c.0 r n h)))

pub returns-then-n-eq1 : goal.returns-then-n-eq1
returns-then-n-eq1 c =
    let a = c.args in
    let low : a.c.0 < max_contexts = omega (arith, c.in_ok-i.ensures) in
    let served : (queued a.g a.c.0 ≡ true) × (committed a.g a.c.0 ≡ true)
    = serves-accepted a.g a.c.0 (c.in_ok-serves.ensures ∙ ap (λ (i : ℕ). rules.serves a.g i accepted) c.in_ok-i.ensures.0) in
    let deep : c.used-n.result ≡ length (calls_of a.g a.c.0)
    = c.used-n.ensures ∙ used-unpad c.stack_of-stack.result.places
    ∙ ap (λ (p : List ℕ). length (unpad p)) (places-at a.g c.in_ok-i.ensures.0 c.stack_of-stack.ensures) in
    told-accepted a.g (rules.reply a.c.0) c.gone.result
    (c.gone.ensures ∙ ap (rules.gone a.g) c.in_ok-i.ensures.0
    ∙ (rw (eq-eqb (length (calls_of a.g a.c.0)) 1 (sym deep ∙ c.if-n-eq1.true))))
    (reply-taken a.g a.c.0 low served.0 served.1)

pub popped-requires : goal.popped-requires
popped-requires c =
    let a = c.args in
    let low : a.c.0 < max_contexts = omega (arith, c.in_ok-i.ensures) in
    let served : (queued a.g a.c.0 ≡ true) × (committed a.g a.c.0 ≡ true)
    = serves-accepted a.g a.c.0 (c.in_ok-serves.ensures ∙ ap (λ (i : ℕ). rules.serves a.g i accepted) c.in_ok-i.ensures.0) in
    let deep : c.used-n.result ≡ length (calls_of a.g a.c.0)
    = c.used-n.ensures ∙ used-unpad c.stack_of-stack.result.places
    ∙ ap (λ (p : List ℕ). length (unpad p)) (places-at a.g c.in_ok-i.ensures.0 c.stack_of-stack.ensures) in
    let top = top-known a.g a.c.0 c.requires low served.1 in
    let n = c.used-n.result in
    let both = subst (λ (x : ℕ).
    ((x < max_contexts) × (n ≡ length (calls_of a.g x)) × (0 < n) × (n ≤ max_depth))
    × ((current_of a.g x < max_servers) × (0 < tickets_for a.g x (current_of a.g x))))
    (sym c.in_ok-i.ensures.0) (
      (low, deep, omega (arith, deep, top.some), omega (arith, deep, top.few)),
      (top.server, top.ticket),
    ) in
    record { c_lt_max_contexts = both.0; c_bound = both.1 }

pub returns : goal.returns
returns c =
    let a = c.args in
    let low : a.c.0 < max_contexts = omega (arith, c.in_ok-i.ensures) in
    let served : (queued a.g a.c.0 ≡ true) × (committed a.g a.c.0 ≡ true)
    = serves-accepted a.g a.c.0 (c.in_ok-serves.ensures ∙ ap (λ (i : ℕ). rules.serves a.g i accepted) c.in_ok-i.ensures.0) in
    let deep : c.used-n.result ≡ length (calls_of a.g a.c.0)
    = c.used-n.ensures ∙ used-unpad c.stack_of-stack.result.places
    ∙ ap (λ (p : List ℕ). length (unpad p)) (places-at a.g c.in_ok-i.ensures.0 c.stack_of-stack.ensures) in
    told-accepted a.g (rules.reply a.c.0) c.popped.result
    (c.popped.ensures ∙ ap (rules.popped a.g) c.in_ok-i.ensures.0
    ∙ (rw (ne_eqb (length (calls_of a.g a.c.0)) 1 (λ e. c.if-n-eq1.false (deep ∙ e)))))
    (reply-taken a.g a.c.0 low served.0 served.1)
