-- `group_events::call` meets its contract: each test in its order.
-- Assumes nothing.
use Prim.Native.Nat.{ℕ, ◌<◌}
use mathlib.Core.Path.{◌≡◌, sym, ap, ◌∙◌}
use mathlib.Core.Bool.{true}
use mathlib.Core.List.{List}
use native.Mathlib.Omega.{arith}
use lib.ListN.{length, get_or}
use Rattle.std.proofs.lemmas.Result.{err_from_is_err_and}
use Rattle.rules.specs.Lists.{has}
use Rattle.rules.specs.Refusals.{accepted}
use Rattle.places.specs.Places.{unpad}
use Rattle.places.proofs.Queues.{used-unpad}
use Rattle.group_rules.specs.Limits.{max_contexts, max_servers}
use Rattle.group_rules.specs.Groups.{tickets_for, calls_of, queued}
use Rattle.group_rules.specs.Blocking.{committed}
use Rattle.group_rules.specs.Events as rules
use Rattle.group_events.specs.declared.Refusal.TheVariants as case
use Rattle.group_events.specs.Answers.{refusal_of}
use Rattle.group_events.proofs.Told.{told-refused, told-accepted, serves-accepted, serves-refused, tickets-at, places-at}
use Rattle.group_events.proofs.Answers.{call-no-context, call-no-server, call-unserved, call-no-ticket}
use Rattle.group_events.proofs.Answers.{call-on-stack, call-full, call-taken}
use Rattle.group_events.proofs.calls.call.Goals as goal

-- WHAT IS KNOWN stands at the head of each answer: context and server are there; the context is queued and committed;
-- its tickets for the server; and its calls.

pub returns-in_err-i : goal.returns-in_err-i
returns-in_err-i c =
    let a = c.args in
    let p = err_from_is_err_and c.from_residual.result c.from_residual.ensures.1 in
    rw (p.1, p.2)
    (told-refused a.g (rules.call a.c.0 a.s.0) c.in_err-i.field-0.0
    (call-no-context a.g a.c.0 a.s.0 c.in_err-i.ensures.1 ∙ sym (ap refusal_of c.in_err-i.ensures.0)))

pub returns-in_err-j : goal.returns-in_err-j
returns-in_err-j c =
    let a = c.args in
    let p = err_from_is_err_and c.from_residual-in_err-j.result c.from_residual-in_err-j.ensures.1 in
    let low : a.c.0 < max_contexts = omega (arith, c.in_ok-i.ensures) in
    rw (p.1, p.2)
    (told-refused a.g (rules.call a.c.0 a.s.0) c.in_err-j.field-0.0
    (call-no-server a.g a.c.0 a.s.0 low c.in_err-j.ensures.1 ∙ sym (ap refusal_of c.in_err-j.ensures.0)))

pub returns-in_err-serves : goal.returns-in_err-serves
returns-in_err-serves c =
    let a = c.args in
    let p = err_from_is_err_and c.from_residual-in_err-serves.result c.from_residual-in_err-serves.ensures.1 in
    let low : a.c.0 < max_contexts = omega (arith, c.in_ok-i.ensures) in
    let server : a.s.0 < max_servers = omega (arith, c.in_ok-j.ensures) in
    let r = c.in_err-serves.field-0.0 in
    let h : refusal_of r ≡ rules.serves a.g a.c.0 accepted
    = c.in_err-serves.ensures ∙ ap (λ (i : ℕ). rules.serves a.g i accepted) c.in_ok-i.ensures.0 in
    rw (p.1, p.2)
    (told-refused a.g (rules.call a.c.0 a.s.0) r
    (call-unserved a.g a.c.0 a.s.0 low server (refusal_of r) (λ n. serves-refused a.g a.c.0 r n h)))

pub returns-then-own-j-eq0 : goal.returns-then-own-j-eq0
returns-then-own-j-eq0 c =
    let a = c.args in
    let low : a.c.0 < max_contexts = omega (arith, c.in_ok-i.ensures) in
    let server : a.s.0 < max_servers = omega (arith, c.in_ok-j.ensures) in
    let served : (queued a.g a.c.0 ≡ true) × (committed a.g a.c.0 ≡ true)
    = serves-accepted a.g a.c.0 (c.in_ok-serves.ensures ∙ ap (λ (i : ℕ). rules.serves a.g i accepted) c.in_ok-i.ensures.0) in
    let tickets : get_or c.tickets_of-own.result.counts c.in_ok-j.j 0 ≡ tickets_for a.g a.c.0 a.s.0
    = ap (λ (l : List ℕ). get_or l c.in_ok-j.j 0) (tickets-at a.g c.in_ok-i.ensures.0 c.tickets_of-own.ensures)
    ∙ ap (tickets_for a.g a.c.0) c.in_ok-j.ensures.0 in
    told-refused a.g (rules.call a.c.0 a.s.0) case.NoTicket
    (call-no-ticket a.g a.c.0 a.s.0 low server served.0 served.1 (sym tickets ∙ c.if-own-j-eq0.true))

pub returns-then-stands : goal.returns-then-stands
returns-then-stands c =
    let a = c.args in
    let low : a.c.0 < max_contexts = omega (arith, c.in_ok-i.ensures) in
    let server : a.s.0 < max_servers = omega (arith, c.in_ok-j.ensures) in
    let served : (queued a.g a.c.0 ≡ true) × (committed a.g a.c.0 ≡ true)
    = serves-accepted a.g a.c.0 (c.in_ok-serves.ensures ∙ ap (λ (i : ℕ). rules.serves a.g i accepted) c.in_ok-i.ensures.0) in
    let tickets : get_or c.tickets_of-own.result.counts c.in_ok-j.j 0 ≡ tickets_for a.g a.c.0 a.s.0
    = ap (λ (l : List ℕ). get_or l c.in_ok-j.j 0) (tickets-at a.g c.in_ok-i.ensures.0 c.tickets_of-own.ensures)
    ∙ ap (tickets_for a.g a.c.0) c.in_ok-j.ensures.0 in
    let calls : unpad c.stack_of-stack.result.places ≡ calls_of a.g a.c.0
    = ap unpad (places-at a.g c.in_ok-i.ensures.0 c.stack_of-stack.ensures) in
    told-refused a.g (rules.call a.c.0 a.s.0) case.OnStack
    (call-on-stack a.g a.c.0 a.s.0 low server served.0 served.1 (λ e. c.if-own-j-eq0.false (tickets ∙ e))
    (ap (has a.s.0) (sym calls) ∙ sym c.stands.ensures ∙ c.if-stands.true))

pub returns-then-used-ge-MAX_DEPTH : goal.returns-then-used-ge-MAX_DEPTH
returns-then-used-ge-MAX_DEPTH c =
    let a = c.args in
    let low : a.c.0 < max_contexts = omega (arith, c.in_ok-i.ensures) in
    let server : a.s.0 < max_servers = omega (arith, c.in_ok-j.ensures) in
    let served : (queued a.g a.c.0 ≡ true) × (committed a.g a.c.0 ≡ true)
    = serves-accepted a.g a.c.0 (c.in_ok-serves.ensures ∙ ap (λ (i : ℕ). rules.serves a.g i accepted) c.in_ok-i.ensures.0) in
    let tickets : get_or c.tickets_of-own.result.counts c.in_ok-j.j 0 ≡ tickets_for a.g a.c.0 a.s.0
    = ap (λ (l : List ℕ). get_or l c.in_ok-j.j 0) (tickets-at a.g c.in_ok-i.ensures.0 c.tickets_of-own.ensures)
    ∙ ap (tickets_for a.g a.c.0) c.in_ok-j.ensures.0 in
    let calls : unpad c.stack_of-stack.result.places ≡ calls_of a.g a.c.0
    = ap unpad (places-at a.g c.in_ok-i.ensures.0 c.stack_of-stack.ensures) in
    let deep : c.used.result ≡ length (calls_of a.g a.c.0)
    = c.used.ensures ∙ used-unpad c.stack_of-stack.result.places ∙ ap length calls in
    told-refused a.g (rules.call a.c.0 a.s.0) case.StackFull
    (call-full a.g a.c.0 a.s.0 low server served.0 served.1 (λ e. c.if-own-j-eq0.false (tickets ∙ e))
    (ap (has a.s.0) (sym calls) ∙ sym c.stands.ensures ∙ c.if-stands.false)
    (omega (arith, deep, c.if-used-ge-MAX_DEPTH.true)))

pub returns : goal.returns
returns c =
    let a = c.args in
    let low : a.c.0 < max_contexts = omega (arith, c.in_ok-i.ensures) in
    let server : a.s.0 < max_servers = omega (arith, c.in_ok-j.ensures) in
    let served : (queued a.g a.c.0 ≡ true) × (committed a.g a.c.0 ≡ true)
    = serves-accepted a.g a.c.0 (c.in_ok-serves.ensures ∙ ap (λ (i : ℕ). rules.serves a.g i accepted) c.in_ok-i.ensures.0) in
    let tickets : get_or c.tickets_of-own.result.counts c.in_ok-j.j 0 ≡ tickets_for a.g a.c.0 a.s.0
    = ap (λ (l : List ℕ). get_or l c.in_ok-j.j 0) (tickets-at a.g c.in_ok-i.ensures.0 c.tickets_of-own.ensures)
    ∙ ap (tickets_for a.g a.c.0) c.in_ok-j.ensures.0 in
    let calls : unpad c.stack_of-stack.result.places ≡ calls_of a.g a.c.0
    = ap unpad (places-at a.g c.in_ok-i.ensures.0 c.stack_of-stack.ensures) in
    let deep : c.used.result ≡ length (calls_of a.g a.c.0)
    = c.used.ensures ∙ used-unpad c.stack_of-stack.result.places ∙ ap length calls in
    told-accepted a.g (rules.call a.c.0 a.s.0) c.called.result
    (c.called.ensures ∙ ap (λ (i : ℕ). rules.called a.g i a.s.0) c.in_ok-i.ensures.0)
    (call-taken a.g a.c.0 a.s.0 low server served.0 served.1 (λ e. c.if-own-j-eq0.false (tickets ∙ e))
    (ap (has a.s.0) (sym calls) ∙ sym c.stands.ensures ∙ c.if-stands.false)
    (omega (arith, deep, c.if-used-ge-MAX_DEPTH.false)))
