-- `group_events::entry` meets its contract: each test in its order.
-- Assumes nothing.
use Prim.Native.Nat.{ℕ, ◌<◌}
use mathlib.Core.Path.{◌≡◌, sym, ap, ◌∙◌}
use mathlib.Core.Bool.{Bool, ◌&&◌}
use native.Mathlib.Omega.{arith}
use lib.Dec.{leb}
use lib.ListN.{get_or}
use borrow.Author.Tests.{not-true, not-false}
use Rattle.std.proofs.lemmas.Result.{err_from_is_err_and}
use Rattle.group_events.specs.Answers.{refusal_of}
use Rattle.group_rules.specs.Limits.{max_contexts, max_servers}
use Rattle.group_rules.specs.Groups.{queued}
use Rattle.group_rules.specs.Events as rules
use Rattle.group_events.specs.declared.Refusal.TheVariants as case
use Rattle.group_events.proofs.Told.{told-refused, told-accepted, queued-at}
use Rattle.group_events.proofs.Answers.{entry-no-context, entry-no-server, entry-queued, entry-many}
use Rattle.group_events.proofs.Answers.{entry-no-ticket, entry-late, entry-taken}
use Rattle.group_events.proofs.entries.entry.Goals as goal

-- WHAT IS KNOWN stands at the head of each answer: context and server are there; whether the context is queued.

pub returns-in_err-i : goal.returns-in_err-i
returns-in_err-i c =
    let a = c.args in
    let p = err_from_is_err_and c.from_residual.result c.from_residual.ensures.1 in
    rw (p.1, p.2)
    (told-refused a.g (rules.entry a.c.0 a.time a.first.0 a.tickets.counts) c.in_err-i.field-0.0
    (entry-no-context a.g a.c.0 a.time a.first.0 a.tickets.counts c.in_err-i.ensures.1
    ∙ sym (ap refusal_of c.in_err-i.ensures.0)))

pub returns-in_err-s : goal.returns-in_err-s
returns-in_err-s c =
    let a = c.args in
    let p = err_from_is_err_and c.from_residual-in_err-s.result c.from_residual-in_err-s.ensures.1 in
    let low : a.c.0 < max_contexts = omega (arith, c.in_ok-i.ensures) in
    rw (p.1, p.2)
    (told-refused a.g (rules.entry a.c.0 a.time a.first.0 a.tickets.counts) c.in_err-s.field-0.0
    (entry-no-server a.g a.c.0 a.time a.first.0 a.tickets.counts low c.in_err-s.ensures.1
    ∙ sym (ap refusal_of c.in_err-s.ensures.0)))

pub returns-then-is_queued : goal.returns-then-is_queued
returns-then-is_queued c =
    let a = c.args in
    let low : (a.c.0 < max_contexts) × (a.first.0 < max_servers)
    = (omega (arith, c.in_ok-i.ensures), omega (arith, c.in_ok-s.ensures)) in
    let here : c.is_queued.result ≡ queued a.g a.c.0
    = queued-at a.g c.in_ok-i.ensures.0 c.stack_of.ensures c.is_queued.ensures in
    told-refused a.g (rules.entry a.c.0 a.time a.first.0 a.tickets.counts) case.QueuedAlready
    (entry-queued a.g a.c.0 a.time a.first.0 a.tickets.counts low.0 low.1 (sym here ∙ c.if-is_queued.true))

pub returns-then-not-few_tickets : goal.returns-then-not-few_tickets
returns-then-not-few_tickets c =
    let a = c.args in
    let low : (a.c.0 < max_contexts) × (a.first.0 < max_servers)
    = (omega (arith, c.in_ok-i.ensures), omega (arith, c.in_ok-s.ensures)) in
    let here : c.is_queued.result ≡ queued a.g a.c.0
    = queued-at a.g c.in_ok-i.ensures.0 c.stack_of.ensures c.is_queued.ensures in
    told-refused a.g (rules.entry a.c.0 a.time a.first.0 a.tickets.counts) case.ManyTickets
    (entry-many a.g a.c.0 a.time a.first.0 a.tickets.counts low.0 low.1 (sym here ∙ c.if-is_queued.false)
    (sym c.few_tickets.ensures ∙ c.if-not-few_tickets.true))

pub returns-then-tickets-s-eq0 : goal.returns-then-tickets-s-eq0
returns-then-tickets-s-eq0 c =
    let a = c.args in
    let low : (a.c.0 < max_contexts) × (a.first.0 < max_servers)
    = (omega (arith, c.in_ok-i.ensures), omega (arith, c.in_ok-s.ensures)) in
    let here : c.is_queued.result ≡ queued a.g a.c.0
    = queued-at a.g c.in_ok-i.ensures.0 c.stack_of.ensures c.is_queued.ensures in
    let count : get_or a.tickets.counts c.in_ok-s.s 0 ≡ get_or a.tickets.counts a.first.0 0
    = ap (λ (s : ℕ). get_or a.tickets.counts s 0) c.in_ok-s.ensures.0 in
    told-refused a.g (rules.entry a.c.0 a.time a.first.0 a.tickets.counts) case.NoFirstTicket
    (entry-no-ticket a.g a.c.0 a.time a.first.0 a.tickets.counts low.0 low.1 (sym here ∙ c.if-is_queued.false)
    (sym c.few_tickets.ensures ∙ c.if-not-few_tickets.false) (sym count ∙ c.if-tickets-s-eq0.true))

pub returns-then-not-is_later : goal.returns-then-not-is_later
returns-then-not-is_later c =
    let a = c.args in
    let low : (a.c.0 < max_contexts) × (a.first.0 < max_servers)
    = (omega (arith, c.in_ok-i.ensures), omega (arith, c.in_ok-s.ensures)) in
    let here : c.is_queued.result ≡ queued a.g a.c.0
    = queued-at a.g c.in_ok-i.ensures.0 c.stack_of.ensures c.is_queued.ensures in
    let count : get_or a.tickets.counts c.in_ok-s.s 0 ≡ get_or a.tickets.counts a.first.0 0
    = ap (λ (s : ℕ). get_or a.tickets.counts s 0) c.in_ok-s.ensures.0 in
    let late : Bool = a.g.entered && leb a.time a.g.last in
    told-refused a.g (rules.entry a.c.0 a.time a.first.0 a.tickets.counts) case.NotLater
    (entry-late a.g a.c.0 a.time a.first.0 a.tickets.counts low.0 low.1 (sym here ∙ c.if-is_queued.false)
    (sym c.few_tickets.ensures ∙ c.if-not-few_tickets.false) (λ e. c.if-tickets-s-eq0.false (count ∙ e))
    (not-false late (sym c.is_later.ensures ∙ c.if-not-is_later.true)))

pub returns : goal.returns
returns c =
    let a = c.args in
    let low : (a.c.0 < max_contexts) × (a.first.0 < max_servers)
    = (omega (arith, c.in_ok-i.ensures), omega (arith, c.in_ok-s.ensures)) in
    let here : c.is_queued.result ≡ queued a.g a.c.0
    = queued-at a.g c.in_ok-i.ensures.0 c.stack_of.ensures c.is_queued.ensures in
    let count : get_or a.tickets.counts c.in_ok-s.s 0 ≡ get_or a.tickets.counts a.first.0 0
    = ap (λ (s : ℕ). get_or a.tickets.counts s 0) c.in_ok-s.ensures.0 in
    let late : Bool = a.g.entered && leb a.time a.g.last in
    told-accepted a.g (rules.entry a.c.0 a.time a.first.0 a.tickets.counts) c.entered.result
    (c.entered.ensures
    ∙ ap (λ (i : ℕ). rules.entered a.g i a.time a.first.0 a.tickets.counts) c.in_ok-i.ensures.0)
    (entry-taken a.g a.c.0 a.time a.first.0 a.tickets.counts low.0 low.1 (sym here ∙ c.if-is_queued.false)
    (sym c.few_tickets.ensures ∙ c.if-not-few_tickets.false) (λ e. c.if-tickets-s-eq0.false (count ∙ e))
    (not-true late (sym c.is_later.ensures ∙ c.if-not-is_later.false)))
