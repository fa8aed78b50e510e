-- `blocking::ticket_set` meets its contract: the loop holds the servers that it has passed.
-- Assumes nothing.
use mathlib.Core.Path.{◌≡◌, refl, ap, ◌∙◌}
use native.Mathlib.Omega.{arith}
use lib.ListN.{get_or}
use Rattle.sets.specs.Sets.{set_of}
use Rattle.group_rules.specs.Limits.{max_servers}
use Rattle.blocking.specs.Queue.{with_ticket, ticket_set}
use Rattle.blocking.proofs.Tickets.{ticket_for, ticket-more}
use Rattle.blocking.proofs.ticket_set.Goals as goal

pub loop-s-init : goal.loop-s-init
unfolding set_of
loop-s-init c = refl

pub loop-s-preserved : goal.loop-s-preserved
loop-s-preserved c =
    let l = c.loop-s in
    let counts = c.args.t.counts in
    c.with_ticket-set.ensures ∙ ap (λ x. with_ticket x (get_or counts l.s 0) l.s) l.invariant
    ∙ ticket-more counts l.s (omega arith)

pub returns : goal.returns
unfolding ticket_set
returns c =
    let e : c.loop-s.s ≡ max_servers = omega arith in
    c.loop-s.invariant ∙ ap (λ n. set_of n (ticket_for c.args.t.counts)) e
