-- `leaving::replied` meets its contract: whoever is in service, the request ends.
-- Assumes nothing.
use mathlib.Core.Path.{◌∙◌, ap, subst, sym}
use Rattle.gate.specs.Shown.{server_of}
use Rattle.parts.specs.Shows.{ServerFits}
use Rattle.leaving.specs.Finds.{Yields}
use Rattle.leaving.proofs.Leaving.{ended_by, ended-freed, shows-freed}
use Rattle.leaving.proofs.replied.Goals as goal

pub front_ended-requires : goal.front_ended-requires
front_ended-requires c = (subst (λ x. ServerFits (server_of x)) c.in-Front.is c.requires.0, c.requires.1)

pub returns-in-Front : goal.returns-in-Front
returns-in-Front c =
    λ v s fine e h.
    let w = sym h.service.server ∙ ap server_of c.in-Front.is in
    ended_by s _ w (c.front_ended.ensures v s fine (e.0, e.1, subst (λ x. Yields x s.global) w e.2) h)

pub spent_ended-requires : goal.spent_ended-requires
spent_ended-requires c = (subst (λ x. ServerFits (server_of x)) c.in-Spent.is c.requires.0, c.requires.1)

pub returns-in-Spent : goal.returns-in-Spent
returns-in-Spent c =
    λ v s fine e h.
    let w = sym h.service.server ∙ ap server_of c.in-Spent.is in
    ended_by s _ w (c.spent_ended.ensures v s fine (e.0, subst (λ x. Yields x s.global) w e.2) h)

pub returns-in_default : goal.returns-in_default
returns-in_default c =
    λ v s fine e h.
    let w = sym h.service.server in
    ended_by s _ w
    (ended-freed s c.args.q.service.server (subst (λ x. Yields x s.global) w e.2) c.in_default.not-Front
    c.in_default.not-Spent (rw c.freed.ensures (shows-freed h)))
