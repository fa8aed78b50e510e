-- `group_events::entered` meets its contract: sixteen counts are filled in as they are.
-- Assumes nothing.
use mathlib.Core.Path.{◌≡◌}
use lib.ListN.{length}
use borrow.Author.Rules.{rules}
use Rattle.group_rules.specs.Limits.{max_servers}
use Rattle.group_rules.specs.Events.{filled, entered}
use Rattle.group_rules.proofs.Stacks.{filled-all}
use Rattle.group_events.proofs.entries.entered.Goals as goal

pub returns : goal.returns
unfolding entered
returns c =
    let counts = c.args.tickets.counts in
    let long : length counts ≡ max_servers = search rules in
    let all : filled max_servers counts ≡ counts = rw (← long) (filled-all counts) in
    rw (c.first_call.ensures, all)
