-- `group_sound::few_tickets` meets its contract: each count is at most 4.
-- Assumes nothing.
use Rattle.std.proofs.Common.{◌↔◌, IsTrue, EachIndex, slice_index, ◌≤◌, rules}
use Rattle.group_rules.specs.Limits.{max_tickets}
use Rattle.group_sound.proofs.Stacks.{few-each}
use Rattle.group_sound.proofs.few_tickets.Goals as goal

pub returns : goal.returns
returns c =
    let counts = c.args.t.counts in
    let each : IsTrue c.all.result ↔ EachIndex counts (λ k. slice_index counts k ≤ max_tickets) = search rules in
    few-each counts c.all.result each
