-- `charging::charged` meets its contract: the loop holds the charged clients of the clusters passed.
-- Assumes nothing.
use mathlib.Core.Path.{◌≡◌}
use Rattle.gate.specs.Shown.{blank_line}
use Rattle.charging.proofs.Charging.{charged_below}
use Rattle.charging.proofs.charged.Given as goal

abbrev pub invariant-loop-k : goal.invariant-loop-k
invariant-loop-k l =
    l.s ≡ charged_below blank_line l.q.lines l.q.rooms l.setup.sizes l.keys l.k
