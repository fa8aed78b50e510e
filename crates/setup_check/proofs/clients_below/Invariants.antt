-- `setup_check::clients_below` meets its contract: the loop holds the clients passed.
-- Assumes nothing.
use mathlib.Core.Path.{◌≡◌}
use Rattle.setup_check.specs.Answers.{sets_of}
use Rattle.setup_check.proofs.clients_below.Given as goal

abbrev pub invariant-loop-c : goal.invariant-loop-c
invariant-loop-c l = l.all ≡ sets_of l.kinds l.homes l.c
