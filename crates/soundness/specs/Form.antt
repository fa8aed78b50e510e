-- The gates that are the shown form of a sound state of the rules.
-- Assumes nothing.
use Rattle.std.specs.Prelude.{◌≡◌}
use Rattle.rules.specs.State.{State}
use Rattle.rules.specs.Sound.{Sound}
use Rattle.gate.specs.declared.Gate.{Gate}
use Rattle.gate.specs.Shown.{setup_of, shown}

-- g is its own setup and a sound state over it, in padded form. Sound says that the setup is accepted.
pub record ShowsSound (g : Gate) : Type 0 where
  pub state : State
  pub form : g ≡ shown g.setup state
  pub sound : Sound (setup_of g.setup) state
