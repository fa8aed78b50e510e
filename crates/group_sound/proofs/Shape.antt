-- How many timestamps, tickets and stacks a group has that a function holds.
-- Assumes nothing.
use mathlib.Core.Path.{◌≡◌}
use mathlib.Core.List.{List}
use lib.ListN.{length}
use mir.Val.{Val}
use denote.Laws.{Is}
use denote.Struct.Declared.{row}
use Rattle.group_rules.specs.declared.Group.{Group}
use Rattle.group_rules.specs.contracts.Group.{the_type}

module _ (g : Group) (vs : List Val) (h : Is (row the_type) g vs) where
  pub times_long : length g.times ≡ 8
  times_long = h.1.1.1.1.0.1.0.1

  pub tickets-long : length g.tickets ≡ 8
  tickets-long = h.1.1.1.1.1.0.1.0.1

  pub stacks-long : length g.stacks ≡ 8
  stacks-long = h.1.1.1.1.1.1.0.1.0.1
