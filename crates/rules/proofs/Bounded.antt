-- Demand 3 from any ranking: what the invariant of every client means for its charge.
-- Assumes nothing.
use Rattle.rules.specs.Setup.{Setup, Accepted}
use Rattle.rules.specs.Step.{Ranks}
use Rattle.rules.specs.History.{after_by, struck_in_room_by}
use Rattle.rules.specs.Demands.{BoundedBy, BoundedUnstruckInRoomBy}
use Rattle.rules.proofs.Ranking.{Ranking}
use Rattle.rules.proofs.Kept.{kept-reach, kept-unstruck}
use Rattle.rules.proofs.Charge.{charge-is-owed}
use Rattle.rules.proofs.Keeping.{kept}

-- One argument for any ranks: of them nothing is used but what `Ranking` says.
module _ (u : Setup) (a : Accepted u) (ranks : Ranks) (ranking : Ranking u ranks) where
  pub bounded-by : BoundedBy u ranks
  bounded-by h c r =
      let s = after_by u ranks h in
      rw (← charge-is-owed u ranks c h)
      (kept-reach u (ranks h s) s c (struck_in_room_by u ranks c h) (kept u a ranks ranking h c r))

  pub bounded-unstruck-by : BoundedUnstruckInRoomBy u ranks
  bounded-unstruck-by h c r n =
      let s = after_by u ranks h in
      rw (← charge-is-owed u ranks c h)
      (kept-unstruck u (ranks h s) s c (rw n at (kept u a ranks ranking h c r)))
