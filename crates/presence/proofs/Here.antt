-- Who is in a line, a room or a queue, as the queues show it.
-- Assumes nothing.
use Prim.Native.Nat.{ℕ}
use mathlib.Core.Bool.{◌||◌}
use mathlib.Core.Path.{◌≡◌, ap, ap₂, subst, sym}
use native.Mathlib.Omega.{arith}
use lib.Dec.{eqb}
use lib.ListN.{get_or}
use Rattle.rules.specs.Limits.{max_size}
use Rattle.rules.specs.Lists.{has, heads}
use Rattle.rules.specs.Queues.{waits}
use Rattle.rules.specs.State.{State, serves}
use Rattle.rules.specs.Step.{present}
use Rattle.sets.specs.Sets.{member}
use Rattle.gate.specs.Shown.{server_of, setup_of}
use Rattle.parts.specs.Shows.{ShowsList, ShowsQueues}
use Rattle.gate.specs.declared.Line.{Line}
use Rattle.parts.specs.declared.Queues.{Queues}
use Rattle.gate.specs.declared.Setup.{Setup}
use Rattle.parts.proofs.Parts as parts
use Rattle.parts.proofs.Parts.{has-is, heads-is, line_at}
use Rattle.parts.proofs.Reading.{list_back}
use Rattle.rows.specs.Homes.{Home}
use Rattle.presence.specs.Presence.{present_in, waits_in}

-- k is c's own cluster
module _ {v : Setup} {s : State} {q : Queues} (h : ShowsQueues v s q) {c k : ℕ} (home : Home v.homes c k) where
  pub own_line : (d : Line) → ShowsList max_size (s.lines ((setup_of v).cluster c)) (get_or q.lines k d).places
  own_line d =
      subst (λ j. ShowsList max_size (s.lines j) (get_or q.lines k d).places) home.own
      (line_at h.lines k home.low d)

  pub room-has : (w : ℕ) → member (get_or q.rooms k w) c ≡ s.room c
  room-has w =
      parts.room-has (setup_of v).cluster s.room h.rooms home.low w (sym home.own) home.known

  pub heads-at : (d : Line) → eqb (get_or (get_or q.lines k d).places 0 0) c ≡ heads c (s.lines ((setup_of v).cluster c))
  heads-at d = heads-is (own_line d) home.known (omega arith)

  module _ (d : Line) (w : ℕ) where
    pub waits-is : waits_in (get_or q.lines k d).places (get_or q.rooms k w) c ≡ waits (setup_of v) s c
    waits-is = ap₂ ◌||◌ (has-is (own_line d) home.known) (room-has w)

    pub present-is :
        present_in (get_or q.lines k d).places (get_or q.rooms k w) q.background (server_of q.service.server) c
        ≡ present (setup_of v) s c
    present-is =
        ap₂ ◌||◌ waits-is
        (ap₂ ◌||◌ (ap (has c) (list_back h.background)) (ap (λ x. serves x c) h.service.server))
