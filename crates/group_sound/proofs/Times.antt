-- The queue as a set, and who of it has a context's timestamp.
-- Assumes nothing.
use Prim.Native.Nat.{ℕ, ◌<◌}
use mathlib.Core.Path.{◌≡◌, refl, ap}
use mathlib.Core.Bool.{Bool, true, false, not, ◌&&◌, cond}
use mathlib.Core.List.{List}
use native.Mathlib.Omega.{arith}
use lib.Dec.{eqb, leb}
use lib.ListN.{get_or}
use Rattle.rules.specs.Limits.{max_clients}
use Rattle.rules.specs.Lists.{upd}
use Rattle.rules.proofs.Counts.{some_same}
use Rattle.sets.specs.Sets.{member, without_of}
use Rattle.sets.proofs.Laws.{member-set_of}
use Rattle.group_rules.specs.declared.Stack.{Stack}
use Rattle.group_rules.specs.declared.Group.{Group}
use Rattle.group_rules.specs.Limits.{max_contexts}
use Rattle.group_rules.specs.Groups.{no_calls, time_of, queued, has_call}
use Rattle.group_rules.specs.Sound.{same_time, time_sound}
use Rattle.group_sound.specs.Answers.{queue_set, has_time, time_fits}

-- the test of a context
abbrev pub queued_in : List Stack → ℕ → Bool
queued_in stacks c = has_call (get_or stacks c no_calls).places

module _ (g : Group) (c : ℕ) where
  -- the others of the queue that have the timestamp of c
  others-time : (b : ℕ) → b < max_contexts
      → has_time g.times (without_of (queue_set g.stacks) c) c b ≡ same_time g c b
  unfolding queue_set
  others-time b l =
      rw (
        member-set_of max_clients (upd (member (queue_set g.stacks)) c false) b (omega arith),
        member-set_of max_contexts (queued_in g.stacks) b l,
      ) (turned (eqb b c) (queued g b) (eqb (time_of g b) (time_of g c)))
    where
      turned : (is q t : Bool) → t && cond is false q ≡ not is && (q && t)
      turned true q true = refl
      turned true q false = refl
      turned false true true = refl
      turned false true false = refl
      turned false false true = refl
      turned false false false = refl

  pub time-fits : time_fits g.entered g.last g.times (queue_set g.stacks) c ≡ time_sound g c
  unfolding time_fits time_sound
  time-fits =
      ap (λ w. (g.entered && leb (time_of g c) g.last) && not w) (some_same _ _ max_contexts others-time)
