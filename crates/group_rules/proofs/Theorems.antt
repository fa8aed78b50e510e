-- What holds of every history of a group's events from the group that nobody has entered, refused events among them.
-- Assumes nothing.
use Prim.Native.Nat.{ℕ}
use mathlib.Core.Path.{◌≡◌, subst}
use mathlib.Core.Bool.{true, false}
use mathlib.Core.List.{List, ◌∷◌}
use mathlib.Core.Option.{none}
use Rattle.rules.specs.Lists.{has}
use Rattle.group_rules.specs.Limits.{max_contexts}
use Rattle.group_rules.specs.Groups.{time_of, has_ticket, calls_of, queued}
use Rattle.group_rules.specs.Blocking.{blocks, committed, blocker_of, current_of}
use Rattle.group_rules.specs.Sound.{sound_of}
use Rattle.group_rules.specs.Events.{Event}
use Rattle.group_rules.specs.History.{reached, follow, Chain}
use Rattle.group_rules.proofs.Searches.{Latest}
use Rattle.group_rules.proofs.Facts.{Facts, facts, queued-low}
use Rattle.group_rules.proofs.Stacks.{last_has}
use Rattle.group_rules.proofs.Committed.{committed-queued, exclusive, one-stack}
use Rattle.group_rules.proofs.Follow.{blocker-is, unblocked, committed-none, follow-ends}
use Rattle.group_rules.proofs.Steps.{reached-sound, step-commits}
use Rattle.group_rules.proofs.Waiting.{no-cycle}

module _ (es : List Event) where
  -- Every group that is reached is sound.
  pub always-sound : sound_of (reached es) ≡ true
  always-sound = reached-sound es

  sure : Facts (reached es)
  sure = facts (reached es) always-sound

  -- No two committed contexts have tickets for the same server.
  pub tickets-apart : (a b s : ℕ) → committed (reached es) a ≡ true → committed (reached es) b ≡ true
      → has_ticket (reached es) a s ≡ true → has_ticket (reached es) b s ≡ true → a ≡ b
  tickets-apart = exclusive (reached es) sure

  -- A server serves one request at a time: no two committed contexts have it on their stacks, let alone on top.
  pub stacks-apart : (a b s : ℕ) → committed (reached es) a ≡ true → committed (reached es) b ≡ true
      → has s (calls_of (reached es) a) ≡ true → has s (calls_of (reached es) b) ≡ true → a ≡ b
  stacks-apart = one-stack (reached es) sure

  on-top : (c : ℕ) → committed (reached es) c ≡ true
      → has (current_of (reached es) c) (calls_of (reached es) c) ≡ true
  on-top c e = last_has (calls_of (reached es) c) (committed-queued (reached es) c e)

  pub serves-one : (a b : ℕ) → committed (reached es) a ≡ true → committed (reached es) b ≡ true
      → current_of (reached es) a ≡ current_of (reached es) b → a ≡ b
  serves-one a b x y e =
      stacks-apart a b (current_of (reached es) b) x y
      (subst (λ (s : ℕ). has s (calls_of (reached es) a) ≡ true) e (on-top a x)) (on-top b y)

  -- The context that blocks another directly prevents it from being committed, and of those that do it is the latest;
  -- there is none exactly if the context is committed.
  pub blocks-directly : (c : ℕ)
      → Latest (time_of (reached es)) (blocks (reached es) c) max_contexts (blocker_of (reached es) c)
  blocks-directly = blocker-is (reached es)

  pub blocked-or-committed : (c : ℕ) → queued (reached es) c ≡ true
      → (blocker_of (reached es) c ≡ none → committed (reached es) c ≡ true)
      × (committed (reached es) c ≡ true → blocker_of (reached es) c ≡ none)
  blocked-or-committed c q = (unblocked (reached es) c q, committed-none (reached es) c)

  -- Following "who blocks me directly" from any queued context ends at a committed one within 7 steps. So as long as
  -- anyone is queued, someone is committed.
  pub seven-steps : (c : ℕ) → queued (reached es) c ≡ true → committed (reached es) (follow (reached es) 7 c) ≡ true
  seven-steps c q = follow-ends (reached es) c (queued-low (reached es) c sure.stacks q) q

  -- A committed context stays committed until it leaves, whatever the next event is.
  pub stays-committed : (e : Event) (c : ℕ) → committed (reached es) c ≡ true → queued (reached (e ∷ es)) c ≡ true
      → committed (reached (e ∷ es)) c ≡ true
  stays-committed = step-commits (reached es) always-sound

  -- No deadlock: no server waits for itself through others.
  pub no-deadlock : (q : ℕ) (l : List ℕ) → Chain (reached es) q l → has q l ≡ false
  no-deadlock = no-cycle (reached es) sure
