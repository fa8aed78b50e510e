-- To whom a context delegates: the answers by timestamps, sets and its stack, and that they are what the rules say.
-- Assumes nothing.
use Prim.Native.Nat.{ℕ, zero, suc, ◌-◌, ◌<◌}
use mathlib.Core.Path.{◌≡◌, refl}
use mathlib.Core.Bool.{true}
use mathlib.Core.List.{List, [], ◌∷◌}
use mathlib.Core.Option.{none}
use Rattle.std.specs.Prelude as code
use Rattle.std.specs.Prelude.{Some, None}
use native.Mathlib.Omega.{arith}
use lib.Dec.{eqb}
use lib.ListN.{length, get_or}
use borrow.Author.Tests.{ltb-true}
use Rattle.rules.specs.Limits.{unused_place}
use Rattle.rules.proofs.Tests.{by-test}
use Rattle.places.specs.Places.{unpad, used_of}
use Rattle.places.proofs.Queues.{used-unpad}
use Rattle.group_rules.specs.declared.Group.{Group}
use Rattle.group_rules.specs.Limits.{max_contexts}
use Rattle.group_rules.specs.Groups.{places_of, has_call, queued}
use Rattle.group_rules.specs.Blocking.{server, last_of, to_blocker, delegate_of}
use Rattle.blocking.specs.Queue.{SetsOf, found_in, blocker_in}
use Rattle.blocking.specs.Delegates.{delegate_in}
use Rattle.blocking.proofs.Blocking.{blocker-in, committed-in}

-- THE ANSWERS

-- what the places of a list hold within it
unpad-at : (q : List ℕ) (i d : ℕ) → i < length (unpad q) → get_or (unpad q) i d ≡ get_or q i d
unfolding unpad
unpad-at [] i d h = refl
unpad-at (x ∷ q) i d h =
    by-test (eqb x unused_place)
    (λ e. let z : i < 0 = rw e at h in absurd (omega arith))
    (λ e. rw e (within i (rw e at h) (λ j l. unpad-at q j d l)))
  where
    within : (i : ℕ) → i < suc (length (unpad q))
        → ((j : ℕ) → j < length (unpad q) → get_or (unpad q) j d ≡ get_or q j d) → get_or (x ∷ unpad q) i d ≡ get_or (x ∷ q) i d
    within zero h f = refl
    within (suc i) h f = f i (omega arith)

-- the last of them, by the number of used places
pub last-used : (q : List ℕ) → has_call q ≡ true → last_of (unpad q) ≡ get_or q (used_of q - 1) 0
last-used q h =
    rw (used-unpad q) (unpad-at q (length (unpad q) - 1) 0 (omega (arith, ltb-true 0 (length (unpad q)) h)))

module _ (times sets places : List ℕ) (c : ℕ) (waits : has_call places ≡ true) where
  pub delegate-blocked : (o : code.Option ℕ) → ¬ (o ≡ None) → found_in o ≡ blocker_in times sets c
      → to_blocker (found_in o) ≡ delegate_in times sets places c
  unfolding delegate_in
  delegate-blocked None h e = absurd (h refl)
  delegate-blocked (Some b) h e = rw (waits, ← e)

  pub delegate-serves : none ≡ blocker_in times sets c
      → server (last_of (unpad places)) ≡ delegate_in times sets places c
  unfolding delegate_in
  delegate-serves e = rw (waits, ← e)

-- THE RULES

module _ (g : Group) (sets : List ℕ) (is : SetsOf g.tickets g.stacks sets) (c : ℕ) (low : c < max_contexts) where
  pub delegate-in : delegate_in g.times sets (places_of g c) c ≡ delegate_of g c
  unfolding delegate_in delegate_of
  delegate-in =
      by-test (queued g c)
      (λ q. rw (q, committed-in g sets is c low q, ← blocker-in g sets is c low q))
      (λ q. rw q)
