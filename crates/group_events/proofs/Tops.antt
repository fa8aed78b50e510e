-- The call on top of a stack: where it stands, and that a committed context of a sound group has a ticket for it.
-- Assumes nothing.
use Prim.Native.Nat.{ℕ, ◌-◌, ◌≤◌, ◌<◌}
use mathlib.Core.Path.{◌≡◌, sym, ap, ◌∙◌}
use mathlib.Core.Bool.{true}
use native.Mathlib.Omega.{arith}
use lib.ListN.{length, get_or}
use borrow.Author.Tests.{ltb-true, lt-ltb}
use Rattle.places.proofs.Pads.{unpad-fits}
use Rattle.places.proofs.Queues.{used-unpad}
use Rattle.group_rules.specs.declared.Group.{Group}
use Rattle.group_rules.specs.Limits.{max_contexts, max_servers, max_depth}
use Rattle.group_rules.specs.Groups.{tickets_for, places_of, calls_of}
use Rattle.group_rules.specs.Blocking.{committed, current_of}
use Rattle.group_rules.specs.Sound.{sound_of}
use Rattle.group_rules.proofs.Facts.{facts}
use Rattle.group_rules.proofs.Stacks.{last_has}
use Rattle.group_rules.proofs.Committed.{committed-queued}
use Rattle.group_rules.proofs.Call.{calls-low}
use Rattle.blocking.proofs.Delegates.{last-used}

pub top-is : (g : Group) (c n : ℕ) → n ≡ length (calls_of g c) → 0 < n → get_or (places_of g c) (n - 1) 0 ≡ current_of g c
top-is g c n e h =
    ap (λ (k : ℕ). get_or (places_of g c) (k - 1) 0) (e ∙ sym (used-unpad (places_of g c)))
    ∙ sym (last-used (places_of g c) (lt-ltb 0 (length (calls_of g c)) (omega arith)))

pub record Top (g : Group) (c : ℕ) : Type 0 where
  pub some : 0 < length (calls_of g c)
  pub few : length (calls_of g c) ≤ max_depth
  pub server : current_of g c < max_servers
  pub ticket : 0 < tickets_for g c (current_of g c)

pub top-known : (g : Group) (c : ℕ) → sound_of g ≡ true → c < max_contexts → committed g c ≡ true → Top g c
top-known g c sound low k =
    let f = facts g sound in
    let q = committed-queued g c k in
    let there = last_has (calls_of g c) q in
    record {
      some = ltb-true 0 (length (calls_of g c)) q;
      few = omega (arith, unpad-fits (places_of g c), (f.each c low).places);
      server = calls-low g c f low q (current_of g c) there;
      ticket = ltb-true 0 (tickets_for g c (current_of g c)) (((f.each c low).inside q).held (current_of g c) there);
    }
