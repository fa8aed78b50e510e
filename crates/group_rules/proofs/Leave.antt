-- A context that leaves keeps the group sound, and whoever else is committed.
-- Assumes nothing.
use Prim.Native.Nat.{ℕ, ◌<◌}
use mathlib.Core.Path.{◌≡◌, refl, sym, ap, ◌∙◌, subst}
use mathlib.Core.Bool.{true, false}
use native.Mathlib.Omega.{arith}
use lib.Dec.{eqb}
use lib.ListN.{length, length-set}
use lib.Seq.{get_or-set_same, get_or-set_other}
use borrow.Author.Tests.{eqb-true, eqb-false}
use Rattle.rules.proofs.Tests.{by-test, clash}
use Rattle.places.specs.Places.{pad, unpad, holds_only, blank}
use Rattle.places.specs.Tests.{zeros}
use Rattle.group_rules.specs.declared.Tickets.{Tickets}
use Rattle.group_rules.specs.declared.Stack.{Stack}
use Rattle.group_rules.specs.declared.Group.{Group}
use Rattle.group_rules.specs.Limits.{max_contexts}
use Rattle.group_rules.specs.Groups.{no_tickets, no_calls, time_of, tickets_of, places_of, has_call, queued}
use Rattle.group_rules.specs.Blocking.{committed}
use Rattle.group_rules.specs.Events.{gone}
use Rattle.group_rules.proofs.Facts.{Empty, InGroup, Facts}
use Rattle.group_rules.proofs.Keeping.{Same, same-queued, same-ticket, Shrinks, shrinks-committed, others-sound}

module _ (g : Group) (c : ℕ) (f : Facts g) (low : c < max_contexts) where
  abbrev h : Group
  h = gone g c

  -- THE CONTEXT THAT LEAVES

  own-time : time_of h c ≡ 0
  unfolding gone
  own-time = get_or-set_same g.times c 0 0 (omega (arith, f.times))

  own-tickets : tickets_of h c ≡ no_tickets.counts
  unfolding gone
  own-tickets =
      ap (λ (t : Tickets). t.counts)
      (get_or-set_same g.tickets c no_tickets no_tickets (omega (arith, f.tickets)))

  own-places : places_of h c ≡ no_calls.places
  unfolding gone
  own-places =
      ap (λ (s : Stack). s.places)
      (get_or-set_same g.stacks c no_calls no_calls (omega (arith, f.stacks)))

  pub left : queued h c ≡ false
  unfolding pad unpad
  left = ap has_call own-places

  own : Empty h c
  unfolding pad holds_only
  own = record {
    time = own-time;
    tickets = ap zeros own-tickets;
    calls = ap blank own-places;
  }

  in_group : InGroup h c
  unfolding pad
  in_group = record {
    counts = ap length own-tickets;
    places = ap length own-places;
    inside = λ q. clash q left;
    outside = λ q. own;
  }

  -- THE OTHERS

  others : (b : ℕ) → (b ≡ c → ⊥) → Same g h b
  unfolding gone
  others b n = record {
    time = get_or-set_other g.times c b 0 0 n;
    tickets = ap (λ (t : Tickets). t.counts) (get_or-set_other g.tickets c b no_tickets no_tickets n);
    places = ap (λ (s : Stack). s.places) (get_or-set_other g.stacks c b no_calls no_calls n);
  }

  other : (b : ℕ) → queued h b ≡ true → Same g h b
  other b q =
      others b (λ e. clash (subst (λ (x : ℕ). queued h x ≡ true) e q) left)

  shrinks : Shrinks g h
  shrinks = record {
    queue = λ b q. sym (same-queued (other b q)) ∙ q;
    times = λ b q. (other b q).time;
    tickets = λ b s q e. sym (same-ticket (other b q) s) ∙ e;
  }

  -- whoever else is committed stays so
  pub leave-commits : (b : ℕ) → queued h b ≡ true → committed g b ≡ true → committed h b ≡ true
  leave-commits b q e = shrinks-committed g h shrinks b q e

  -- ALL OF THEM

  same-begun : h.entered ≡ g.entered
  unfolding gone
  same-begun = refl

  same-last : h.last ≡ g.last
  unfolding gone
  same-last = refl

  lengths : (length h.times ≡ max_contexts) × (length h.tickets ≡ max_contexts)
      × (length h.stacks ≡ max_contexts)
  unfolding gone
  lengths = (
    length-set g.times c 0 ∙ f.times,
    length-set g.tickets c no_tickets ∙ f.tickets,
    length-set g.stacks c no_calls ∙ f.stacks,
  )

  pub leave-sound : Facts h
  leave-sound = record {
    times = lengths.0;
    tickets = lengths.1;
    stacks = lengths.2;
    fresh = λ e. same-last ∙ f.fresh (sym same-begun ∙ e);
    each = λ b l. by-test (eqb b c)
        (λ e. subst (λ (x : ℕ). InGroup h x) (sym (eqb-true b c e)) in_group)
        (λ e. others-sound g h c f (λ x. same-begun ∙ x) (omega (arith, same-last)) others
        (λ a n i q p x. clash p left)
        (λ a n x q. leave-commits a (same-queued (others a n) ∙ q) x) b l (eqb-false b c e));
  }
