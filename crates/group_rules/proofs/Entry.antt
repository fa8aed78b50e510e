-- An accepted entry keeps the group sound, and whoever is committed.
-- Assumes nothing.
use Prim.Native.Nat.{ℕ, ◌≤◌, ◌<◌}
use mathlib.Core.Path.{◌≡◌, refl, sym, ap, ◌∙◌, subst}
use mathlib.Core.Bool.{true, false}
use mathlib.Core.List.{List, [], ◌∷◌}
use native.Mathlib.Omega.{arith}
use lib.Dec.{eqb, ltb}
use lib.ListN.{length, get_or, length-set}
use lib.Seq.{get_or-set_same, get_or-set_other}
use borrow.Author.Tests.{eqb-true, eqb-false, ne_eqb, lt-ltb}
use Rattle.rules.specs.Limits.{unused_place}
use Rattle.rules.specs.Lists.{has, Distinct}
use Rattle.rules.proofs.Tests.{by-test, clash, either_true}
use Rattle.places.specs.Places.{pad, unpad, used_first}
use Rattle.places.proofs.Pads.{length-pad, unpad-pad, used_first-pad}
use Rattle.group_rules.specs.declared.Tickets.{Tickets}
use Rattle.group_rules.specs.declared.Stack.{Stack}
use Rattle.group_rules.specs.declared.Group.{Group}
use Rattle.group_rules.specs.Limits.{max_contexts, max_servers, max_depth}
use Rattle.group_rules.specs.Groups.{no_tickets, no_calls, stack_with, time_of, tickets_of, has_ticket, places_of}
use Rattle.group_rules.specs.Groups.{calls_of, has_call, queued}
use Rattle.group_rules.specs.Blocking.{committed}
use Rattle.group_rules.specs.Sound.{few_tickets}
use Rattle.group_rules.specs.Events.{filled, entered}
use Rattle.group_rules.proofs.Facts.{InQueue, InGroup, Facts, queued-low}
use Rattle.group_rules.proofs.Stacks.{length-filled, filled_at, filled-few}
use Rattle.group_rules.proofs.Keeping.{Same, Enters, enters-committed, others-sound}

module _ (g : Group) (c time first : ℕ) (ts : List ℕ) (f : Facts g) (low : c < max_contexts)
    (server : first < max_servers) (few : few_tickets ts ≡ true) (ticket : 0 < get_or ts first 0)
    (late : g.entered ≡ true → g.last < time) where
  abbrev h : Group
  h = entered g c time first ts

  -- THE CONTEXT THAT ENTERS

  own-time : time_of h c ≡ time
  unfolding entered
  own-time = get_or-set_same g.times c time 0 (omega (arith, f.times))

  own-tickets : tickets_of h c ≡ filled max_servers ts
  unfolding entered
  own-tickets =
      ap (λ (t : Tickets). t.counts)
      (get_or-set_same g.tickets c (record { counts = filled max_servers ts }) no_tickets (omega (arith, f.tickets)))

  own-places : places_of h c ≡ pad max_depth (first ∷ [])
  unfolding entered
  own-places =
      ap (λ (s : Stack). s.places)
      (get_or-set_same g.stacks c (stack_with (first ∷ [])) no_calls (omega (arith, f.stacks)))

  used : has unused_place (first ∷ []) ≡ false
  used = rw (ne_eqb first unused_place (λ e. omega arith))

  own-calls : calls_of h c ≡ first ∷ []
  own-calls = ap unpad own-places ∙ unpad-pad max_depth (first ∷ []) used (let x : 1 ≤ 8 = omega arith in x)

  own-ticket : has_ticket h c first ≡ true
  own-ticket =
      lt-ltb 0 (get_or (tickets_of h c) first 0) (omega (
        arith,
        ap (λ (t : List ℕ). get_or t first 0) own-tickets ∙ filled_at max_servers ts first server,
      ))

  -- THE OTHERS

  others : (b : ℕ) → (b ≡ c → ⊥) → Same g h b
  unfolding entered
  others b n = record {
    time = get_or-set_other g.times c b time 0 n;
    tickets = ap (λ (t : Tickets). t.counts)
        (get_or-set_other g.tickets c b (record { counts = filled max_servers ts }) no_tickets n);
    places = ap (λ (s : Stack). s.places)
        (get_or-set_other g.stacks c b (stack_with (first ∷ [])) no_calls n);
  }

  before : (b : ℕ) → queued g b ≡ true → time_of g b < time
  before b q =
      let was = (f.each b (queued-low g b f.stacks q)).inside q in omega (arith, was.past, late was.begun)

  enters : Enters g h c
  enters = record { others = others; last = λ b n q. omega (arith, before b q, own-time) }

  -- whoever is committed stays so
  pub entry-commits : (b : ℕ) → (b ≡ c → ⊥) → committed g b ≡ true → queued g b ≡ true → committed h b ≡ true
  entry-commits b n e q = enters-committed g h c enters b n q e

  -- ALL OF THEM

  past-last : g.last ≤ time
  past-last =
      by-test g.entered (λ e. omega (arith, late e)) (λ e. omega (arith, f.fresh e))

  begun : h.entered ≡ true
  unfolding entered
  begun = refl

  last-is : h.last ≡ time
  unfolding entered
  last-is = refl

  own : InQueue h c
  own = record {
    begun = begun;
    past = omega (arith, own-time, last-is);
    apart = λ b i n q e.
        let same = others b n in
        let was : queued g b ≡ true = ap has_call (sym same.places) ∙ q in
        omega (arith, before b was, own-time, e, same.time);
    few = subst (λ (t : List ℕ). few_tickets t ≡ true) (sym own-tickets) (filled-few max_servers ts few);
    laid = subst (λ (p : List ℕ). used_first p ≡ true) (sym own-places) (used_first-pad max_depth (first ∷ []) used);
    once = subst Distinct (sym own-calls) (refl, tt);
    held = λ s x. either_true (eqb first s) false (subst (λ (l : List ℕ). has s l ≡ true) own-calls x)
        (λ e. subst (λ (y : ℕ). has_ticket h c y ≡ true) (eqb-true first s e) own-ticket)
        (λ e. clash e refl);
    alone = λ x. absurd (let y : 1 < 1 = subst (λ (l : List ℕ). 1 < length l) own-calls x in omega arith);
  }

  in_group : InGroup h c
  in_group = record {
    counts = ap length own-tickets ∙ length-filled max_servers ts;
    places = ap length own-places ∙ length-pad max_depth (first ∷ []);
    inside = λ q. own;
    outside = λ q. clash (ap (λ (l : List ℕ). ltb 0 (length l)) own-calls) q;
  }

  lengths : (length h.times ≡ max_contexts) × (length h.tickets ≡ max_contexts)
      × (length h.stacks ≡ max_contexts)
  unfolding entered
  lengths = (
    length-set g.times c time ∙ f.times,
    length-set g.tickets c (record { counts = filled max_servers ts }) ∙ f.tickets,
    length-set g.stacks c (stack_with (first ∷ [])) ∙ f.stacks,
  )

  pub entry-sound : Facts h
  entry-sound = record {
    times = lengths.0;
    tickets = lengths.1;
    stacks = lengths.2;
    fresh = λ e. clash begun e;
    each = λ b l. by-test (eqb b c)
        (λ e. subst (λ (x : ℕ). InGroup h x) (sym (eqb-true b c e)) in_group)
        (λ e. others-sound g h c f (λ x. begun) (omega (arith, past-last, last-is)) others
        (λ a n i q p x. omega (arith, before a q, own-time, x)) entry-commits b l (eqb-false b c e));
  }
