-- An accepted reply to a later call keeps the group sound, and whoever is committed.
-- Assumes nothing.
use Prim.Native.Nat.{ℕ, ◌-◌, ◌≤◌, ◌<◌}
use mathlib.Core.Path.{◌≡◌, refl, sym, ap, ◌∙◌, subst}
use mathlib.Core.Bool.{true, false}
use mathlib.Core.List.{List, [], ◌∷◌, ◌++◌}
use native.Mathlib.Omega.{arith}
use lib.Dec.{eqb, ltb}
use lib.ListN.{length, get_or, set, take, length-set}
use lib.Seq.{get_or-set_same, get_or-set_other, length-take-le}
use borrow.Author.Tests.{eqb-true, eqb-false, ltb-true, lt-ltb}
use Rattle.rules.specs.Limits.{unused_place}
use Rattle.rules.specs.Lists.{has, Distinct}
use Rattle.rules.proofs.Tests.{by-test, clash, both_false}
use Rattle.rules.proofs.Lists.{has-append, snoc-has}
use Rattle.places.specs.Places.{pad, unpad, used_first}
use Rattle.places.proofs.Pads.{length-pad, unpad-pad, unpad-fits, used_first-pad}
use Rattle.group_rules.specs.declared.Tickets.{Tickets}
use Rattle.group_rules.specs.declared.Stack.{Stack}
use Rattle.group_rules.specs.declared.Group.{Group}
use Rattle.group_rules.specs.Limits.{max_contexts, max_servers, max_depth}
use Rattle.group_rules.specs.Groups.{no_tickets, no_calls, time_of, tickets_of, tickets_for, has_ticket, places_of}
use Rattle.group_rules.specs.Groups.{calls_of, has_call, queued}
use Rattle.group_rules.specs.Blocking.{committed, current_of}
use Rattle.group_rules.specs.Sound.{few_tickets}
use Rattle.group_rules.specs.Events.{popped_of, popped}
use Rattle.group_rules.proofs.Facts.{InQueue, InGroup, Facts, ticket-low}
use Rattle.group_rules.proofs.Committed.{committed-queued}
use Rattle.group_rules.proofs.Stacks.{before_last, distinct-left, last-new, pop-pad, few-set}
use Rattle.group_rules.proofs.Keeping.{Same, Shrinks, shrinks-committed, others-sound}
use Rattle.group_rules.proofs.Call.{calls-used, places-are}

module _ (g : Group) (c : ℕ) (f : Facts g) (low : c < max_contexts) (can : committed g c ≡ true)
    (deep : 1 < length (calls_of g c)) where
  abbrev h : Group
  h = popped g c

  abbrev top : ℕ
  top = current_of g c

  abbrev rest : List ℕ
  rest = take (length (calls_of g c) - 1) (calls_of g c)

  here : queued g c ≡ true
  here = committed-queued g c can

  was : InQueue g c
  was = (f.each c low).inside here

  -- THE STACK

  parted : rest ++ (top ∷ []) ≡ calls_of g c
  parted = before_last (calls_of g c) (omega (arith, deep))

  length_rest : length rest ≡ length (calls_of g c) - 1
  length_rest = length-take-le (length (calls_of g c) - 1) (calls_of g c) (omega arith)

  own-places : places_of h c ≡ pad max_depth rest
  unfolding popped
  own-places =
      ap (λ (t : Stack). t.places)
      (get_or-set_same g.stacks c (record { places = popped_of (calls_of g c) (places_of g c) }) no_calls
      (omega (arith, f.stacks)))
      ∙ ap (λ (p : List ℕ). set p (length (calls_of g c) - 1) unused_place)
      (places-are g c f low here ∙ ap (pad max_depth) (sym parted))
      ∙ ap (λ (n : ℕ). set (pad max_depth (rest ++ (top ∷ []))) n unused_place) (sym length_rest)
      ∙ pop-pad max_depth rest top

  used : has unused_place rest ≡ false
  used =
      (both_false (has unused_place rest) (has unused_place (top ∷ []))
      (sym (has-append unused_place rest (top ∷ [])) ∙ ap (has unused_place) parted ∙ calls-used g c f low here)).0

  few-calls : length (calls_of g c) ≤ max_depth
  few-calls =
      omega (arith, unpad-fits (places_of g c), (f.each c low).places)

  own-calls : calls_of h c ≡ rest
  own-calls = ap unpad own-places ∙ unpad-pad max_depth rest used (omega (arith, length_rest, few-calls))

  rest_has : (s : ℕ) → has s rest ≡ true → has s (calls_of g c) ≡ true
  rest_has s e = ap (has s) (sym parted) ∙ has-append s rest (top ∷ []) ∙ rw e

  -- THE TICKETS

  on-top : has top (calls_of g c) ≡ true
  on-top = ap (has top) (sym parted) ∙ snoc-has top rest

  top-low : top < max_servers
  top-low = ticket-low g c top (f.each c low).counts (was.held top on-top)

  own-tickets : tickets_of h c ≡ set (tickets_of g c) top (tickets_for g c top - 1)
  unfolding popped
  own-tickets =
      ap (λ (t : Tickets). t.counts)
      (get_or-set_same g.tickets c (record { counts = set (tickets_of g c) top (tickets_for g c top - 1) }) no_tickets
      (omega (arith, f.tickets)))

  top-ticket : tickets_for h c top ≡ tickets_for g c top - 1
  top-ticket =
      ap (λ (t : List ℕ). get_or t top 0) own-tickets
      ∙ get_or-set_same (tickets_of g c) top (tickets_for g c top - 1) 0 (omega (arith, top-low, (f.each c low).counts))

  other-ticket : (s : ℕ) → (s ≡ top → ⊥) → tickets_for h c s ≡ tickets_for g c s
  other-ticket s n =
      ap (λ (t : List ℕ). get_or t s 0) own-tickets
      ∙ get_or-set_other (tickets_of g c) top s (tickets_for g c top - 1) 0 n

  no_more : (s : ℕ) → has_ticket h c s ≡ true → has_ticket g c s ≡ true
  no_more s e =
      let some = ltb-true 0 (tickets_for h c s) e in
      by-test (eqb s top)
      (λ y. let is : s ≡ top = eqb-true s top y in
      subst (λ (x : ℕ). has_ticket g c x ≡ true) (sym is) (was.held top on-top))
      (λ y. lt-ltb 0 (tickets_for g c s) (omega (arith, some, other-ticket s (eqb-false s top y))))

  -- THE OTHERS

  others : (b : ℕ) → (b ≡ c → ⊥) → Same g h b
  unfolding popped
  others b n = record {
    time = refl;
    tickets = ap (λ (t : Tickets). t.counts)
        (get_or-set_other g.tickets c b
        (record { counts = set (tickets_of g c) top (tickets_for g c top - 1) }) no_tickets n);
    places = ap (λ (t : Stack). t.places)
        (get_or-set_other g.stacks c b (record { places = popped_of (calls_of g c) (places_of g c) }) no_calls n);
  }

  same-times : (b : ℕ) → time_of h b ≡ time_of g b
  unfolding popped
  same-times b = refl

  -- the same are queued
  same_queue : (b : ℕ) → queued h b ≡ queued g b
  same_queue b =
      by-test (eqb b c)
      (λ e. subst (λ (x : ℕ). queued h x ≡ queued g x) (sym (eqb-true b c e)) (
      ap (λ (l : List ℕ). ltb 0 (length l)) own-calls
      ∙ lt-ltb 0 (length rest) (omega (arith, length_rest, deep))
      ∙ sym here
      ))
      (λ e. ap has_call (others b (eqb-false b c e)).places)

  shrinks : Shrinks g h
  shrinks = record {
    queue = λ b q. sym (same_queue b) ∙ q;
    times = λ b q. same-times b;
    tickets = λ b s q e. by-test (eqb b c)
        (λ y. let is : b ≡ c = eqb-true b c y in
        subst (λ (x : ℕ). has_ticket g x s ≡ true) (sym is)
        (no_more s (subst (λ (x : ℕ). has_ticket h x s ≡ true) is e)))
        (λ y. subst (λ (t : List ℕ). ltb 0 (get_or t s 0) ≡ true) (others b (eqb-false b c y)).tickets e);
  }

  -- whoever is committed stays so
  pub pop-commits : (b : ℕ) → committed g b ≡ true → committed h b ≡ true
  pop-commits b e = shrinks-committed g h shrinks b (same_queue b ∙ committed-queued g b e) e

  -- ALL OF THEM

  same-begun : h.entered ≡ g.entered
  unfolding popped
  same-begun = refl

  same-last : h.last ≡ g.last
  unfolding popped
  same-last = refl

  inside : InQueue h c
  inside = record {
    begun = same-begun ∙ was.begun;
    past = omega (arith, same-times c, same-last, was.past);
    apart = λ b i n q e. was.apart b i n (sym (same_queue b) ∙ q) (sym (same-times b) ∙ e ∙ same-times c);
    few = subst (λ (t : List ℕ). few_tickets t ≡ true) (sym own-tickets)
        (few-set (tickets_of g c) top (tickets_for g c top - 1) (omega arith) was.few);
    laid = subst (λ (p : List ℕ). used_first p ≡ true) (sym own-places) (used_first-pad max_depth rest used);
    once = subst Distinct (sym own-calls) (distinct-left rest (top ∷ []) (subst Distinct (sym parted) was.once));
    held = λ s e.
        let there : has s rest ≡ true = subst (λ (l : List ℕ). has s l ≡ true) own-calls e in
        let new = last-new rest top (subst Distinct (sym parted) was.once) in
        let other = other-ticket s
        (λ y. clash (subst (λ (x : ℕ). has x rest ≡ true) y there) new) in
        ap (λ (n : ℕ). ltb 0 n) other ∙ was.held s (rest_has s there);
    alone = λ x. pop-commits c can;
  }

  in_group : InGroup h c
  in_group = record {
    counts = ap length own-tickets ∙ length-set (tickets_of g c) top (tickets_for g c top - 1) ∙ (f.each c low).counts;
    places = ap length own-places ∙ length-pad max_depth rest;
    inside = λ q. inside;
    outside = λ q. clash (same_queue c ∙ here) q;
  }

  lengths : (length h.times ≡ max_contexts) × (length h.tickets ≡ max_contexts)
      × (length h.stacks ≡ max_contexts)
  unfolding popped
  lengths = (
    f.times,
    length-set g.tickets c (record { counts = set (tickets_of g c) top (tickets_for g c top - 1) }) ∙ f.tickets,
    length-set g.stacks c (record { places = popped_of (calls_of g c) (places_of g c) }) ∙ f.stacks,
  )

  pub pop-sound : Facts h
  pop-sound = record {
    times = lengths.0;
    tickets = lengths.1;
    stacks = lengths.2;
    fresh = λ e. same-last ∙ f.fresh (sym same-begun ∙ e);
    each = λ b l. by-test (eqb b c)
        (λ e. subst (λ (x : ℕ). InGroup h x) (sym (eqb-true b c e)) in_group)
        (λ e. others-sound g h c f (λ x. same-begun ∙ x) (omega (arith, same-last)) others
        (λ a n i q p x. was.apart a i n q (sym x ∙ same-times c))
        (λ a n x q. pop-commits a x) b l (eqb-false b c e));
  }
