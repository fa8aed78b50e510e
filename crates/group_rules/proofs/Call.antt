-- An accepted call keeps the group sound, and whoever is committed.
-- Assumes nothing.
use Prim.Native.Nat.{ℕ, ◌<◌}
use mathlib.Core.Path.{◌≡◌, refl, sym, ap, ◌∙◌, subst}
use mathlib.Core.Bool.{true, false}
use mathlib.Core.List.{List, [], ◌∷◌, ◌++◌}
use native.Mathlib.Omega.{arith}
use lib.Dec.{eqb, ltb}
use lib.ListN.{length, get_or, length-set}
use lib.Seq.{get_or-set_same, get_or-set_other}
use borrow.Author.Tests.{eqb-true, eqb-false, lt-ltb}
use Rattle.rules.specs.Limits.{unused_place}
use Rattle.rules.specs.Lists.{has, Distinct}
use Rattle.rules.proofs.Tests.{by-test, clash}
use Rattle.rules.proofs.Lists.{has-snoc, snoc-has-not, length-snoc, distinct_snoc}
use Rattle.places.specs.Places.{pad, unpad, used_first, append_of}
use Rattle.places.proofs.Pads.{length-pad, no-unused, unpad-pad, pad-unpad, used_first-pad}
use Rattle.places.proofs.Queues.{append-pad}
use Rattle.group_rules.specs.declared.Stack.{Stack}
use Rattle.group_rules.specs.declared.Group.{Group}
use Rattle.group_rules.specs.Limits.{max_contexts, max_servers, max_depth}
use Rattle.group_rules.specs.Groups.{no_calls, time_of, tickets_of, has_ticket, places_of, calls_of, has_call, queued}
use Rattle.group_rules.specs.Blocking.{committed}
use Rattle.group_rules.specs.Sound.{few_tickets}
use Rattle.group_rules.specs.Events.{called}
use Rattle.group_rules.proofs.Facts.{InQueue, InGroup, Facts, ticket-low}
use Rattle.group_rules.proofs.Committed.{committed-queued}
use Rattle.group_rules.proofs.Keeping.{Same, Shrinks, shrinks-committed, others-sound}

-- THE STACK OF A QUEUED CONTEXT

module _ (g : Group) (c : ℕ) (f : Facts g) (low : c < max_contexts) (q : queued g c ≡ true) where
  abbrev own : InQueue g c
  own = (f.each c low).inside q

  -- its servers are servers, so none of them is 255
  pub calls-low : (s : ℕ) → has s (calls_of g c) ≡ true → s < max_servers
  calls-low s h = ticket-low g c s (f.each c low).counts (own.held s h)

  pub calls-used : has unused_place (calls_of g c) ≡ false
  calls-used = no-unused (calls_of g c) (λ x h. omega (arith, calls-low x h))

  -- its places are those of its calls
  pub places-are : places_of g c ≡ pad max_depth (calls_of g c)
  places-are =
      sym (pad-unpad (places_of g c) own.laid)
      ∙ ap (λ (n : ℕ). pad n (calls_of g c)) (f.each c low).places

module _ (g : Group) (c s : ℕ) (f : Facts g) (low : c < max_contexts) (can : committed g c ≡ true)
    (ticket : has_ticket g c s ≡ true) (new : has s (calls_of g c) ≡ false) (room : length (calls_of g c) < max_depth) where
  abbrev h : Group
  h = called g c s

  abbrev more : List ℕ
  more = calls_of g c ++ (s ∷ [])

  here : queued g c ≡ true
  here = committed-queued g c can

  was : InQueue g c
  was = (f.each c low).inside here

  same-times : (b : ℕ) → time_of h b ≡ time_of g b
  unfolding called
  same-times b = refl

  same-tickets : (b : ℕ) → tickets_of h b ≡ tickets_of g b
  unfolding called
  same-tickets b = refl

  server : s < max_servers
  server = ticket-low g c s (f.each c low).counts ticket

  used : has unused_place more ≡ false
  used = snoc-has-not unused_place s (calls_of g c) (calls-used g c f low here) (λ e. omega (arith, server))

  own-places : places_of h c ≡ pad max_depth more
  unfolding called
  own-places =
      ap (λ (t : Stack). t.places)
      (get_or-set_same g.stacks c (record { places = append_of s (places_of g c) }) no_calls (omega (arith, f.stacks)))
      ∙ ap (append_of s) (places-are g c f low here)
      ∙ append-pad s max_depth (calls_of g c) (calls-used g c f low here)

  own-calls : calls_of h c ≡ more
  own-calls =
      ap unpad own-places
      ∙ unpad-pad max_depth more used (omega (arith, length-snoc (calls_of g c) s, room))

  others : (b : ℕ) → (b ≡ c → ⊥) → Same g h b
  unfolding called
  others b n = record {
    time = refl;
    tickets = refl;
    places = ap (λ (t : Stack). t.places)
        (get_or-set_other g.stacks c b (record { places = append_of s (places_of g c) }) no_calls n);
  }

  -- the same are queued
  same_queue : (b : ℕ) → queued h b ≡ queued g b
  same_queue b =
      by-test (eqb b c)
      (λ e. subst (λ (x : ℕ). queued h x ≡ queued g x) (sym (eqb-true b c e)) (
      ap (λ (l : List ℕ). ltb 0 (length l)) own-calls
      ∙ lt-ltb 0 (length more) (omega (arith, length-snoc (calls_of g c) s))
      ∙ sym here
      ))
      (λ e. ap has_call (others b (eqb-false b c e)).places)

  shrinks : Shrinks g h
  shrinks = record {
    queue = λ b q. sym (same_queue b) ∙ q;
    times = λ b q. same-times b;
    tickets = λ b x q e. subst (λ (t : List ℕ). ltb 0 (get_or t x 0) ≡ true) (same-tickets b) e;
  }

  -- whoever is committed stays so
  pub call-commits : (b : ℕ) → committed g b ≡ true → committed h b ≡ true
  call-commits b e = shrinks-committed g h shrinks b (same_queue b ∙ committed-queued g b e) e

  same-begun : h.entered ≡ g.entered
  unfolding called
  same-begun = refl

  same-last : h.last ≡ g.last
  unfolding called
  same-last = refl

  inside : InQueue h c
  inside = record {
    begun = same-begun ∙ was.begun;
    past = omega (arith, same-times c, same-last, was.past);
    apart = λ b i n q e. was.apart b i n (sym (same_queue b) ∙ q) (sym (same-times b) ∙ e ∙ same-times c);
    few = subst (λ (t : List ℕ). few_tickets t ≡ true) (sym (same-tickets c)) was.few;
    laid = subst (λ (p : List ℕ). used_first p ≡ true) (sym own-places) (used_first-pad max_depth more used);
    once = subst Distinct (sym own-calls) (distinct_snoc (calls_of g c) s was.once new);
    held = λ x e.
        subst (λ (t : List ℕ). ltb 0 (get_or t x 0) ≡ true) (sym (same-tickets c))
        (has-snoc x s (calls_of g c) (subst (λ (l : List ℕ). has x l ≡ true) own-calls e)
        (λ y. was.held x y)
        (λ y. subst (λ (z : ℕ). has_ticket g c z ≡ true) y ticket));
    alone = λ x. call-commits c can;
  }

  in_group : InGroup h c
  in_group = record {
    counts = ap length (same-tickets c) ∙ (f.each c low).counts;
    places = ap length own-places ∙ length-pad max_depth more;
    inside = λ q. inside;
    outside = λ q. clash (same_queue c ∙ here) q;
  }

  lengths : (length h.times ≡ max_contexts) × (length h.tickets ≡ max_contexts)
      × (length h.stacks ≡ max_contexts)
  unfolding called
  lengths = (
    f.times,
    f.tickets,
    length-set g.stacks c (record { places = append_of s (places_of g c) }) ∙ f.stacks,
  )

  pub call-sound : Facts h
  call-sound = record {
    times = lengths.0;
    tickets = lengths.1;
    stacks = lengths.2;
    fresh = λ e. same-last ∙ f.fresh (sym same-begun ∙ e);
    each = λ b l. by-test (eqb b c)
        (λ e. subst (λ (x : ℕ). InGroup h x) (sym (eqb-true b c e)) in_group)
        (λ e. others-sound g h c f (λ x. same-begun ∙ x) (omega (arith, same-last)) others
        (λ a n i q p x. was.apart a i n q (sym x ∙ same-times c))
        (λ a n x q. call-commits a x) b l (eqb-false b c e));
  }
