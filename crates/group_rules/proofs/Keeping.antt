-- What an event that changes one context keeps of the others: who is committed stays so, and what is sound stays sound.
-- Assumes nothing.
use Prim.Native.Nat.{ℕ, ◌≤◌, ◌<◌}
use mathlib.Core.Path.{◌≡◌, sym, ◌∙◌, subst}
use mathlib.Core.Bool.{true, false}
use mathlib.Core.List.{List}
use native.Mathlib.Omega.{arith}
use lib.Dec.{eqb, ltb}
use lib.ListN.{length}
use borrow.Author.Tests.{eqb-true, eqb-false, ltb-true}
use Rattle.rules.specs.Lists.{has, Distinct}
use Rattle.rules.proofs.Tests.{by-test, clash, both_true}
use Rattle.places.specs.Places.{unpad, blank, used_first}
use Rattle.places.specs.Tests.{zeros}
use Rattle.group_rules.specs.declared.Group.{Group}
use Rattle.group_rules.specs.Limits.{max_contexts, max_servers, max_depth}
use Rattle.group_rules.specs.Groups.{time_of, tickets_of, has_ticket, places_of, calls_of, queued}
use Rattle.group_rules.specs.Blocking.{earlier, share, blocks, committed}
use Rattle.group_rules.specs.Sound.{few_tickets}
use Rattle.group_rules.proofs.Facts.{InQueue, Empty, InGroup, Facts}
use Rattle.group_rules.proofs.Committed.{committed-free, free-committed, share-has, earlier-blocks}

-- WHO IS COMMITTED

-- h has nobody in the queue who isn't in that of g, at the same time and with no other tickets
pub record Shrinks (g h : Group) : Type 0 where
  pub queue : (c : ℕ) → queued h c ≡ true → queued g c ≡ true
  pub times : (c : ℕ) → queued h c ≡ true → time_of h c ≡ time_of g c
  pub tickets : (c s : ℕ) → queued h c ≡ true → has_ticket h c s ≡ true → has_ticket g c s ≡ true

-- who prevents c then did so before
still-blocks : (g h : Group) (b c : ℕ) → queued h b ≡ true
    → (queued g b ≡ true) × (time_of h b ≡ time_of g b) × (time_of h c ≡ time_of g c)
    → ((s : ℕ) → has_ticket h b s ≡ true → has_ticket g b s ≡ true)
    → ((s : ℕ) → has_ticket h c s ≡ true → has_ticket g c s ≡ true)
    → blocks h c b ≡ true → blocks g c b ≡ true
still-blocks g h b c q same tb tc e =
    let x = both_true (earlier h b c) (share h b c) e in
    let y = both_true (queued h b) (ltb (time_of h b) (time_of h c)) x.0 in
    share-has h b c x.1 λ s l p r.
    earlier-blocks g b c s l same.0
    (omega (arith, ltb-true (time_of h b) (time_of h c) y.1, same.1, same.2)) (tb s p) (tc s r)

is-queued : (h : Group) (b c : ℕ) → blocks h c b ≡ true → queued h b ≡ true
is-queued h b c e =
    (both_true (queued h b) (ltb (time_of h b) (time_of h c)) (both_true (earlier h b c) (share h b c) e).0).0

pub shrinks-committed : (g h : Group) → Shrinks g h → (c : ℕ) → queued h c ≡ true → committed g c ≡ true
    → committed h c ≡ true
shrinks-committed g h k c q e =
    free-committed h c q λ b l x.
    let there = is-queued h b c x in
    clash
    (still-blocks g h b c there (k.queue b there, k.times b there, k.times c q)
    (λ s. k.tickets b s there) (λ s. k.tickets c s q) x)
    (committed-free g c e b l)

-- WHAT IS HELD OF THE OTHERS

pub record Same (g h : Group) (c : ℕ) : Type 0 where
  pub time : time_of h c ≡ time_of g c
  pub tickets : tickets_of h c ≡ tickets_of g c
  pub places : places_of h c ≡ places_of g c

module _ {g h : Group} {c : ℕ} (s : Same g h c) where
  pub same-queued : queued h c ≡ queued g c
  same-queued = rw s.places

  pub same-ticket : (x : ℕ) → has_ticket h c x ≡ has_ticket g c x
  same-ticket x = rw s.tickets

  pub same-calls : calls_of h c ≡ calls_of g c
  same-calls = rw s.places

-- all but d are the same, and d, if it is queued, comes after them
pub record Enters (g h : Group) (d : ℕ) : Type 0 where
  pub others : (c : ℕ) → (c ≡ d → ⊥) → Same g h c
  pub last : (c : ℕ) → (c ≡ d → ⊥) → queued g c ≡ true → time_of g c < time_of h d

pub enters-committed : (g h : Group) (d : ℕ) → Enters g h d → (c : ℕ) → (c ≡ d → ⊥) → queued g c ≡ true
    → committed g c ≡ true → committed h c ≡ true
enters-committed g h d k c n q e =
    let same = k.others c n in
    free-committed h c (same-queued same ∙ q) λ b l x.
    by-test (eqb b d)
    (λ y. let z = both_true (earlier h b c) (share h b c) x in
    let w = both_true (queued h b) (ltb (time_of h b) (time_of h c)) z.0 in
    let is : time_of h b ≡ time_of h d = rw (eqb-true b d y) in
    omega (arith, ltb-true (time_of h b) (time_of h c) w.1, k.last c n q, same.time, is))
    (λ y. let there = k.others b (eqb-false b d y) in
    let here = is-queued h b c x in
    clash
    (still-blocks g h b c here (sym (same-queued there) ∙ here, there.time, same.time)
    (λ s p. sym (same-ticket there s) ∙ p) (λ s p. sym (same-ticket same s) ∙ p) x)
    (committed-free g c e b l))

-- WHAT IS SOUND

module _ (g h : Group) (d : ℕ) (f : Facts g)
    (begun : g.entered ≡ true → h.entered ≡ true) (later : g.last ≤ h.last)
    (others : (c : ℕ) → (c ≡ d → ⊥) → Same g h c)
    (apart : (c : ℕ) → (c ≡ d → ⊥) → c < max_contexts → queued g c ≡ true → queued h d ≡ true
    → time_of h d ≡ time_of g c → ⊥)
    (kept : (c : ℕ) → (c ≡ d → ⊥) → committed g c ≡ true → queued g c ≡ true → committed h c ≡ true) where
  inside : (c : ℕ) → c < max_contexts → (c ≡ d → ⊥) → queued g c ≡ true → InQueue h c
  inside c l n q =
      let same = others c n in
      let was = (f.each c l).inside q in
      record {
        begun = begun was.begun;
        past = omega (arith, same.time, was.past);
        apart = λ b i m p e. by-test (eqb b d)
            (λ y. let is : b ≡ d = eqb-true b d y in
            apart c n l q (rw (← is) p) ((rw (← is) e) ∙ same.time))
            (λ y. let there = others b (eqb-false b d y) in
            was.apart b i m (sym (same-queued there) ∙ p) (sym there.time ∙ e ∙ same.time));
        few = subst (λ (t : List ℕ). few_tickets t ≡ true) (sym same.tickets) was.few;
        laid = subst (λ (p : List ℕ). used_first p ≡ true) (sym same.places) was.laid;
        once = subst (λ (p : List ℕ). Distinct (unpad p)) (sym same.places) was.once;
        held = λ s x.
            let there : has s (calls_of g c) ≡ true
            = subst (λ (p : List ℕ). has s (unpad p) ≡ true) same.places x in
            same-ticket same s ∙ was.held s there;
        alone = λ x.
            let deep : 1 < length (calls_of g c)
            = subst (λ (p : List ℕ). 1 < length (unpad p)) same.places x in
            kept c n (was.alone deep) q;
      }

  outside : (c : ℕ) → c < max_contexts → (c ≡ d → ⊥) → queued g c ≡ false → Empty h c
  outside c l n q =
      let same = others c n in
      let was = (f.each c l).outside q in
      record {
        time = same.time ∙ was.time;
        tickets = subst (λ (t : List ℕ). zeros t ≡ true) (sym same.tickets) was.tickets;
        calls = subst (λ (p : List ℕ). blank p ≡ true) (sym same.places) was.calls;
      }

  -- each of the others; so the group is sound if the one that changed is
  pub others-sound : (c : ℕ) → c < max_contexts → (c ≡ d → ⊥) → InGroup h c
  others-sound c l n =
      let same = others c n in
      let was = f.each c l in
      record {
        counts = subst (λ (t : List ℕ). length t ≡ max_servers) (sym same.tickets) was.counts;
        places = subst (λ (p : List ℕ). length p ≡ max_depth) (sym same.places) was.places;
        inside = λ q. inside c l n (sym (same-queued same) ∙ q);
        outside = λ q. outside c l n (sym (same-queued same) ∙ q);
      }
