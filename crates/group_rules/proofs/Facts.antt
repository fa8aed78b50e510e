-- What the test of soundness says of a group, and that these facts make it true.
-- Assumes nothing.
use Prim.Native.Nat.{ℕ, ◌≤◌, ◌<◌}
use mathlib.Core.Path.{◌≡◌, ap}
use mathlib.Core.Bool.{true, false, not, ◌&&◌, ◌||◌, cond}
use native.Mathlib.Omega.{arith}
use lib.Dec.{eqb, ltb, leb}
use lib.ListN.{length, get_or-eq_default}
use borrow.Author.Tests.{eqb-true, eqb-false, eq-eqb, ne_eqb, leb-true, leb-false, le-leb, ltb-true, ltb-false}
use borrow.Author.Tests.{not-true}
use Rattle.rules.specs.Lists.{has, Distinct, some_below}
use Rattle.rules.proofs.Tests.{by-test, clash, not_so, both_true, either_true}
use Rattle.rules.proofs.Counts.{none_below, some-not}
use Rattle.places.specs.Places.{pad, unpad, blank, used_first}
use Rattle.places.specs.Tests.{every, all_below, zeros, distinct}
use Rattle.places.proofs.Tests.{every-has, has-every, all-at, at_all, distinct-is, is-distinct}
use Rattle.group_rules.specs.declared.Group.{Group}
use Rattle.group_rules.specs.declared.Stack.{Stack}
use Rattle.group_rules.specs.Limits.{max_contexts, max_servers, max_depth}
use Rattle.group_rules.specs.Groups.{no_calls, time_of, tickets_of, has_ticket, places_of, calls_of, has_call, queued}
use Rattle.group_rules.specs.Blocking.{committed}
use Rattle.group_rules.specs.Sound.{few_tickets, same_time, time_sound, stack_sound, is_empty, shaped, context_sound}
use Rattle.group_rules.specs.Sound.{eight_contexts, sound_of}

-- a context in the queue
pub record InQueue (g : Group) (c : ℕ) : Type 0 where
  pub begun : g.entered ≡ true
  pub past : time_of g c ≤ g.last
  pub apart : (b : ℕ) → b < max_contexts → (b ≡ c → ⊥) → queued g b ≡ true → time_of g b ≡ time_of g c → ⊥
  pub few : few_tickets (tickets_of g c) ≡ true
  pub laid : used_first (places_of g c) ≡ true
  pub once : Distinct (calls_of g c)
  pub held : (s : ℕ) → has s (calls_of g c) ≡ true → has_ticket g c s ≡ true
  pub alone : 1 < length (calls_of g c) → committed g c ≡ true

-- a context that isn't
pub record Empty (g : Group) (c : ℕ) : Type 0 where
  pub time : time_of g c ≡ 0
  pub tickets : zeros (tickets_of g c) ≡ true
  pub calls : blank (places_of g c) ≡ true

pub record InGroup (g : Group) (c : ℕ) : Type 0 where
  pub counts : length (tickets_of g c) ≡ max_servers
  pub places : length (places_of g c) ≡ max_depth
  pub inside : queued g c ≡ true → InQueue g c
  pub outside : queued g c ≡ false → Empty g c

pub record Facts (g : Group) : Type 0 where
  pub times : length g.times ≡ max_contexts
  pub tickets : length g.tickets ≡ max_contexts
  pub stacks : length g.stacks ≡ max_contexts
  pub fresh : g.entered ≡ false → g.last ≡ 0
  pub each : (c : ℕ) → c < max_contexts → InGroup g c

module _ (g : Group) where
  in-queue : (c : ℕ) → time_sound g c ≡ true → few_tickets (tickets_of g c) ≡ true → stack_sound g c ≡ true → InQueue g c
  unfolding time_sound stack_sound
  in-queue c t f s =
      let t1 = both_true (g.entered && leb (time_of g c) g.last) (not (some_below (same_time g c) max_contexts)) t in
      let t2 = both_true g.entered (leb (time_of g c) g.last) t1.0 in
      let s1 = both_true (used_first (places_of g c) && distinct (calls_of g c))
      (every (has_ticket g c) (calls_of g c) && (leb (length (calls_of g c)) 1 || committed g c)) s in
      let s2 = both_true (used_first (places_of g c)) (distinct (calls_of g c)) s1.0 in
      let s3 = both_true (every (has_ticket g c) (calls_of g c)) (leb (length (calls_of g c)) 1 || committed g c)
      s1.1 in
      record {
        begun = t2.0;
        past = leb-true (time_of g c) g.last t2.1;
        apart = λ b h n q e.
            let none = none_below (same_time g c) max_contexts b
            (not-true (some_below (same_time g c) max_contexts) t1.1) h in
            clash (rw (ne_eqb b c n, q) (eq-eqb (time_of g b) (time_of g c) e)) none;
        few = f;
        laid = s2.0;
        once = distinct-is (calls_of g c) s2.1;
        held = λ x h. every-has (has_ticket g c) (calls_of g c) x s3.0 h;
        alone = λ h. either_true (leb (length (calls_of g c)) 1) (committed g c) s3.1
            (λ e. absurd (omega (arith, leb-true (length (calls_of g c)) 1 e)))
            (λ e. e);
      }

  is-out : (c : ℕ) → is_empty g c ≡ true → Empty g c
  unfolding is_empty
  is-out c e =
      let a = both_true (eqb (time_of g c) 0) (zeros (tickets_of g c) && blank (places_of g c)) e in
      let b = both_true (zeros (tickets_of g c)) (blank (places_of g c)) a.1 in
      record { time = eqb-true (time_of g c) 0 a.0; tickets = b.0; calls = b.1 }

  in_group : (c : ℕ) → context_sound g c ≡ true → InGroup g c
  unfolding context_sound
  in_group c e =
      let queue = time_sound g c && (few_tickets (tickets_of g c) && stack_sound g c) in
      let a = both_true (shaped g c) (cond (queued g c) queue (is_empty g c)) e in
      let b = both_true (eqb (length (tickets_of g c)) max_servers) (eqb (length (places_of g c)) max_depth) a.0 in
      record {
        counts = eqb-true (length (tickets_of g c)) max_servers b.0;
        places = eqb-true (length (places_of g c)) max_depth b.1;
        inside = λ q.
            let all : queue ≡ true = rw q at a.1 in
            let x = both_true (time_sound g c) (few_tickets (tickets_of g c) && stack_sound g c) all in
            let y = both_true (few_tickets (tickets_of g c)) (stack_sound g c) x.1 in
            in-queue c x.0 y.0 y.1;
        outside = λ q. is-out c (rw q at a.1);
      }

  pub facts : sound_of g ≡ true → Facts g
  unfolding sound_of
  facts e =
      let a = both_true (eight_contexts g)
      ((g.entered || eqb g.last 0) && all_below max_contexts (context_sound g)) e in
      let l = both_true (eqb (length g.times) max_contexts)
      (eqb (length g.tickets) max_contexts && eqb (length g.stacks) max_contexts) a.0 in
      let m = both_true (eqb (length g.tickets) max_contexts) (eqb (length g.stacks) max_contexts) l.1 in
      let b = both_true (g.entered || eqb g.last 0) (all_below max_contexts (context_sound g)) a.1 in
      record {
        times = eqb-true (length g.times) max_contexts l.0;
        tickets = eqb-true (length g.tickets) max_contexts m.0;
        stacks = eqb-true (length g.stacks) max_contexts m.1;
        fresh = λ n. either_true g.entered (eqb g.last 0) b.0
            (λ y. clash y n)
            (λ y. eqb-true g.last 0 y);
        each = λ c h. in_group c (all-at max_contexts (context_sound g) b.1 c h);
      }

  -- AND BACK

  time-sound : (c : ℕ) → InQueue g c → time_sound g c ≡ true
  unfolding time_sound
  time-sound c f =
      let none = some-not (same_time g c) max_contexts λ b h.
      not_so (same_time g c b) λ e.
      let x = both_true (not (eqb b c)) (queued g b && eqb (time_of g b) (time_of g c)) e in
      let y = both_true (queued g b) (eqb (time_of g b) (time_of g c)) x.1 in
      f.apart b h (eqb-false b c (not-true (eqb b c) x.0)) y.0 (eqb-true (time_of g b) (time_of g c) y.1) in
      rw (f.begun, le-leb (time_of g c) g.last f.past, none)

  stack-sound : (c : ℕ) → InQueue g c → stack_sound g c ≡ true
  unfolding stack_sound
  stack-sound c f =
      rw (f.laid, is-distinct (calls_of g c) f.once, has-every (has_ticket g c) (calls_of g c) f.held)
      (by-test (leb (length (calls_of g c)) 1)
      (λ e. rw e)
      (λ e. rw e (f.alone (leb-false (length (calls_of g c)) 1 e))))

  context-sound : (c : ℕ) → InGroup g c → context_sound g c ≡ true
  unfolding context_sound is_empty
  context-sound c f =
      rw (eq-eqb (length (tickets_of g c)) max_servers f.counts, eq-eqb (length (places_of g c)) max_depth f.places)
      (by-test (queued g c)
      (λ q. let i = f.inside q in rw (q, time-sound c i, i.few) (stack-sound c i))
      (λ q. let o = f.outside q in rw (q, eq-eqb (time_of g c) 0 o.time, o.tickets) o.calls))

  pub sounds : Facts g → sound_of g ≡ true
  unfolding sound_of
  sounds f =
      let started : (g.entered || eqb g.last 0) ≡ true
      = by-test g.entered (λ e. rw e) (λ e. rw e (eq-eqb g.last 0 (f.fresh e))) in
      rw (
        eq-eqb (length g.times) max_contexts f.times,
        eq-eqb (length g.tickets) max_contexts f.tickets,
        eq-eqb (length g.stacks) max_contexts f.stacks,
        started,
      )
      (at_all max_contexts (context_sound g) (λ c h. context-sound c (f.each c h)))

-- WHO CAN BE QUEUED, AND WHAT THERE CAN BE TICKETS FOR

-- only a context
pub queued-low : (g : Group) (c : ℕ) → length g.stacks ≡ max_contexts → queued g c ≡ true → c < max_contexts
unfolding pad unpad
queued-low g c l q =
    by-test (ltb c max_contexts)
    (λ y. ltb-true c max_contexts y)
    (λ n. let none = get_or-eq_default g.stacks no_calls {n = c} (omega (arith, ltb-false c max_contexts n)) in
    clash q (ap (λ (t : Stack). has_call t.places) none))

-- only a server
pub ticket-low : (g : Group) (c s : ℕ) → length (tickets_of g c) ≡ max_servers → has_ticket g c s ≡ true → s < max_servers
ticket-low g c s l h =
    by-test (ltb s max_servers)
    (λ y. ltb-true s max_servers y)
    (λ n. let none = get_or-eq_default (tickets_of g c) 0 {n = s} (omega (arith, ltb-false s max_servers n)) in
    clash h (rw none))
