-- Who waits after an event.
-- Assumes nothing.
use Prim.Native.Nat.{ℕ}
use mathlib.Core.Path.{◌≡◌, refl, sym, ◌∙◌}
use mathlib.Core.Bool.{Bool, true, false, not, ◌&&◌, ◌||◌}
use mathlib.Core.List.{List, [], ◌∷◌, ◌++◌}
use lib.Dec.{eqb, ltb}
use lib.ListN.{length}
use borrow.Author.Tests.{eqb-true, eqb-false, eq-eqb}
use Rattle.rules.specs.Refusals.{accepted}
use Rattle.rules.specs.Lists.{upd, has, heads, remove, Distinct}
use Rattle.rules.specs.Setup.{Setup, real_time}
use Rattle.rules.specs.State.{State, Server, idle, front, best, spent, tidying, is_front, is_serving, serves}
use Rattle.rules.specs.Rank.{Rank}
use Rattle.rules.specs.Queues.{waits, without, refill, queue, start, pick, pick_idle}
use Rattle.rules.specs.Events.{Event, invoke, run, reply, abort, ready, joined, roomed, arrive, invoked}
use Rattle.rules.specs.Events.{ran, freed, gone, ended, replied, spend, unqueue, aborted, readied}
use Rattle.rules.specs.Step.{answer_by, moved_by, next_by}
use Rattle.rules.specs.History.{waits_on}
use Rattle.rules.proofs.Tests.{by-test, clash, not_so, either_true, upd_same, upd_other}
use Rattle.rules.proofs.Lists.{has-append, snoc-has, removed, remove-other, heads-has}
use Rattle.rules.proofs.Highest.{StrictTotal}
use Rattle.rules.proofs.Refill.{refill-cases}
use Rattle.rules.proofs.InOrder.{InOrder}
use Rattle.rules.proofs.Goes.{room_waits}
use Rattle.rules.proofs.Placed.{Placed}
use Rattle.rules.proofs.Answers.{reply-accepted, abort-accepted}

-- whoever waits is real-time
pub waits-real : (u : Setup) (s : State) (c : ℕ) → InOrder u s → waits u s c ≡ true → real_time u c ≡ true
waits-real u s c i h =
    either_true (has c (s.lines (u.cluster c))) (s.room c) h
    (λ e. (i.lined.line (u.cluster c)).real c e) (λ e. (i.lined.in-room c e).real)

module _ (u : Setup) (x : ℕ) where
  -- MOVES

  start-waits : (t : State) (g b : List ℕ) → waits u (start t g b) x ≡ waits u t x
  start-waits t [] [] = refl
  start-waits t [] (y ∷ b) = refl
  start-waits t (y ∷ g) b = refl

  pick-waits : (t : State) → waits u (pick t) x ≡ waits u t x
  unfolding pick
  pick-waits t = start-waits t t.global t.background

  idle-waits : (v : Server) (t : State) → waits u (pick_idle v t) x ≡ waits u t x
  idle-waits idle t = pick-waits t
  idle-waits (front d) t = refl
  idle-waits (best d) t = refl
  idle-waits (spent d) t = refl
  idle-waits tidying t = refl

  -- a new last of a line
  last_of : (lines : ℕ → List ℕ) (d : ℕ)
      → has x (upd lines (u.cluster d) (lines (u.cluster d) ++ (d ∷ [])) (u.cluster x))
      ≡ eqb d x || has x (lines (u.cluster x))
  last_of lines d =
      by-test (eqb d x)
      (λ e.
      let q = eqb-true d x e in
      rw (q, upd_same lines (u.cluster x) (lines (u.cluster x) ++ (x ∷ [])) (u.cluster x) refl, eq-eqb x x refl)
      (snoc-has x (lines (u.cluster x))))
      (λ e. by-test (eqb (u.cluster x) (u.cluster d))
      (λ k.
      rw (k, e, eqb-true (u.cluster x) (u.cluster d) k, has-append x (lines (u.cluster d)) (d ∷ []), e)
      (or-none (has x (lines (u.cluster d)))))
      (λ k. rw (k, e)))
    where
      or-none : (b : Bool) → b || false ≡ b
      or-none true = refl
      or-none false = refl

  -- d joins its line or its room
  joined-waits : (d : ℕ) (s : State) → waits u (joined u d s) x ≡ eqb d x || waits u s x
  joined-waits d s = rw (last_of s.lines d) (by-test (eqb d x) (λ e. rw e) (λ e. rw e))

  roomed-waits : (d : ℕ) (s : State) → waits u (roomed d s) x ≡ eqb d x || waits u s x
  roomed-waits d s =
      by-test (eqb d x)
      (λ e.
      rw (e, upd_same s.room d true x (sym (eqb-true d x e)))
      (or-true (has x (s.lines (u.cluster x)))))
      (λ e. rw (e, upd_other s.room d true x (λ q. eqb-false d x e (sym q))))
    where
      or-true : (b : Bool) → b || true ≡ true
      or-true true = refl
      or-true false = refl

  arrive-waits : (d : ℕ) (l : List ℕ) (s : State) → waits u (arrive u d l s) x ≡ eqb d x || waits u s x
  unfolding queue
  arrive-waits d [] s = joined-waits d s
  arrive-waits d (y ∷ l) s =
      by-test (ltb (length (y ∷ l)) (u.size (u.cluster d)))
      (λ e. rw e (joined-waits d s)) (λ e. rw e (roomed-waits d s))

  -- c leaves its line
  without-waits : (c : ℕ) (s : State) → Distinct (s.lines (u.cluster c)) → s.room c ≡ false
      → waits u (without (u.cluster c) c s) x ≡ not (eqb c x) && waits u s x
  without-waits c s once out =
      by-test (eqb c x)
      (λ e.
      let q = eqb-true c x e in
      rw (
        e,
        ← q,
        upd_same s.lines (u.cluster c) (remove c (s.lines (u.cluster c))) (u.cluster c) refl,
        removed c (s.lines (u.cluster c)) once,
        out,
      ))
      (λ e. by-test (eqb (u.cluster x) (u.cluster c))
      (λ k.
      let w = eqb-true (u.cluster x) (u.cluster c) k in
      rw (e, k, w, remove-other c x (s.lines (u.cluster c)) (λ q. eqb-false c x e (sym q))))
      (λ k. rw (e, k)))

  module _ (rank : Rank) (order : StrictTotal rank) where
    -- from the room to the line: it waits on
    refill-waits : (k : ℕ) (s : State) → waits u (refill u rank k s) x ≡ waits u s x
    refill-waits k s =
        refill-cases u rank order k s (λ t. waits u t x ≡ waits u s x) (λ n. refl) (λ d n.
        rw (← n.home, last_of s.lines d)
        (by-test (eqb d x)
        (λ e. let q = eqb-true d x e in rw (e, ← q, room_waits u s d n.waited))
        (λ e. rw (e, upd_other s.room d false x (λ q. eqb-false d x e (sym q))))))

    gone-waits : (c : ℕ) (s : State) → Distinct (s.lines (u.cluster c)) → s.room c ≡ false
        → waits u (gone u rank c s) x ≡ not (eqb c x) && waits u s x
    gone-waits c s once out =
        refill-waits (u.cluster c) (without (u.cluster c) c s) ∙ without-waits c s once out

  -- EVENTS

  -- who does not wait need not be taken out
  not_there : (c : ℕ) (s : State) → (waits u s c ≡ true → ⊥) → waits u s x ≡ not (eqb c x) && waits u s x
  not_there c s n =
      by-test (eqb c x)
      (λ e. rw e (not_so (waits u s x) (λ h. n (rw (eqb-true c x e) h))))
      (λ e. rw e)

  module _ (rank : Rank) (order : StrictTotal rank) (s : State) (i : InOrder u s) where
    -- whoever is in its line is not in the room
    out-of-room : (c : ℕ) → has c (s.lines (u.cluster c)) ≡ true → s.room c ≡ false
    out-of-room c h = not_so (s.room c) (λ r. clash h (i.lined.in-room c r).apart)

    ended-waits : Placed u s → (v : Server) → s.server ≡ v → is_serving v ≡ true
        → waits u (ended u rank v s) x ≡ not (serves v x) && waits u s x
    unfolding queue
    ended-waits p idle e n = clash n refl
    ended-waits p (front c) e n =
        gone-waits rank order c (freed s) (i.lined.line (u.cluster c)).once
        (out-of-room c (heads-has c (s.lines (u.cluster c)) (i.ordered.served-front c e)))
    ended-waits p (best c) e n =
        not_there c s (λ h. clash (waits-real u s c i h) (rw e at p.served).effort)
    ended-waits p (spent c) e n =
        let q = rw e at p.served in
        not_there c s (λ h. either_true (has c (s.lines (u.cluster c))) (s.room c) h
        (λ z. clash z q.apart) (λ z. clash z q.out))
    ended-waits p tidying e n = clash n refl

    aborted-waits : (c : ℕ) → waits u s c ≡ true → waits u (aborted u rank c s) x ≡ not (eqb c x) && waits u s x
    unfolding aborted queue
    aborted-waits c w =
        by-test (s.room c)
        (λ r. rw r (by-test (eqb c x)
        (λ e.
        let q = eqb-true c x e in
        rw (e, ← q, (i.lined.in-room c r).apart, upd_same s.room c false c refl))
        (λ e. rw (e, upd_other s.room c false x (λ q. eqb-false c x e (sym q))))))
        (λ r.
        let once = (i.lined.line (u.cluster c)).once in
        by-test (is_front s.server c) (λ b. rw (r, b) (gone-waits rank order c (spend c s) once r)) λ b.
        by-test (heads c (s.lines (u.cluster c)))
        (λ h. rw (r, b, h) (gone-waits rank order c (unqueue c s) once r))
        (λ h. rw (r, b, h) (gone-waits rank order c s once r)))

  -- what an accepted event makes of a wait of x
  pub next-waits : (rank : Rank) → StrictTotal rank → (s : State) → InOrder u s → Placed u s → (e : Event)
      → answer_by u rank s e ≡ accepted → waits u (next_by u rank s e) x ≡ waits_on u x s e (waits u s x)
  unfolding next_by moved_by invoked ran replied readied
  next-waits rank order s i p (invoke c o) a =
      idle-waits s.server _
      ∙ by-test (real_time u c)
      (λ r. rw r (arrive-waits c (s.lines (u.cluster c)) s ∙ by-test (eqb c x)
      (λ e. let t : real_time u x ≡ true = rw (eqb-true c x e) at r in rw (e, t))
      (λ e. rw e)))
      (λ r. rw r (by-test (eqb c x)
      (λ e. let t : real_time u x ≡ false = rw (eqb-true c x e) at r in rw (e, t))
      (λ e. rw e)))
  next-waits rank order s i p (run n) a = refl
  next-waits rank order s i p reply a =
      ended-waits rank order s i p s.server refl (reply-accepted u rank s a)
  next-waits rank order s i p (abort c) a =
      aborted-waits rank order s i c (abort-accepted u rank s c a).waiting
  next-waits rank order s i p ready a = pick-waits s
