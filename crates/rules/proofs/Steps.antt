-- Every accepted event keeps soundness, by any rank that is a strict total order; and every client's invariant, if rank
-- is the same after it between two that wait before and after.
-- Assumes nothing.
use Prim.Native.Nat.{ℕ}
use mathlib.Core.Path.{◌≡◌, refl, sym, ◌∙◌}
use mathlib.Core.Bool.{Bool, true, false, ◌||◌, cond}
use lib.Dec.{eqb}
use borrow.Author.Tests.{eqb-true, eqb-false}
use Rattle.rules.specs.Refusals.{accepted}
use Rattle.rules.specs.Lists.{has}
use Rattle.rules.specs.Setup.{Setup, real_time}
use Rattle.rules.specs.State.{State}
use Rattle.rules.specs.Rank.{Rank, outranks}
use Rattle.rules.specs.Sound.{Sound}
use Rattle.rules.specs.Queues.{waits}
use Rattle.rules.specs.Events.{Event, invoke, run, reply, abort, ready, ran}
use Rattle.rules.specs.Step.{answer_by, moved_by, next_by, step_by, answer, next, step}
use Rattle.rules.specs.History.{begins, strikes_in_room}
use Rattle.rules.proofs.Tests.{by-test}
use Rattle.rules.proofs.Highest.{StrictTotal}
use Rattle.rules.proofs.ByNumber.{own-order}
use Rattle.rules.proofs.Setups.{valid}
use Rattle.rules.proofs.InOrder.{Valid, InOrder}
use Rattle.rules.proofs.Kept.{Kept, begun, kept-rank}
use Rattle.rules.proofs.Passes.{Passes, passed}
use Rattle.rules.proofs.Goes.{line-waits, room_waits}
use Rattle.rules.proofs.Run.{charged-known, run-kept, run-in-order}
use Rattle.rules.proofs.Invoke.{invoked-comes}
use Rattle.rules.proofs.Reply.{replied-goes}
use Rattle.rules.proofs.Ready.{readied-goes}
use Rattle.rules.proofs.Abort.{aborted-goes}
use Rattle.rules.proofs.Placed.{Placed, ran-placed, replied-placed, aborted-placed, readied-placed}
use Rattle.rules.proofs.PlacedInvoke.{invoked-placed}
use Rattle.rules.proofs.Answers.{invoke-accepted, run-accepted, reply-accepted, abort-accepted}
use Rattle.rules.proofs.Answers.{ready-accepted}
use Rattle.rules.proofs.Charge.{next-charge}
use Rattle.rules.proofs.Dated.{dated-in-order, dated-placed, dated-kept, next-dated}
use Rattle.rules.proofs.SoundStates.{sound-in-order, sound-placed, sound-is}

module _ (u : Setup) (ok : Valid u) (rank : Rank) (order : StrictTotal rank) (s : State) (i : InOrder u s)
    (p : Placed u s) where
  -- SOUNDNESS

  moved-in-order : (e : Event) → answer_by u rank s e ≡ accepted → InOrder u (moved_by u rank s e)
  unfolding moved_by
  moved-in-order (invoke c o) a =
      let q = invoke-accepted u rank s c o a in
      (invoked-comes u ok rank c s i q.known q.not-waiting).0
  moved-in-order (run n) a = run-in-order u rank s n (run-accepted u rank s n a).fits i
  moved-in-order reply a = (replied-goes u rank s i order (reply-accepted u rank s a) 0 false).in_order
  moved-in-order (abort c) a =
      (aborted-goes u rank c s i order (abort-accepted u rank s c a).waiting 0 false _ refl).in_order
  moved-in-order ready a = (readied-goes u ok rank s i (ready-accepted u rank s a) 0 false).in_order

  pub next-in-order : (e : Event) → answer_by u rank s e ≡ accepted → InOrder u (next_by u rank s e)
  unfolding next_by
  next-in-order e a = dated-in-order u _ (moved_by u rank s e) (moved-in-order e a)

  moved-placed : (e : Event) → answer_by u rank s e ≡ accepted → Placed u (moved_by u rank s e)
  unfolding moved_by
  moved-placed (invoke c o) a =
      let q = invoke-accepted u rank s c o a in
      invoked-placed u s p c q.known q.not_behind q.not-served
  moved-placed (run n) a =
      let q = run-accepted u rank s n a in
      ran-placed u rank s i p n q.busy (λ c e. q.within c (charged-known u rank s c i e) e)
  moved-placed reply a = replied-placed u rank s i p order (reply-accepted u rank s a)
  moved-placed (abort c) a =
      let q = abort-accepted u rank s c a in
      aborted-placed u rank s i p order c q.known q.real q.waiting
  moved-placed ready a = readied-placed u rank s i p

  pub next-placed : (e : Event) → answer_by u rank s e ≡ accepted → Placed u (next_by u rank s e)
  unfolding next_by
  next-placed e a = dated-placed u _ (moved_by u rank s e) (moved-placed e a)

  -- A CLIENT'S INVARIANT

  -- the rank after the event is the same between any two that wait before and after
  abbrev pub Steady : Rank → Event → Type 0
  Steady rank' e = (a b : ℕ) → waits u s a ≡ true → waits u s b ≡ true
      → waits u (next_by u rank s e) a ≡ true → waits u (next_by u rank s e) b ≡ true → rank' a b ≡ rank a b

  module _ (rank' : Rank) where
    module _ (e : Event) (a : answer_by u rank s e ≡ accepted) (same : Steady rank' e) (x : ℕ) where
      -- so between x and its line, if they waited before
      steady : (s.room x ≡ true) → (next_by u rank s e).room x ≡ true
          → (d : ℕ) → has d ((next_by u rank s e).lines (u.cluster x)) ≡ true → waits u s d ≡ true
          → rank' d x ≡ rank d x
      steady o r d m w =
          let home = ((next-in-order e a).lined.line (u.cluster x)).home d m in
          same d x w (room_waits u s x o) (line-waits u (next_by u rank s e) d (rw home m))
          (room_waits u (next_by u rank s e) x r)

      -- over an event that is no run, and not its own invoke
      over : (f f' : Bool) → Passes u rank s (moved_by u rank s e) x f f'
          → Kept u rank s x f → Kept u rank' (next_by u rank s e) x f'
      unfolding next_by
      over f f' m k =
          kept-rank u rank rank' (next_by u rank s e) x f'
          (λ r d h. steady (m.no_return r) r d h (m.waited r d h))
          (dated-kept u rank _ (moved_by u rank s e) x f'
          (passed u rank s (moved_by u rank s e) x f f' (moved-in-order e a) m k))

    run-over : (n : ℕ) → answer_by u rank s (run n) ≡ accepted → Steady rank' (run n) → (x : ℕ) (f : Bool)
        → Kept u rank s x f → Kept u rank' (next_by u rank s (run n)) x f
    unfolding next_by moved_by ran
    run-over n a same x f k =
        kept-rank u rank rank' (next_by u rank s (run n)) x f
        (λ r d h. steady (run n) a same x r r d h (line-waits u s d (rw ((i.lined.line (u.cluster x)).home d h) h)))
        (dated-kept u rank s.deadline (ran u rank n s) x f
        (run-kept u rank s n (run-accepted u rank s n a).fits x f i k))

    pub next-kept : (e : Event) → answer_by u rank s e ≡ accepted → Steady rank' e
        → (x : ℕ) → real_time u x ≡ true → (f : Bool) → Kept u rank s x f
        → Kept u rank' (next_by u rank s e) x (cond (begins u x e) false (strikes_in_room u x s e || f))
    unfolding moved_by
    next-kept (invoke c o) a same x real f k =
        by-test (eqb c x)
        (λ q. rw (q, real) (begun u rank' (next_by u rank s (invoke c o)) x false
        (next-in-order (invoke c o) a) (next-charge u x rank s (invoke c o) ∙ rw (q, real))))
        (λ q.
        let b = invoke-accepted u rank s c o a in
        rw q (over (invoke c o) a same x f f
        ((invoked-comes u ok rank c s i b.known b.not-waiting).1 x f
        (λ w. eqb-false c x q (sym w))) k))
    next-kept (run n) a same x real f k = run-over n a same x f k
    next-kept reply a same x real f k =
        over reply a same x f f
        (replied-goes u rank s i order (reply-accepted u rank s a) x f).passes k
    next-kept (abort c) a same x real f k =
        over (abort c) a same x f (strikes_in_room u x s (abort c) || f)
        (aborted-goes u rank c s i order (abort-accepted u rank s c a).waiting x f _ refl).passes k
    next-kept ready a same x real f k =
        over ready a same x f f (readied-goes u ok rank s i (ready-accepted u rank s a) x f).passes k

-- From any sound state an event leaves a sound state.
pub step-sound : (u : Setup) (s : State) (e : Event) → Sound u s → Sound u (step u s e)
unfolding step_by
step-sound u s e h =
    by-test (eqb (answer u s e) accepted)
    (λ q.
    let a = eqb-true (answer u s e) accepted q in
    let i = sound-in-order u s h in
    let p = sound-placed u s h in
    let v = valid u h.setup in
    let rank = outranks u s in
    let order = own-order u s in
    rw q (sound-is u (next u s e) h.setup h.trimmed
    (next-in-order u v rank order s i p e a)
    (next-placed u v rank order s i p e a)
    (next-dated u rank order s i p h.deadline e a)))
    (λ q. rw q h)
