-- No run of a reached state could carry a charge past its limit, so 19 is never given.
-- Assumes nothing.
use Prim.Native.Nat.{ℕ, ◌+◌, ◌*◌, ◌≤◌, ◌<◌}
use mathlib.Core.Path.{◌≡◌}
use mathlib.Core.Bool.{Bool, true, false, not, ◌&&◌, ◌||◌}
use mathlib.Core.List.{List}
use native.Mathlib.Nat.{mul-le-mul}
use native.Mathlib.Omega.{arith}
use lib.Dec.{eqb, ltb, leb}
use borrow.Author.Tests.{ltb-false, le-ltb}
use Rattle.rules.specs.Limits.{max_charge}
use Rattle.rules.specs.Refusals.{accepted, no_client, waits_already, server_idle, run_of_none, run_past_cap, not_tidying}
use Rattle.rules.specs.Refusals.{not_waiting, best_effort, spent_already, unknown_record, unsound}
use Rattle.rules.specs.Setup.{Setup, Accepted, real_time, span}
use Rattle.rules.specs.State.{State, is_idle, is_spent, is_serving, is_tidying, cap_of}
use Rattle.rules.specs.Rank.{outranks}
use Rattle.rules.specs.Queues.{waits}
use Rattle.rules.specs.Events.{Event, invoke, run, reply, abort, ready, charged, ran}
use Rattle.rules.specs.Step.{fit_form, present, overcharges, answer_by, answer, own_ranks}
use Rattle.rules.specs.History.{after, struck_in_room}
use Rattle.rules.specs.Demands.{worst}
use Rattle.rules.proofs.Tests.{by-test, not-given}
use Rattle.rules.proofs.Counts.{some-not}
use Rattle.rules.proofs.Ranking.{ranking-of}
use Rattle.rules.proofs.Setups.{allowed}
use Rattle.rules.proofs.Kept.{kept-worst}
use Rattle.rules.proofs.Run.{charged-facts, run-kept}
use Rattle.rules.proofs.Reached.{own-reached}
use Rattle.rules.proofs.Keeping.{kept}

module _ (u : Setup) (a : Accepted u) where
  -- (2 + 2mK)(L + W) is at most (2 + 2 * 8 * 8) * 131,070
  worst-small : (c : ℕ) → c < u.clients → worst (u.size (u.cluster c)) u.clusters (span u) ≤ max_charge
  worst-small c k =
      let q = allowed u a in
      let m : u.size (u.cluster c) * u.clusters ≤ 64 =
      mul-le-mul (q.small_size (u.cluster c) (q.homes c k)) q.few-clusters in
      let w : worst (u.size (u.cluster c)) u.clusters (span u) ≤ 130 * 131070 =
      mul-le-mul {n₂ = 130} {m₂ = 131070} (omega arith) (omega (arith, q.small-cap, q.small-tidy)) in
      omega arith

  never-over : (h : List Event) (n : ℕ) → (after u h).units + n ≤ cap_of u (after u h).server
      → overcharges u (outranks u (after u h)) (after u h) n ≡ false
  unfolding ran
  never-over h n fits =
      some-not (λ c. charged u (outranks u s) s c && ltb max_charge (s.charge c + n)) u.clients (λ c k.
      by-test (charged u (outranks u s) s c)
      (λ e. rw e (le-ltb max_charge (s.charge c + n) (small c k e)))
      (λ e. rw e))
    where
      s : State
      s = after u h

      small : (c : ℕ) → c < u.clients → charged u (outranks u s) s c ≡ true → s.charge c + n ≤ max_charge
      small c k e =
          let i = own-reached u a h in
          let real = (charged-facts u (outranks u s) s c e).real in
          let now = run-kept u (outranks u s) s n fits c (struck_in_room u c h) i.in_order
          (kept u a (own_ranks u) (ranking-of u a) h c real) in
          let w : s.charge c + n ≤ worst (u.size (u.cluster c)) u.clusters (span u) =
          rw e at (kept-worst u (outranks u s) (ran u (outranks u s) n s) c (struck_in_room u c h) now) in
          omega (arith, worst-small c k)

  pub never-unsound : (h : List Event) (e : Event) → answer u (after u h) e ≡ unsound → ⊥
  unfolding answer_by
  never-unsound h = go
    where
      s : State
      s = after u h

      go : (o : Event) → answer u s o ≡ unsound → ⊥
      go (invoke c o) e =
          let f = not-given (not (fit_form u.timed o)) unknown_record _ unsound (λ q. omega arith) e in
          let k = not-given (leb u.clients c) no_client _ unsound (λ q. omega arith) f.1 in
          let w = not-given (present u s c) waits_already accepted unsound (λ q. omega arith) k.1 in
          omega (arith, w.1)
      go (run n) e =
          let z = not-given (eqb n 0) run_of_none _ unsound (λ q. omega arith) e in
          let b = not-given (is_idle s.server) server_idle _ unsound (λ q. omega arith) z.1 in
          let p = not-given (ltb (cap_of u s.server) (s.units + n)) run_past_cap _ unsound (λ q. omega arith) b.1 in
          let f : s.units + n ≤ cap_of u s.server = ltb-false (cap_of u s.server) (s.units + n) p.0 in
          let o : accepted ≡ unsound = rw (never-over h n f) at p.1 in
          omega arith
      go reply e =
          let b = not-given (not (is_serving s.server)) server_idle accepted unsound (λ q. omega arith) e in
          omega (arith, b.1)
      go (abort c) e =
          let there : Bool = waits u s c || is_spent s.server c in
          let k = not-given (leb u.clients c) no_client _ unsound (λ q. omega arith) e in
          let b = not-given (not (real_time u c)) best_effort _ unsound (λ q. omega arith) k.1 in
          let n = not-given (not there) not_waiting _ unsound (λ q. omega arith) b.1 in
          let g = not-given (is_spent s.server c) spent_already accepted unsound (λ q. omega arith) n.1 in
          omega (arith, g.1)
      go ready e =
          let t = not-given (not (is_tidying s.server)) not_tidying accepted unsound (λ q. omega arith) e in
          omega (arith, t.1)
