-- The keys that an invoke, a reply, a ready and an abort leave: a wait's deadline comes with its invoke and goes when
-- it ends.
-- Assumes nothing.
use Prim.Native.Nat.{ℕ, ◌<◌}
use mathlib.Core.Bool.{cond, true}
use mathlib.Core.List.{List}
use mathlib.Core.Path.{◌≡◌, ap, refl, sym}
use lib.ListN.{set}
use Rattle.rules.specs.Events.{abort, due_by, invoke, ready, reply}
use Rattle.rules.specs.Limits.{max_clients}
use Rattle.rules.specs.Lists.{upd}
use Rattle.rules.specs.Queues.{pick}
use Rattle.rules.specs.Setup.{real_time}
use Rattle.rules.specs.State.{State, Server, idle, front, best, spent, tidying}
use Rattle.rules.specs.Step.{next_by, next}
use Rattle.rules.proofs.FirstVersion.{pick-dated}
use Rattle.rules.proofs.Tests.{by-test}
use Rattle.gate.specs.Shown.{setup_of}
use Rattle.gate.specs.declared.Setup.{Setup}
use Rattle.parts.specs.Shows.{ServerFits, ShowsKeys}
use Rattle.parts.proofs.Keys.{keys_kept, keys-untimed, keys-set}
use mathlib.Core.Option.{Option}
use Rattle.calls.specs.Due.{due_in, replied_in}

-- THE KEYS

module _ {v : Setup} {s : State} {ks : List ℕ} (h : ShowsKeys v s ks) where
  -- one deadline is another
  due-keys : {t : State} (c d : ℕ) → c < max_clients → (v.timed ≡ true → t.deadline ≡ upd s.deadline c d)
      → ShowsKeys v t (due_in v.timed c d ks)
  due-keys {t} c d b e =
      by-test v.timed
      (λ q. let z : due_in v.timed c d ks ≡ set ks c d = rw q in rw z (keys-set c d q b h (e q)))
      (λ q. let z : due_in v.timed c d ks ≡ ks = rw q in rw z (keys-untimed q h))

  pub invoke-keys : (c : ℕ) (o : Option ℕ) → c < max_clients → {ks' : List ℕ}
      → ks' ≡ cond (real_time (setup_of v) c) (due_in v.timed c (due_by o) ks) ks
      → ShowsKeys v (next (setup_of v) s (invoke c o)) ks'
  unfolding next_by
  invoke-keys c o b e =
      rw e (by-test (real_time (setup_of v) c)
      (λ r. rw r (due-keys c (due_by o) b (λ q. refl)))
      (λ r. rw r (keys_kept h refl)))

  pub reply-keys : {x : Server} → s.server ≡ x → ServerFits x → {ks' : List ℕ} → ks' ≡ replied_in v.timed x ks
      → ShowsKeys v (next (setup_of v) s reply) ks'
  unfolding next_by
  reply-keys {x} q f e = rw e (go x q f)
    where
      go : (x : Server) → s.server ≡ x → ServerFits x
          → ShowsKeys v (next (setup_of v) s reply) (replied_in v.timed x ks)
      go idle q f = keys_kept h (rw q)
      go (front c) q f = due-keys c 0 f (λ z. rw q)
      go (best c) q f = keys_kept h (rw q)
      go (spent c) q f = keys_kept h (rw q)
      go tidying q f = keys_kept h (rw q)

  pub abort-keys : (c : ℕ) → c < max_clients → {ks' : List ℕ} → ks' ≡ due_in v.timed c 0 ks
      → ShowsKeys v (next (setup_of v) s (abort c)) ks'
  unfolding next_by
  abort-keys c b e = rw e (due-keys c 0 b (λ q. refl))

-- a ready leaves them
pub ready-keys : {v : Setup} {s : State} {ks : List ℕ} → ShowsKeys v s ks → ShowsKeys v (next (setup_of v) s ready) ks
unfolding next_by
ready-keys h = keys_kept h refl

-- and so does a pick
pub pick-keys : {v : Setup} {t : State} {ks : List ℕ} → ShowsKeys v t ks → ShowsKeys v (pick t) ks
pick-keys {v} {t} h = keys_kept h (sym (ap (λ (x : State). x.deadline) (pick-dated (setup_of v) t)))
