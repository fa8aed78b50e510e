-- Reply and abort, as the queues show them: who leaves the line, the queue, the room or the server.
-- Assumes nothing.
use Prim.Native.Nat.{◌<◌, ℕ}
use mathlib.Core.Bool.{Bool, cond, false, true}
use mathlib.Core.List.{List}
use mathlib.Core.Option.{Option, none, some}
use mathlib.Core.Path.{◌∙◌, ◌≡◌, ap, refl, subst, sym}
use lib.Dec.{ltb}
use lib.ListN.{get_or, length}
use Rattle.rules.specs.Events.{aborted, ended, freed, gone, left, replied, spend, unqueue}
use Rattle.rules.specs.Limits.{max_clients}
use Rattle.rules.specs.Lists.{heads, highest}
use Rattle.rules.specs.Queues.{enter, in_room, queue, refill, without}
use Rattle.rules.specs.Rank.{Rank, outranks}
use Rattle.rules.specs.Setup as rules
use Rattle.rules.specs.State.{Server, State, is_front, spent}
use Rattle.sets.specs.Sets.{without_of}
use Rattle.places.specs.Places.{take_out_of}
use Rattle.parts.specs.Parts.{put_global, put_line, put_room, put_server}
use Rattle.gate.specs.Shown.{server_of, setup_of}
use Rattle.parts.specs.Shows.{Refills, ShowsQueues}
use Rattle.gate.specs.declared.Client.{Client}
use Rattle.gate.specs.declared.Line.{Line}
use Rattle.parts.specs.declared.Queues.{Queues}
use Rattle.gate.specs.declared.Server as code
use Rattle.gate.specs.declared.Server.TheVariants.{Idle, Front, Best, Spent, Tidying}
use Rattle.gate.specs.declared.Setup.{Setup}
use Rattle.parts.proofs.Keys.{keys_kept}
use Rattle.parts.proofs.Parts.{line_at, shows-global, shows-line, shows-room, shows-server, taken_out}
use Rattle.rows.specs.Homes.{Home}
use Rattle.ranks.proofs.Ranks.{same_rank}
use Rattle.leaving.specs.Finds.{Yields}

-- a refill and the leaving before it keep the global queue
pub gone-global : (u : rules.Setup) (rank : Rank) (c : ℕ) (s : State) → (gone u rank c s).global ≡ s.global
unfolding refill
gone-global u rank c s =
    go (cond (ltb (length ((without k c s).lines k)) (u.size k))
    (highest rank (in_room u (without k c s) k) u.clients) none)
  where
    k : ℕ
    k = u.cluster c

    go : (o : Option ℕ) → (enter k (without k c s) o).global ≡ s.global
    go none = refl
    go (some d) = refl

-- what a refill reads shows a state between too, with the same rooms and the same deadlines
pub refills-kept : {v : Setup} {s t : State} {ms ks : List ℕ} → Refills v s ms ks → t.room ≡ s.room
    → t.deadline ≡ s.deadline → Refills v t ms ks
refills-kept h r e = record {
  sizes = h.sizes;
  keys = keys_kept h.keys e;
  known = λ c q. h.known c (ap (λ f. f c) (sym r) ∙ q);
}

-- the rank of a state between is the one that the event read
pub by_rank : {v : Setup} {r : Queues} (c : ℕ) (t s x : State) → s.deadline ≡ t.deadline
    → ShowsQueues v (gone (setup_of v) (outranks (setup_of v) t) c x) r
    → ShowsQueues v (gone (setup_of v) (outranks (setup_of v) s) c x) r
by_rank {v} {r} c t s x e q = subst (λ rank. ShowsQueues v (gone (setup_of v) rank c x) r) (same_rank v t s e) q

module _ {v : Setup} {s : State} {q : Queues} (h : ShowsQueues v s q) where
  pub shows-freed : ShowsQueues v (freed s) (put_server Tidying 0 q)
  shows-freed = shows-server h refl tt

  module _ (c : ℕ) (known : c < max_clients) where
    pub shows-spend : (x : Client) → x.0 ≡ c
        → ShowsQueues v (spend c s) (put_server (Spent x) q.service.units q)
    shows-spend x e = rw h.service.units (shows-server h (ap spent e) known)

    pub shows-unqueue : ShowsQueues v (unqueue c s) (put_global (take_out_of c q.global) q)
    shows-unqueue = shows-global h (taken_out h.global known)

  module _ {c k : ℕ} (home : Home v.homes c k) where
    pub shows-without : (d : Line)
        → ShowsQueues v (without k c s) (put_line k (take_out_of c (get_or q.lines k d).places) q)
    shows-without d = shows-line h k (taken_out (line_at h.lines k home.low d) home.known)

    pub shows_left : (w : ℕ) → ShowsQueues v (left c s) (put_room k (without_of (get_or q.rooms k w) c) q)
    shows_left w = shows-room h c false w home.low (sym home.own)

module _ {v : Setup} {c k : ℕ} (home : Home v.homes c k) where
  -- the refill of k is that of c's cluster, by the rank that the event read
  pub shows-gone : (s : State) {r : Queues}
      → ShowsQueues v (refill (setup_of v) (outranks (setup_of v) (without k c s)) k (without k c s)) r
      → ShowsQueues v (gone (setup_of v) (outranks (setup_of v) s) c s) r
  shows-gone s z = by_rank c (without ((setup_of v).cluster c) c s) s s refl (rw home.own at z)

  -- what joins the queue of k joins that of c's cluster
  pub shows-queue : (t : State) {r : Queues} → ShowsQueues v (queue (setup_of v) k t) r
      → ShowsQueues v (queue (setup_of v) ((setup_of v).cluster c) t) r
  shows-queue t z = rw home.own at z

-- THE CASES OF AN ABORT

module _ {v : Setup} (s : State) {r : Queues} (c : ℕ) {a : Bool} (room : a ≡ s.room c) where
  pub abort-room : a ≡ true → ShowsQueues v (left c s) r
      → ShowsQueues v (aborted (setup_of v) (outranks (setup_of v) s) c s) r
  unfolding aborted
  abort-room t z = rw (← room, t) z

  module _ (out : a ≡ false) {b : Bool} (served : b ≡ is_front s.server c) where
    pub abort-served : b ≡ true → ShowsQueues v (gone (setup_of v) (outranks (setup_of v) s) c (spend c s)) r
        → ShowsQueues v (aborted (setup_of v) (outranks (setup_of v) s) c s) r
    unfolding aborted
    abort-served t z = rw (← room, out, ← served, t) z

    module _ (other : b ≡ false) {d : Bool} (first : d ≡ heads c (s.lines ((setup_of v).cluster c))) where
      pub abort-front : d ≡ true
          → ShowsQueues v (queue (setup_of v) ((setup_of v).cluster c)
          (gone (setup_of v) (outranks (setup_of v) s) c (unqueue c s))) r
          → ShowsQueues v (aborted (setup_of v) (outranks (setup_of v) s) c s) r
      unfolding aborted
      abort-front t z = rw (← room, out, ← served, other, ← first, t) z

      pub abort-line : d ≡ false → ShowsQueues v (gone (setup_of v) (outranks (setup_of v) s) c s) r
          → ShowsQueues v (aborted (setup_of v) (outranks (setup_of v) s) c s) r
      unfolding aborted
      abort-line t z = rw (← room, out, ← served, other, ← first, t) z

-- THE END OF A REQUEST

pub ended_by : {v : Setup} {r : Queues} (s : State) (x : Server) → s.server ≡ x
    → ShowsQueues v (ended (setup_of v) (outranks (setup_of v) s) x s) r
    → ShowsQueues v (replied (setup_of v) (outranks (setup_of v) s) s) r
unfolding replied
ended_by {v} {r} s x e z =
    subst (λ y. ShowsQueues v (ended (setup_of v) (outranks (setup_of v) s) y s) r) (sym e) z

-- neither a front nor a spent client is in service: a best-effort client is
pub ended-freed : {v : Setup} {r : Queues} (s : State) (x : code.Server)
    → Yields (server_of x) s.global → ((c : Client) → x ≡ Front c → ⊥) → ((c : Client) → x ≡ Spent c → ⊥)
    → ShowsQueues v (freed s) r
    → ShowsQueues v (ended (setup_of v) (outranks (setup_of v) s) (server_of x) s) r
ended-freed s Idle e f g h = absurd e
ended-freed s (Front c) e f g h = absurd (f c refl)
ended-freed s (Best c) e f g h = h
ended-freed s (Spent c) e f g h = absurd (g c refl)
ended-freed s Tidying e f g h = absurd e
