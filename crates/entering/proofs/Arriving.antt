-- Invoke, as the queues show it: in the line, in the room, or in the background queue; then pick, if the server idles.
-- Assumes nothing.
use Prim.Native.Nat.{◌<◌, ◌≤◌, ℕ}
use mathlib.Core.Bool.{Bool, false, true}
use mathlib.Core.List.{List, [], ◌∷◌}
use mathlib.Core.Path.{◌∙◌, ◌≡◌, ap, refl, sym}
use native.Mathlib.Omega.{arith}
use lib.ListN.{get_or, length}
use borrow.Author.Tests.{le-ltb, lt-ltb}
use Rattle.rules.specs.Events.{arrive, joined}
use Rattle.rules.specs.Lists.{upd}
use Rattle.rules.specs.Queues.{pick, pick_idle, queue}
use Rattle.rules.specs.State.{Server, State, best, front, idle, is_idle, spent, tidying}
use Rattle.rules.proofs.Tests.{clash}
use Rattle.sets.specs.Sets.{with_of}
use Rattle.places.specs.Places.{append_of, used_of}
use Rattle.parts.specs.Parts.{put_line, put_room}
use Rattle.gate.specs.Shown.{setup_of}
use Rattle.parts.specs.Shows.{Fine, ShowsQueues}
use Rattle.gate.specs.declared.Line.{Line}
use Rattle.parts.specs.declared.Queues.{Queues}
use Rattle.gate.specs.declared.Setup.{Setup}
use Rattle.parts.proofs.Parts.{appended, line_at, shows-charge, shows-line, shows-room, used-is}
use Rattle.rows.specs.Homes.{Home}
use Rattle.presence.proofs.Here.{own_line}

module _ {v : Setup} {s : State} {q : Queues} (fine : Fine v) (h : ShowsQueues v s q) {c k : ℕ}
    (home : Home v.homes c k) (d : Line) {m n : ℕ} (size : m ≡ (setup_of v).size k)
    (used : n ≡ used_of (get_or q.lines k d).places)
  where
    size_is : m ≡ (setup_of v).size ((setup_of v).cluster c)
    size_is = size ∙ ap (setup_of v).size home.own

    pub length-is : n ≡ length (s.lines ((setup_of v).cluster c))
    length-is = used ∙ used-is (own_line h home d)

    pub shows-joined : n < m → ShowsQueues v (joined (setup_of v) c s)
        (put_line k (append_of c (get_or q.lines k d).places) q)
    shows-joined b =
        rw (← home.own)
        (shows-charge (shows-line h k (appended (line_at h.lines k home.low d) c
        (rw home.own (omega (arith, size_is, length-is, fine.sizes ((setup_of v).cluster c)))) home.known))
        (upd s.charge c 0))

    -- it became front
    pub arrive-front : {r : Queues} → n ≡ 0 → ShowsQueues v (queue (setup_of v) k (joined (setup_of v) c s)) r
        → ShowsQueues v (arrive (setup_of v) c (s.lines ((setup_of v).cluster c)) s) r
    arrive-front {r} e z = go (s.lines ((setup_of v).cluster c)) (omega (arith, length-is)) (rw home.own at z)
      where
        go : (l : List ℕ) → length l ≡ 0
            → ShowsQueues v (queue (setup_of v) ((setup_of v).cluster c) (joined (setup_of v) c s)) r
            → ShowsQueues v (arrive (setup_of v) c l s) r
        go [] e z = z
        go (x ∷ l) e z = absurd (omega arith)

    -- it stands behind others
    pub arrive-line : {r : Queues} → n < m → (n ≡ 0 → ⊥) → ShowsQueues v (joined (setup_of v) c s) r
        → ShowsQueues v (arrive (setup_of v) c (s.lines ((setup_of v).cluster c)) s) r
    arrive-line {r} b e z =
        go (s.lines ((setup_of v).cluster c)) (λ y. e (length-is ∙ y)) (omega (arith, size_is, length-is))
      where
        go : (l : List ℕ) → (length l ≡ 0 → ⊥) → length l < (setup_of v).size ((setup_of v).cluster c)
            → ShowsQueues v (arrive (setup_of v) c l s) r
        go [] e f = absurd (e refl)
        go (x ∷ l) e f = rw (lt-ltb (length (x ∷ l)) ((setup_of v).size ((setup_of v).cluster c)) f) z

    -- the line is full
    pub arrive_room : (w : ℕ) → m ≤ n → 0 < (setup_of v).size ((setup_of v).cluster c)
        → ShowsQueues v (arrive (setup_of v) c (s.lines ((setup_of v).cluster c)) s)
        (put_room k (with_of (get_or q.rooms k w) c) q)
    arrive_room w b sized = go (s.lines ((setup_of v).cluster c)) (omega (arith, size_is, length-is))
      where
        go : (l : List ℕ) → (setup_of v).size ((setup_of v).cluster c) ≤ length l
            → ShowsQueues v (arrive (setup_of v) c l s) (put_room k (with_of (get_or q.rooms k w) c) q)
        go [] f = absurd (omega arith)
        go (x ∷ l) f =
            rw (le-ltb (length (x ∷ l)) ((setup_of v).size ((setup_of v).cluster c)) f)
            (shows-charge (shows-room h c true w home.low (sym home.own)) (upd s.charge c 0))

-- LAST, IF THE SERVER IS IDLE, PICK

module _ {v : Setup} {r : Queues} (t : State) {b : Bool} where
  pub idle-picks : (x : Server) → b ≡ is_idle x → b ≡ true → ShowsQueues v (pick t) r → ShowsQueues v (pick_idle x t) r
  idle-picks idle e f h = h
  idle-picks (front c) e f h = clash f e
  idle-picks (best c) e f h = clash f e
  idle-picks (spent c) e f h = clash f e
  idle-picks tidying e f h = clash f e

  pub busy-stays : (x : Server) → b ≡ is_idle x → b ≡ false → ShowsQueues v t r → ShowsQueues v (pick_idle x t) r
  busy-stays idle e f h = clash e f
  busy-stays (front c) e f h = h
  busy-stays (best c) e f h = h
  busy-stays (spent c) e f h = h
  busy-stays tidying e f h = h
