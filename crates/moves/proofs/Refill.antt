-- Refill, as the queues show it: nobody is in the room, or the line is full, or the highest in rank moves.
-- Assumes nothing.
use Prim.Native.Nat.{◌<◌, ◌≤◌, ℕ}
use mathlib.Core.Bool.{Bool, false, true}
use mathlib.Core.List.{List}
use mathlib.Core.Option.{some}
use mathlib.Core.Path.{◌∙◌, ◌≡◌, ap, sym}
use native.Mathlib.Omega.{arith}
use lib.Dec.{eqb, ltb}
use lib.ListN.{get_or, length}
use borrow.Author.Tests.{eqb-true, le-ltb, lt-ltb}
use Rattle.rules.specs.Limits.{max_clients, max_clusters, max_size}
use Rattle.rules.specs.Lists.{highest}
use Rattle.rules.specs.Queues.{in_room, refill}
use Rattle.rules.specs.Rank.{Rank, outranks}
use Rattle.rules.specs.State.{State}
use Rattle.rules.proofs.Tests.{both_true, by-test, not_so}
use Rattle.sets.specs.Sets.{member, without_of}
use Rattle.sets.proofs.Bits.{member-none}
use Rattle.sets.proofs.Laws.{member-set_of}
use Rattle.places.specs.Places.{append_of, used_of}
use Rattle.parts.specs.Parts.{put_line, put_room}
use Rattle.gate.specs.Shown.{setup_of}
use Rattle.parts.specs.Shows.{Fine, ShowsKeys, ShowsList, ShowsQueues}
use Rattle.gate.specs.declared.Line.{Line}
use Rattle.parts.specs.declared.Queues.{Queues}
use Rattle.gate.specs.declared.Setup.{Setup}
use Rattle.parts.proofs.Parts.{appended, line_at, room_at, shows-line, shows-room, used-is}
use Rattle.ranks.specs.Ranks.{rank_by}
use Rattle.ranks.proofs.Ranks.{found-leads, highest-cut, highest-none, rank-shown, ranked}

module _ {v : Setup} {s : State} {q : Queues} (fine : Fine v) (h : ShowsQueues v s q) (k : ℕ) (low : k < max_clusters)
  where
    abbrev rank : Rank
    rank = outranks (setup_of v) s

    abbrev waiting : ℕ → Bool
    waiting = in_room (setup_of v) s k

    -- nobody is in the room
    pub refill-empty : get_or q.rooms k 0 ≡ 0
        → ShowsQueues v (refill (setup_of v) (outranks (setup_of v) s) k s) q
    unfolding refill
    refill-empty e =
        by-test (ltb (length (s.lines k)) ((setup_of v).size k))
        (λ f. rw (f, highest-none rank waiting v.clients out) h)
        (λ f. rw f h)
      where
        out : (c : ℕ) → c < v.clients → waiting c ≡ false
        out c b =
            let low-c : c < max_clients = omega (arith, fine.clients) in
            sym (member-set_of max_clients waiting c low-c)
            ∙ ap (λ x. member x c) (sym (room_at (setup_of v).cluster s.room h.rooms low 0) ∙ e) ∙ member-none c

    module _ (d : Line) where
      here : ShowsList max_size (s.lines k) (get_or q.lines k d).places
      here = line_at h.lines k low d

      -- the size and the line's length, as the code reads them
      module _ {m n : ℕ} (size : m ≡ (setup_of v).size k) (used : n ≡ used_of (get_or q.lines k d).places) where
        length-is : n ≡ length (s.lines k)
        length-is = used ∙ used-is here

        pub refill-full : m ≤ n → ShowsQueues v (refill (setup_of v) (outranks (setup_of v) s) k s) q
        unfolding refill
        refill-full b =
            rw (le-ltb (length (s.lines k)) ((setup_of v).size k) (omega (arith, size, length-is))) h

        pub refill-moves : n < m → ((c : ℕ) → s.room c ≡ true → c < v.clients) → (w c : ℕ) → c < max_clients
            → {ks : List ℕ} → ShowsKeys v s ks → some c ≡ highest (rank_by ks) (member (get_or q.rooms k w)) max_clients
            → ShowsQueues v (refill (setup_of v) (outranks (setup_of v) s) k s)
            (put_room k (without_of (get_or q.rooms k w) c) (put_line k (append_of c (get_or q.lines k d).places) q))
        unfolding refill
        refill-moves free known w c b {ks} keys top =
            rw (lt-ltb (length (s.lines k)) ((setup_of v).size k) (omega (arith, size, length-is)), ← top-is)
            (shows-room (shows-line h k (appended here c (omega (arith, size, length-is, fine.sizes k)) b))
            c false w low (eqb-true ((setup_of v).cluster c) k
            (both_true (s.room c) (eqb ((setup_of v).cluster c) k) there).1))
          where
            -- who is in the room, by the code and by the rules
            in-room : (i : ℕ) → i < max_clients → member (get_or q.rooms k w) i ≡ waiting i
            in-room i l =
                ap (λ x. member x i) (room_at (setup_of v).cluster s.room h.rooms low w)
                ∙ member-set_of max_clients waiting i l

            there : waiting c ≡ true
            there =
                sym (in-room c b)
                ∙ (found-leads (ranked ks) (member (get_or q.rooms k w)) max_clients c top).passes

            top-is : some c ≡ highest rank waiting v.clients
            top-is =
                top
                ∙ sym (highest-cut (rank_by ks) waiting (member (get_or q.rooms k w)) v.clients
                max_clients fine.clients
                (λ i l. sym (in-room i (omega (arith, fine.clients))))
                (λ i l past. in-room i l ∙ not_so (waiting i) (λ e.
                omega (arith, known i (both_true (s.room i) (eqb ((setup_of v).cluster i) k) e).0))))
                ∙ ap (λ r. highest r waiting v.clients) (rank-shown keys)
