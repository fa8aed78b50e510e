-- A law for each part of the relation between queues and states: what stands there, and the part with another in it.
-- Assumes nothing.
use Prim.Native.Nat.{◌<◌, suc, ℕ}
use mathlib.Core.Bool.{Bool, false, ◌&&◌, and-true, and-false}
use mathlib.Core.List.{List, [], ◌++◌, ◌∷◌}
use mathlib.Core.Path.{◌∙◌, ◌≡◌, ap, refl, sym}
use native.Mathlib.Omega.{arith}
use lib.Dec.{eqb}
use lib.ListN.{get_or, length, set}
use borrow.Author.Tests.{eq-eqb, eqb-false, eqb-true, ne_eqb}
use Rattle.rules.specs.Limits.{max_clients, max_clusters, max_size, unused_place}
use Rattle.rules.specs.Lists.{has, heads, remove, upd}
use Rattle.rules.specs.State as rules
use Rattle.rules.specs.State.{State}
use Rattle.rules.specs.Changes.{with_background, with_charge, with_deadline, with_global, with_line, with_room, with_server}
use Rattle.rules.proofs.Tests.{by-test, upd-at}
use Rattle.sets.specs.Sets.{member, set_of}
use Rattle.sets.proofs.Laws.{member-set_of, set_of-same, set_of-upd}
use Rattle.places.specs.Places.{append_of, close_up_of, join_of, pad, take_out_of, used_of}
use Rattle.places.proofs.Pads.{has-pad, heads-pad}
use Rattle.places.proofs.Queues.{append-pad, close-first, join-pad, take_out-pad, used-pad}
use Rattle.parts.specs.Parts.{put_background, put_global, put_line, put_room, put_server}
use Rattle.gate.specs.Shown.{server_of, setup_of, show_rooms}
use Rattle.parts.specs.Shows.{Fits, ServerFits, ShowsLines, ShowsList, ShowsQueues, ShowsService}
use Rattle.gate.specs.declared.Line.{Line}
use Rattle.parts.specs.declared.Queues.{Queues}
use Rattle.gate.specs.declared.Server.{Server}
use Rattle.gate.specs.declared.Setup.{Setup}
use Rattle.parts.proofs.Fits.{fits-remove, fits_snoc, fits-tail, fits-used}
use Rattle.gate.proofs.Tables.{set-table, table_at, table_same}

-- 255 is no client
pub someone : {c : ℕ} → c < max_clients → c ≡ unused_place → ⊥
someone b e = omega arith

-- a state's parts, in the queues' parts
parts : {v : Setup} {s : State} {q : Queues} → ShowsLines s.lines q.lines
    → q.rooms ≡ show_rooms (setup_of v).cluster s.room → ShowsList max_clusters s.global q.global
    → ShowsList max_clients s.background q.background → ShowsService s.server s.units q.service
    → ShowsQueues v s q
parts a b c d e = record { lines = a; rooms = b; global = c; background = d; service = e }

-- A QUEUE IN ITS PLACES

module _ {n : ℕ} {l q : List ℕ} (h : ShowsList n l q) where
  pub used-is : used_of q ≡ length l
  used-is = rw h.places (used-pad n l (fits-used h.fits) h.fits.short)

  -- c at its end
  pub appended : (c : ℕ) → length l < n → c < max_clients → ShowsList n (l ++ (c ∷ [])) (append_of c q)
  appended c short known =
      record {
        places = rw h.places (append-pad c n l (fits-used h.fits));
        fits = fits_snoc c h.fits short known;
      }

  -- and where it stands or would join, if it is not there
  pub joins : (c : ℕ) → length l < n → c < max_clients → has c l ≡ false → ShowsList n (l ++ (c ∷ [])) (join_of c q)
  joins c short known absent =
      record {
        places = rw h.places (join-pad c n l (fits-used h.fits) absent);
        fits = fits_snoc c h.fits short known;
      }

  module _ {c : ℕ} (known : c < max_clients) where
    pub has-is : has c q ≡ has c l
    has-is = rw h.places (has-pad c (someone known) n l h.fits.short)

    pub taken_out : ShowsList n (remove c l) (take_out_of c q)
    taken_out =
        record {
          places = rw h.places (take_out-pad c n l (someone known) h.fits.short);
          fits = fits-remove c h.fits;
        }

    pub heads-is : 0 < n → eqb (get_or q 0 0) c ≡ heads c l
    heads-is some = rw h.places (heads-pad c (someone known) n l 0 some)

-- the first place of an empty queue, and of others
pub first-empty : (n : ℕ) {q : List ℕ} {x : ℕ} → ShowsList (suc n) [] q → x ≡ get_or q 0 0 → x ≡ unused_place
unfolding pad
first-empty n h e = e ∙ rw h.places

pub first-is : (n : ℕ) {y : ℕ} {l q : List ℕ} {x : ℕ} → ShowsList (suc n) (y ∷ l) q → x ≡ get_or q 0 0 → x ≡ y
unfolding pad
first-is n h e = e ∙ rw h.places

-- the first leaves
pub closed-up : {n y : ℕ} {l q : List ℕ} → ShowsList n (y ∷ l) q → ShowsList n l (close_up_of 0 q)
closed-up {n} {y} {l} h =
    record {
      places = rw h.places (close-first y n l (omega (arith, h.fits.short)));
      fits = fits-tail h.fits;
    }

-- LINES

module _ {lines : ℕ → List ℕ} {ls : List Line} (h : ShowsLines lines ls) (k : ℕ) where
  -- the line of k
  pub line_at : k < max_clusters → (d : Line) → ShowsList max_size (lines k) (get_or ls k d).places
  line_at b d =
      record {
        places = ap (λ (x : Line). x.places)
            (rw h.places (table_at max_clusters (λ j. record { places = pad max_size (lines j) }) k d b));
        fits = h.fits k;
      }

  pub line-put : {l q : List ℕ} → ShowsList max_size l q → ShowsLines (upd lines k l) (set ls k (record { places = q }))
  line-put {l} {q} e =
      record {
        places = rw (e.places, h.places)
            (set-table max_clusters (λ j. record { places = pad max_size (lines j) }) k _
            ∙ table_same max_clusters _ _ (λ j b. by-test (eqb j k) (λ t. rw t) (λ t. rw t)));
        fits = λ j. upd-at (Fits max_size) lines k l j (λ t. e.fits) (λ t. h.fits j);
      }

-- WAITING ROOMS

module _ (home : ℕ → ℕ) (room : ℕ → Bool) where
  -- the room of k, and c in the room of its own cluster
  module _ {rs : List ℕ} (h : rs ≡ show_rooms home room) {k : ℕ} (low : k < max_clusters) (d : ℕ) where
    pub room_at : get_or rs k d ≡ set_of max_clients (λ x. room x && eqb (home x) k)
    room_at = rw h (table_at max_clusters (λ j. set_of max_clients (λ x. room x && eqb (home x) j)) k d low)

    module _ {c : ℕ} (own : home c ≡ k) where
      pub room-has : c < max_clients → member (get_or rs k d) c ≡ room c
      room-has known =
          ap (λ w. member w c) room_at ∙ member-set_of max_clients (λ x. room x && eqb (home x) k) c known
          ∙ rw (eq-eqb (home c) k own) (and-true (room c))

      -- a room with c in it or out of it
      pub room-put : (b : Bool) → set rs k (set_of max_clients (upd (member (get_or rs k d)) c b))
          ≡ show_rooms home (upd room c b)
      room-put b =
          rw (room_at, set_of-upd max_clients (λ x. room x && eqb (home x) k) c b, h)
          (set-table max_clusters (λ j. set_of max_clients (λ x. room x && eqb (home x) j)) k _
          ∙ table_same max_clusters _ _ (λ j l. by-test (eqb j k)
          (λ e. rw e (set_of-same max_clients _ _ (λ x m. here j (eqb-true j k e) x)))
          (λ e. rw e (set_of-same max_clients _ _ (λ x m. away j (eqb-false j k e) x)))))
        where
          here : (j : ℕ) → j ≡ k → (x : ℕ)
              → upd (λ y. room y && eqb (home y) k) c b x ≡ upd room c b x && eqb (home x) j
          here j e x =
              by-test (eqb x c)
              (λ f. rw (f, eqb-true x c f, own, e, eq-eqb k k refl) (sym (and-true b)))
              (λ f. rw (f, e))

          away : (j : ℕ) → (j ≡ k → ⊥) → (x : ℕ) → room x && eqb (home x) j ≡ upd room c b x && eqb (home x) j
          away j e x =
              by-test (eqb x c)
              (λ f. rw (f, eqb-true x c f, own, ne_eqb k j (λ q. e (sym q)))
              (and-false (room c) ∙ sym (and-false b)))
              (λ f. rw f)

-- THE QUEUES WITH ONE PART CHANGED

module _ {v : Setup} {s : State} {q : Queues} (h : ShowsQueues v s q) where
  pub shows-line : (k : ℕ) {l p : List ℕ} → ShowsList max_size l p → ShowsQueues v (with_line k l s) (put_line k p q)
  shows-line k e = parts (line-put h.lines k e) h.rooms h.global h.background h.service

  pub shows-room : (c : ℕ) {k : ℕ} (b : Bool) (d : ℕ) → k < max_clusters → (setup_of v).cluster c ≡ k
      → ShowsQueues v (with_room c b s) (put_room k (set_of max_clients (upd (member (get_or q.rooms k d)) c b)) q)
  shows-room c b d low own =
      parts h.lines (room-put (setup_of v).cluster s.room h.rooms low d own b)
      h.global h.background h.service

  pub shows-global : {l p : List ℕ} → ShowsList max_clusters l p → ShowsQueues v (with_global l s) (put_global p q)
  shows-global e = parts h.lines h.rooms e h.background h.service

  pub shows-background : {l p : List ℕ} → ShowsList max_clients l p
      → ShowsQueues v (with_background l s) (put_background p q)
  shows-background e = parts h.lines h.rooms h.global e h.service

  pub shows-server : {x : rules.Server} {n : ℕ} {y : Server} → server_of y ≡ x → ServerFits x
      → ShowsQueues v (with_server x n s) (put_server y n q)
  shows-server e f =
      parts h.lines h.rooms h.global h.background (record { server = e; units = refl; fits = f })

  -- the queues show nothing of the deadlines
  pub shows-deadline : (f : ℕ → ℕ) → ShowsQueues v (with_deadline f s) q
  shows-deadline f = parts h.lines h.rooms h.global h.background h.service

  -- nor of the charges
  pub shows-charge : (f : ℕ → ℕ) → ShowsQueues v (with_charge f s) q
  shows-charge f = parts h.lines h.rooms h.global h.background h.service
