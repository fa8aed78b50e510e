-- A gate whose places are as they should be: showing what is read of it gives it back.
-- Assumes nothing.
use Prim.Native.Nat.{ℕ, ◌^◌, ◌≤◌, ◌<◌}
use mathlib.Core.Path.{◌≡◌, refl, sym, ap, ◌∙◌}
use mathlib.Core.Bool.{Bool, true, false, ◌&&◌, and-true, and-false}
use mathlib.Core.List.{List}
use native.Mathlib.Omega.{arith}
use lib.Dec.{eqb, ltb}
use lib.ListN.{length, get_or, get_or-eq_default}
use borrow.Author.Tests.{eqb-true, eqb-false, ltb-true, ltb-false, lt-ltb}
use Rattle.rules.specs.Limits.{max_clusters, max_size, max_clients}
use Rattle.rules.specs.Lists.{has}
use Rattle.rules.proofs.Tests.{by-test, clash, not_so}
use Rattle.sets.specs.Sets.{member, set_of}
use Rattle.sets.proofs.Laws.{is-set_of}
use Rattle.places.specs.Places.{pad, unpad, used_first}
use Rattle.places.proofs.Pads.{pad-unpad, unpad-fits}
use Rattle.gate.specs.declared.Setup.{Setup}
use Rattle.gate.specs.declared.Gate.{Gate}
use Rattle.gate.specs.Shown.{setup_of, server_of, blank_line, state_of}
use Rattle.gate.specs.Shown.{table, show_lines, show_rooms, shown}
use Rattle.parts.specs.Shows.{Fine, Fits, ServerFits, ShowsList, Shows}
use Rattle.gate.proofs.Tables.{table_same, list-table}
use Rattle.parts.proofs.Reading.{shows-is}

-- n places, used ones first, that hold clients
pub record Laid (n : ℕ) (q : List ℕ) : Type 0 where
  pub size : length q ≡ n
  pub first : used_first q ≡ true
  pub known : (x : ℕ) → has x (unpad q) ≡ true → x < max_clients

-- a set of clients of cluster k
pub record OwnRoom (v : Setup) (k s : ℕ) : Type 0 where
  pub word : s < 2 ^ max_clients
  pub own : (c : ℕ) → c < max_clients → member s c ≡ true → (setup_of v).cluster c ≡ k

-- every place of a gate is as it should be, whoever stands there
pub record LaidOut (g : Gate) : Type 0 where
  pub fine : Fine g.setup
  pub eight-lines : length g.lines ≡ max_clusters
  pub line : (k : ℕ) → k < max_clusters → Laid max_size (get_or g.lines k blank_line).places
  pub eight-rooms : length g.rooms ≡ max_clusters
  pub room : (k : ℕ) → k < max_clusters → OwnRoom g.setup k (get_or g.rooms k 0)
  pub global : Laid max_clusters g.global
  pub background : Laid max_clients g.background
  pub server : ServerFits (server_of g.server)
  pub charges : length g.charges ≡ max_clients
  pub deadlines : length g.deadlines ≡ max_clients

laid-pad : (n : ℕ) (q : List ℕ) → Laid n q → q ≡ pad n (unpad q)
laid-pad n q h = sym (rw h.size at (pad-unpad q h.first))

laid-fits : (n : ℕ) (q : List ℕ) → Laid n q → Fits n (unpad q)
laid-fits n q h = record { short = rw h.size at (unpad-fits q); used = h.known }

laid-list : (n : ℕ) (q : List ℕ) → Laid n q → ShowsList n (unpad q) q
laid-list n q h = record { places = laid-pad n q h; fits = laid-fits n q h }

module _ (g : Gate) (h : LaidOut g) where
  lines-shown : g.lines ≡ show_lines (state_of g).lines
  unfolding state_of
  lines-shown =
      list-table g.lines blank_line
      ∙ ap (λ n. table n (λ (k : ℕ). get_or g.lines k blank_line)) h.eight-lines
      ∙ table_same max_clusters (λ (k : ℕ). get_or g.lines k blank_line)
      (λ (k : ℕ). record { places = pad max_size (unpad (get_or g.lines k blank_line).places) })
      (λ k b. ap (λ (q : List ℕ). record { places = q }) (laid-pad max_size _ (h.line k b)))

  rooms-shown : g.rooms ≡ show_rooms (setup_of g.setup).cluster (state_of g).room
  unfolding state_of
  rooms-shown =
      list-table g.rooms 0
      ∙ ap (λ n. table n (λ (k : ℕ). get_or g.rooms k 0)) h.eight-rooms
      ∙ table_same max_clusters (λ (k : ℕ). get_or g.rooms k 0)
      (λ (k : ℕ). set_of max_clients (λ (c : ℕ). in_own c && eqb (home c) k))
      (λ k b. is-set_of max_clients (get_or g.rooms k 0) (λ (c : ℕ). in_own c && eqb (home c) k) (h.room k b).word
      (λ c l. by-test (eqb (home c) k) (λ e. rw e (here k c l (eqb-true (home c) k e))) (λ e. rw e (away k b c l e))))
    where
      home : ℕ → ℕ
      home = (setup_of g.setup).cluster

      in_own : ℕ → Bool
      in_own c = ltb c max_clients && member (get_or g.rooms (home c) 0) c

      here : (k c : ℕ) → c < max_clients → home c ≡ k → member (get_or g.rooms k 0) c ≡ in_own c && true
      here k c l e = rw (lt-ltb c max_clients l, e) (sym (and-true (member (get_or g.rooms k 0) c)))

      away : (k : ℕ) → k < max_clusters → (c : ℕ) → c < max_clients → eqb (home c) k ≡ false
          → member (get_or g.rooms k 0) c ≡ in_own c && false
      away k b c l e =
          not_so (member (get_or g.rooms k 0) c) (λ m. eqb-false (home c) k e ((h.room k b).own c l m))
          ∙ sym (and-false (in_own c))

  -- what is laid out is shown
  pub laid_shows : Shows g.setup (state_of g) g
  unfolding state_of unpad
  laid_shows =
      record {
        fine = h.fine;
        setup = refl;
        queues = record {
          lines = record { places = lines-shown; fits = line-fits };
          rooms = rooms-shown;
          global = laid-list max_clusters g.global h.global;
          background = laid-list max_clients g.background h.background;
          service = record { server = refl; units = refl; fits = h.server };
        };
        charges = list-table g.charges 0 ∙ ap (λ n. table n (λ (c : ℕ). get_or g.charges c 0)) h.charges;
        deadlines = list-table g.deadlines 0
            ∙ ap (λ n. table n (λ (c : ℕ). get_or g.deadlines c 0)) h.deadlines;
      }
    where
      past : (k : ℕ) → max_clusters ≤ k → get_or g.lines k blank_line ≡ blank_line
      past k b = get_or-eq_default g.lines blank_line (omega (arith, h.eight-lines))

      line-fits : (k : ℕ) → Fits max_size (unpad (get_or g.lines k blank_line).places)
      line-fits k =
          by-test (ltb k max_clusters)
          (λ e. laid-fits max_size (get_or g.lines k blank_line).places (h.line k (ltb-true k max_clusters e)))
          (λ e. rw (past k (ltb-false k max_clusters e)) (record { short = omega arith; used = λ x q. clash q refl }))

  pub shown-back : shown g.setup (state_of g) ≡ g
  shown-back = sym (shows-is g.setup (state_of g) g laid_shows)
