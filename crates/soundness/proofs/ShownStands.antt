-- The gate that shows a sound state of the rules: its lines and its background queue pass the test.
-- Assumes nothing.
use Prim.Native.Nat.{ℕ}
use mathlib.Core.Path.{◌≡◌, sym, ◌∙◌}
use mathlib.Core.Bool.{true, false}
use mathlib.Core.List.{List}
use native.Mathlib.Omega.{arith}
use lib.ListN.{length, get_or}
use borrow.Author.Tests.{lt-ltb, le-leb}
use Rattle.rules.specs.Limits.{max_clusters, max_size, max_clients}
use Rattle.rules.specs.Lists.{has}
use Rattle.rules.specs.Setup as rules
use Rattle.rules.specs.Setup.{real_time}
use Rattle.rules.specs.State.{State}
use Rattle.rules.specs.Sound.{Sound}
use Rattle.rules.proofs.Tests.{clash, not_so, either_true}
use Rattle.rules.proofs.Lists.{has-append}
use Rattle.sets.specs.Sets.{member}
use Rattle.places.specs.Places.{pad, unpad}
use Rattle.places.proofs.Pads.{length-pad, no-unused, unpad-pad, used_first-pad}
use Rattle.gate.specs.declared.Line.{Line}
use Rattle.gate.specs.declared.Setup.{Setup}
use Rattle.gate.specs.Shown.{setup_of, blank_line, show_lines, shown}
use Rattle.parts.specs.Shows.{Fits, Shows}
use Rattle.gate.proofs.Tables.{length-table, table_at}
use Rattle.parts.proofs.SoundShows.{sound-shows}
use Rattle.places.specs.Tests.{distinct}
use Rattle.soundness.specs.Tests.{joined, set_in}
use Rattle.soundness.specs.Clauses.{laid, everyone, of_cluster, of_background, line_sound, lines_sound}
use Rattle.soundness.specs.Clauses.{background_sound}
use Rattle.places.proofs.Tests.{has-every, at_all, is-distinct}
use Rattle.soundness.proofs.Joined.{joined-has, distinct_append, distinct-joined}
use Rattle.soundness.proofs.Sets.{set-has}
use Rattle.soundness.proofs.Facts.{facts-laid, in-cluster}

-- n places that hold a list of clients
pub record Held (n : ℕ) (l : List ℕ) : Type 0 where
  pub places : laid n (pad n l) ≡ true
  pub back : unpad (pad n l) ≡ l

pub held : (n : ℕ) (l : List ℕ) → Fits n l → Held n l
held n l f =
    let used = no-unused l (λ x e. omega (arith, f.used x e)) in
    record {
      places = facts-laid n (pad n l) (length-pad n l) (used_first-pad n l used);
      back = unpad-pad n l used f.short;
    }

module _ (v : Setup) (s : State) (h : Sound (setup_of v) s) where
  abbrev u : rules.Setup
  u = setup_of v

  abbrev all : List ℕ
  all = everyone s.lines s.background

  fits : Shows v s (shown v s)
  fits = sound-shows v s h

  -- LINES AND QUEUES

  pub lines-pass : lines_sound u (show_lines s.lines) ≡ true
  unfolding lines_sound line_sound
  lines-pass =
      rw (length-table max_clusters line_of)
      (at_all max_clusters (λ k. line_sound u k (get_or (show_lines s.lines) k blank_line).places) (λ k b.
      rw (table_at max_clusters line_of k blank_line b) (go k)))
    where
      line_of : ℕ → Line
      line_of k = record { places = pad max_size (s.lines k) }

      go : (k : ℕ) → line_sound u k (pad max_size (s.lines k)) ≡ true
      go k =
          let w = held max_size (s.lines k) (fits.queues.lines.fits k) in
          let l = h.lines k in
          rw (w.places, w.back, le-leb (length (s.lines k)) (u.size k) l.fits)
          (has-every (of_cluster u k) (s.lines k) (λ c e.
          in-cluster u k c (record { known = l.known c e; real = l.real c e; home = l.home c e })))

  pub background-pass : background_sound u (pad max_clients s.background) ≡ true
  unfolding background_sound
  background-pass =
      let w = held max_clients s.background fits.queues.background.fits in
      let b = h.background in
      rw (w.places, w.back)
      (has-every (of_background u) s.background (λ c e.
      rw (lt-ltb c u.clients (b.known c e), b.effort c e)))

  -- NO CLIENT IN TWO PLACES

  -- whoever is not in its line and, if best-effort, not in the background queue is in none of the lists
  pub not_there : (c : ℕ) → has c (s.lines (u.cluster c)) ≡ false → has c s.background ≡ false
      → has c all ≡ false
  not_there c a b =
      not_so (has c all) (λ e. either_true (has c (joined s.lines 0 max_clusters)) (has c s.background)
      (rw has-append at e)
      (λ q. joined-has s.lines 0 max_clusters c q (λ j x y i.
      clash i (rw ((h.lines j).home c i) at a)))
      (λ q. clash q b))

  -- the set of everyone has everyone
  in-set : (c : ℕ) → member (set_in all) c ≡ has c all
  in-set =
      set-has all (λ c e. either_true (has c (joined s.lines 0 max_clusters)) (has c s.background)
      (rw has-append at e)
      (λ q. joined-has s.lines 0 max_clusters c q (λ j x y i. (fits.queues.lines.fits j).used c i))
      (λ q. fits.queues.background.fits.used c q))

  pub no_place : (c : ℕ) → has c (s.lines (u.cluster c)) ≡ false → has c s.background ≡ false
      → member (set_in all) c ≡ false
  no_place c a b = in-set c ∙ not_there c a b

  pub real-apart : (c : ℕ) → real_time u c ≡ true → has c s.background ≡ false
  real-apart c r = not_so (has c s.background) (λ e. clash r (h.background.effort c e))

  pub effort-apart : (c : ℕ) → real_time u c ≡ false → has c (s.lines (u.cluster c)) ≡ false
  effort-apart c r =
      not_so (has c (s.lines (u.cluster c))) (λ e. clash ((h.lines (u.cluster c)).real c e) r)

  pub once-pass : distinct all ≡ true
  once-pass =
      is-distinct all
      (distinct_append (joined s.lines 0 max_clusters) s.background
      (distinct-joined s.lines 0 max_clusters (λ j. (h.lines j).once) (λ i j x p q.
      sym ((h.lines i).home x p) ∙ (h.lines j).home x q))
      h.background.once
      (λ x p q. joined-has s.lines 0 max_clusters x p (λ j a b i.
      clash ((h.lines j).real x i) (h.background.effort x q))))
