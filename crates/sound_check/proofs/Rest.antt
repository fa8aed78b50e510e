-- The whole test by the parts of a gate: a sound setup, everyone in a line or the background queue, and the rest.
-- Assumes nothing.
use Prim.Native.Nat.{ℕ}
use mathlib.Core.Path.{◌≡◌, refl, sym, ap, ◌∙◌, fun_ext}
use mathlib.Core.Bool.{Bool, true, false, ◌&&◌}
use mathlib.Core.Option.{Option, some, none}
use native.Mathlib.Omega.{arith}
use lib.Dec.{eqb, leb}
use lib.ListN.{length, get_or}
use borrow.Author.Tests.{eq-eqb, lt-ltb}
use Rattle.rules.specs.Limits.{max_clusters, max_clients}
use Rattle.rules.specs.Setup as rules
use Rattle.rules.specs.State as state
use Rattle.rules.specs.State.{State, idle, front, best, spent, tidying, cap_of}
use Rattle.rules.proofs.Tests.{by-test}
use Rattle.rules.proofs.Setups.{Allowed, allowed}
use Rattle.sets.specs.Sets.{member, less_of}
use Rattle.places.specs.Places.{unpad}
use Rattle.gate.specs.declared.Setup.{Setup}
use Rattle.gate.specs.declared.Gate.{Gate}
use Rattle.gate.specs.Shown.{setup_of, server_of, state_of}
use Rattle.parts.specs.Shows.{Fine}
use Rattle.parts.proofs.SoundShows.{accepted-fine}
use Rattle.places.specs.Tests.{all_below}
use Rattle.soundness.specs.Tests.{joined}
use Rattle.soundness.specs.Clauses.{laid, is_real, of_cluster, setup_sound, everyone, line_sound, lines_sound}
use Rattle.soundness.specs.Clauses.{background_sound, stand_sound, rooms_sound, server_sound, charges_sound, rest_sound}
use Rattle.soundness.specs.Clauses.{sound_of}
use Rattle.soundness.proofs.Facts.{setup-facts}
use Rattle.seen.specs.Seen.{seen_if, queue_seen}
use Rattle.standing.specs.Answers.{lines_in, line_fits, lines_fit, lines_seen, rooms_fit}
use Rattle.setup_check.specs.declared.Clients.{Clients}
use Rattle.seen.proofs.Once.{and_then}
use Rattle.standing.proofs.Standing.{standing-is}
use Rattle.fronts.specs.Answers.{then_test, firsts_of, queued_of, global_fits, server_fits}
use Rattle.sound_check.specs.Answers.{charges_fit, deadlines_fit}
use Rattle.setup_check.proofs.Members.{in-set, less-is, clients, real-is, effort-is, own-known, own_is}
use Rattle.standing.proofs.Rooms.{room-is}
use Rattle.fronts.proofs.Fronts.{first-is}
use Rattle.fronts.proofs.Globals.{global-is}
use Rattle.sound_check.proofs.Waiting.{deadlines-are}

-- of the arrays that the clauses are handed
pub record Lengths (g : Gate) : Type 0 where
  pub background : length g.background ≡ max_clients
  pub global : length g.global ≡ max_clusters
  pub charges : length g.charges ≡ max_clients
  pub deadlines : length g.deadlines ≡ max_clients

-- a clause that is answered, before the others
module _ {a r : Bool} (p : r ≡ a) where
  pub passes : {b : Bool} → r ≡ true → a && b ≡ b
  passes e = rw (sym p ∙ e)

  pub fails : r ≡ false → (b : Bool) → a && b ≡ false
  fails e b = rw (sym p ∙ e)

-- the charges and the deadlines, by the sets of the real-time clients and of those seen in a line
abbrev pub accounts_fit : Gate → ℕ → ℕ → Bool
accounts_fit g real seen =
    charges_fit real g.charges && deadlines_fit g.setup.homes g.rooms g.setup.timed seen g.deadlines

-- the clauses but the first two, by the sets of the setup's clients, of the fronts, of those to be queued, and of those
-- seen in a line
abbrev pub rest_fits : Gate → Clients → ℕ → ℕ → ℕ → ℕ → Bool
rest_fits g cs fronts queue seen standing =
    rooms_fit g.setup.sizes cs.own standing g.lines g.rooms
    && (global_fits queue g.global
    && (server_fits cs g.setup.homes g.rooms fronts standing g.units (server_of g.server)
    && (leb g.units (cap_of (setup_of g.setup) (server_of g.server)) && accounts_fit g cs.real seen)))

module _ (g : Gate) (e : setup_sound g.setup ≡ true) where
  abbrev v : Setup
  v = g.setup

  abbrev u : rules.Setup
  u = setup_of v

  abbrev s : State
  s = state_of g

  pub ok : Allowed u
  ok = allowed u (setup-facts v e).0

  pub fine : Fine v
  fine = accepted-fine v (setup-facts v e).0 (setup-facts v e).1

  abbrev cs : Clients
  cs = clients v fine

  -- LINES AND THE BACKGROUND QUEUE

  lines_are : lines_seen v.sizes cs.own g.lines
      ≡ seen_if (lines_sound u g.lines) 0 (joined (lines_in g.lines) 0 max_clusters)
  unfolding lines_fit line_fits lines_sound line_sound
  lines_are =
      ap (λ p. seen_if (lines_fit u.size p g.lines) 0 (joined (lines_in g.lines) 0 max_clusters))
      (own_is v fine)

  background-is : length g.background ≡ max_clients → (t : ℕ)
      → queue_seen (member cs.effort) g.background t
      ≡ seen_if (background_sound u g.background) t (unpad g.background)
  unfolding queue_seen background_sound laid
  background-is n t = rw (effort-is v fine, eq-eqb (length g.background) max_clients n)

  sound-is : length g.background ≡ max_clients
      → sound_of g ≡ then_test (and_then (lines_seen v.sizes cs.own g.lines)
      (λ t. queue_seen (member cs.effort) g.background t)) (rest_sound u g s)
  unfolding sound_of state_of
  sound-is n =
      rw (e, lines_are, fun_ext (background-is n), ← standing-is u fine.clients g.lines g.background)
      (by-test (stand_sound u g.lines g.background (everyone (lines_in g.lines) (unpad g.background)))
      (λ d. rw d) (λ d. rw d))

  -- THE REST

  module _ (t : ℕ) (seen : lines_seen v.sizes cs.own g.lines ≡ some t) where
    sound : lines_sound u g.lines ≡ true
    sound =
        by-test (lines_sound u g.lines) (λ q. q) (λ q.
        let z : none ≡ some t = rw (lines_are, q) at seen in
        let y : ◌≡◌ {A = ℕ} 0 1 = cc in absurd (omega arith))

    own : (k c : ℕ) → member (get_or cs.own k 0) c ≡ of_cluster u k c
    own k c = ap (λ f. f k c) (own_is v fine)

    rooms-are : (standing : ℕ)
        → rooms_fit v.sizes cs.own standing g.lines g.rooms ≡ rooms_sound u standing s.lines g.rooms
    unfolding rooms_fit rooms_sound state_of
    rooms-are standing =
        ap (λ p. eqb (length g.rooms) max_clusters && all_below max_clusters p) (fun_ext (λ k.
        room-is u fine.clients k (get_or cs.own k 0) (own k) standing
        (s.lines k) (get_or g.rooms k 0)))

    server-is : (standing : ℕ) (x : state.Server)
        → server_fits cs v.homes g.rooms (firsts_of g.lines max_clusters) standing g.units x
        ≡ server_sound u standing s x
    unfolding state_of
    server-is standing idle = refl
    server-is standing (front c) = first-is v fine g.lines sound c
    server-is standing (best c) = less-is cs.effort standing (in-set _) c ∙ rw (effort-is v fine)
    server-is standing (spent c) =
        let k = u.cluster c in
        less-is (less_of (get_or cs.own k 0) standing) (get_or g.rooms k 0) (in-set _) c
        ∙ rw (less-is (get_or cs.own k 0) standing (λ x q. own-known v fine k x (sym (own k x) ∙ q)) c, own k c)
        (by-test (is_real u c)
        (λ q. rw (q, eq-eqb k k refl, lt-ltb c max_clients (own-known v fine k c (rw (q, eq-eqb k k refl)))))
        (λ q. rw q))
    server-is standing tidying = refl

    charges-are : charges_fit cs.real g.charges ≡ charges_sound u g.charges
    unfolding charges_fit charges_sound
    charges-are = rw (real-is v fine)

    rest-is : length g.global ≡ max_clusters → (standing : ℕ)
        → rest_fits g cs (firsts_of g.lines max_clusters)
        (queued_of v.homes cs.own (server_of g.server) (firsts_of g.lines max_clusters)) t standing
        ≡ rest_sound u g s standing
    unfolding rest_sound state_of
    rest-is n standing =
        rw (
          rooms-are standing,
          global-is g fine ok sound g.global n,
          server-is standing (server_of g.server),
          charges-are,
          deadlines-are g fine sound t (rw (lines_are, sound) at seen),
        )

  -- AS FAR AS IT IS SEEN

  module _ (n : Lengths g) (found : Clients) (same : found ≡ cs) where
    pub by_lines : {a : Option ℕ} → a ≡ lines_seen v.sizes found.own g.lines
        → sound_of g ≡ then_test (and_then a (queue_seen (member found.effort) g.background)) (rest_sound u g s)
    by_lines p = rw (p, same) (sound-is n.background)

    module _ {t : ℕ} (p : some t ≡ lines_seen v.sizes found.own g.lines) where
      pub by-queue : {b : Option ℕ} → b ≡ queue_seen (member found.effort) g.background t
          → sound_of g ≡ then_test b (rest_sound u g s)
      by-queue q = by_lines p ∙ rw q

      pub by-rest : {z : ℕ} → some z ≡ queue_seen (member found.effort) g.background t
          → {fronts queue : ℕ} → fronts ≡ firsts_of g.lines max_clusters
          → queue ≡ queued_of v.homes found.own (server_of g.server) fronts
          → sound_of g ≡ rest_fits g found fronts queue t z
      by-rest {z} q f e =
          by-queue q ∙ rw (e, f, same) (sym (rest-is t (rw same at (sym p)) n.global z))
