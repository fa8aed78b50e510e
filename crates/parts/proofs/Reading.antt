-- Reading what is shown gives the state back.
-- Assumes nothing.
use Prim.Native.Nat.{ℕ}
use mathlib.Core.Path.{◌≡◌, refl, sym, ap, ◌∙◌, fun_ext}
use mathlib.Core.Bool.{Bool, ◌&&◌, and-true}
use mathlib.Core.List.{List}
use native.Mathlib.Omega.{arith}
use lib.Dec.{eqb, ltb}
use lib.ListN.{get_or}
use borrow.Author.Tests.{eq-eqb, ltb-true, ltb-false}
use Rattle.rules.specs.Limits.{max_clusters, max_size, max_clients}
use Rattle.rules.specs.State as rules
use Rattle.rules.specs.State.{State}
use Rattle.rules.proofs.Tests.{by-test}
use Rattle.sets.specs.Sets.{member, set_of}
use Rattle.sets.proofs.Laws.{member-set_of}
use Rattle.places.specs.Places.{pad, unpad}
use Rattle.places.proofs.Pads.{unpad-pad, no-unused}
use Rattle.gate.specs.declared.Line.{Line}
use Rattle.gate.specs.declared.Server.{Server}
use Rattle.gate.specs.declared.Server.TheVariants.{Idle, Front, Best, Spent, Tidying}
use Rattle.gate.specs.declared.Setup.{Setup}
use Rattle.parts.specs.declared.Queues.{Queues}
use Rattle.gate.specs.declared.Gate.{Gate}
use Rattle.parts.specs.Parts.{service, queues, gate_of}
use Rattle.gate.specs.Shown.{server_of, blank_line, state_of}
use Rattle.gate.specs.Shown.{show_server, shown}
use Rattle.parts.specs.Shows.{Fits, ShowsList, ShowsQueues, Shows, Within}
use Rattle.gate.proofs.Tables.{table_at, table-past}

-- PARTS

pub show-server : (x : Server) → show_server (server_of x) ≡ x
show-server Idle = refl
show-server (Front c) = refl
show-server (Best c) = refl
show-server (Spent c) = refl
show-server Tidying = refl

-- gates are equal whose parts are
pub same-gate : {a a' : Setup} {b b' : List Line} {c c' d d' e e' : List ℕ} {f f' : Server} {g g' : ℕ}
    {h h' i i' : List ℕ}
    → a ≡ a' → b ≡ b' → c ≡ c' → d ≡ d' → e ≡ e' → f ≡ f' → g ≡ g' → h ≡ h' → i ≡ i'
    → gate_of a (queues b c d e (service f g)) h i ≡ gate_of a' (queues b' c' d' e' (service f' g')) h' i'
same-gate p q r s t u v w x = rw (p, q, r, s, t, u, v, w, x)

-- a gate that shows a state is the shown one
pub shows-is : (v : Setup) (s : State) (g : Gate) → Shows v s g → g ≡ shown v s
unfolding shown
shows-is v s g h =
    let q = h.queues in
    same-gate h.setup q.lines.places q.rooms q.global.places q.background.places
    (sym (show-server g.server) ∙ ap show_server q.service.server) q.service.units h.charges
    h.deadlines

-- queues that show the same are the same
pub one-queues : {v : Setup} {s : State} (p q : Queues) → ShowsQueues v s p → ShowsQueues v s q → p ≡ q
one-queues p q h k =
    same (h.lines.places ∙ sym k.lines.places) (h.rooms ∙ sym k.rooms)
    (h.global.places ∙ sym k.global.places) (h.background.places ∙ sym k.background.places)
    (sym (show-server p.service.server) ∙ ap show_server (h.service.server ∙ sym k.service.server)
    ∙ show-server q.service.server)
    (h.service.units ∙ sym k.service.units)
  where
    same : {b b' : List Line} {c c' d d' e e' : List ℕ} {f f' : Server} {g g' : ℕ}
        → b ≡ b' → c ≡ c' → d ≡ d' → e ≡ e' → f ≡ f' → g ≡ g'
        → queues b c d e (service f g) ≡ queues b' c' d' e' (service f' g')
    same q r s t u v = rw (q, r, s, t, u, v)

fits-unpad : (n : ℕ) (l : List ℕ) → Fits n l → unpad (pad n l) ≡ l
fits-unpad n l f = unpad-pad n l (no-unused l (λ x e. omega (arith, f.used x e))) f.short

-- places that show a list hold it
pub list_back : {n : ℕ} {l q : List ℕ} → ShowsList n l q → unpad q ≡ l
list_back {n} {l} h = rw h.places (fits-unpad n l h.fits)

-- READING WHAT IS SHOWN

module _ (v : Setup) (s : State) (g : Gate) (h : Shows v s g) (w : Within s) where
  line-back : (k : ℕ) → unpad (get_or g.lines k blank_line).places ≡ s.lines k
  unfolding unpad
  line-back k =
      by-test (ltb k max_clusters)
      (λ e. rw (
        h.queues.lines.places,
        table_at max_clusters (λ j. record { places = pad max_size (s.lines j) }) k blank_line
            (ltb-true k max_clusters e),
      ) (fits-unpad max_size (s.lines k) (h.queues.lines.fits k)))
      (λ e. rw (
        h.queues.lines.places,
        table-past max_clusters (λ j. record { places = pad max_size (s.lines j) }) k blank_line
            (ltb-false k max_clusters e),
      ) (sym (w.lines k (ltb-false k max_clusters e))))

  charge-back : (c : ℕ) → get_or g.charges c 0 ≡ s.charge c
  charge-back c =
      by-test (ltb c max_clients)
      (λ e. rw h.charges (table_at max_clients s.charge c 0 (ltb-true c max_clients e)))
      (λ e.
      let past = ltb-false c max_clients e in
      rw h.charges (table-past max_clients s.charge c 0 past ∙ sym (w.charge c past)))

  deadline-back : (c : ℕ) → get_or g.deadlines c 0 ≡ s.deadline c
  deadline-back c =
      by-test (ltb c max_clients)
      (λ e. rw h.deadlines (table_at max_clients s.deadline c 0 (ltb-true c max_clients e)))
      (λ e.
      let past = ltb-false c max_clients e in
      rw h.deadlines (table-past max_clients s.deadline c 0 past ∙ sym (w.deadline c past)))

  room_back : (c : ℕ) → ltb c max_clients && member (get_or g.rooms (get_or g.setup.homes c 0) 0) c ≡ s.room c
  room_back c =
      by-test (ltb c max_clients)
      (λ e.
      let k : ℕ = get_or v.homes c 0 in
      let inK : ℕ → ℕ → Bool = λ j i. s.room i && eqb (get_or v.homes i 0) j in
      rw (
        e,
        h.setup,
        h.queues.rooms,
        table_at max_clusters (λ j. set_of max_clients (inK j)) k 0 (h.fine.homes c),
        member-set_of max_clients (inK k) c (ltb-true c max_clients e),
        eq-eqb k k refl,
      ) (and-true (s.room c)))
      (λ e. rw e (sym (w.room c (ltb-false c max_clients e))))

  pub state-back : state_of g ≡ s
  unfolding state_of
  state-back =
      same (fun_ext line-back) (fun_ext room_back)
      (list_back h.queues.global)
      (list_back h.queues.background)
      h.queues.service.server h.queues.service.units (fun_ext charge-back)
      (fun_ext deadline-back)
    where
      same : {a a' : ℕ → List ℕ} {b b' : ℕ → Bool} {c c' d d' : List ℕ} {e e' : rules.Server} {f f' : ℕ}
          {x x' y y' : ℕ → ℕ}
          → a ≡ a' → b ≡ b' → c ≡ c' → d ≡ d' → e ≡ e' → f ≡ f' → x ≡ x' → y ≡ y'
          → ◌≡◌ {A = State}
          (record { lines = a; room = b; global = c; background = d; server = e; units = f; charge = x; deadline = y })
          (record {
            lines = a';
            room = b';
            global = c';
            background = d';
            server = e';
            units = f';
            charge = x';
            deadline = y';
          })
      same p q r s t u v w = rw (p, q, r, s, t, u, v, w)

pub shown-setup : (v : Setup) (s : State) (g : Gate) → g ≡ shown v s → g.setup ≡ v
unfolding shown
shown-setup v s g e = ap (λ (x : Gate). x.setup) e
