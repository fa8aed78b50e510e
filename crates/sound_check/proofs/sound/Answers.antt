-- `sound_check::sound` meets its contract.
-- Assumes nothing.
use Prim.Native.Nat.{ℕ}
use mathlib.Core.Path.{◌≡◌, refl, sym, ap, ◌∙◌}
use mathlib.Core.Bool.{true, ◌&&◌}
use mathlib.Core.Option.{some}
use native.Mathlib.Omega.{arith}
use lib.Dec.{leb}
use borrow.Author.Tests.{lt-leb, le-leb}
use borrow.Author.Rules.{rules}
use Rattle.rules.specs.Limits.{max_clusters}
use Rattle.rules.specs.State.{cap_of}
use Rattle.sets.specs.Sets.{member}
use Rattle.gate.specs.declared.Gate.{Gate}
use Rattle.gate.specs.Shown.{setup_of, server_of}
use Rattle.parts.specs.Shows.{Homes}
use Rattle.soundness.specs.Clauses.{setup_sound, sound_of}
use Rattle.setup_check.specs.declared.Clients.{Clients}
use Rattle.seen.specs.Seen.{seen_of, queue_seen}
use Rattle.standing.specs.Answers.{lines_seen, rooms_fit}
use Rattle.fronts.specs.Answers.{firsts_of, global_fits, queued_of, server_fits}
use Rattle.setup_check.proofs.Members.{clients}
use Rattle.sound_check.proofs.Rest.{Lengths, passes, fails, accounts_fit, rest_fits}
use Rattle.sound_check.proofs.Rest.{fine, by_lines, by-queue, by-rest}
use Rattle.sound_check.proofs.sound.Goals as goal

-- THE STAGES, FOR ANY GATE

-- everyone in a line or in the background queue has been seen, each once
module _ (g : Gate) (ok : setup_sound g.setup ≡ true) (n : Lengths g) (found : Clients)
    (same : found ≡ clients g.setup (fine g ok)) {t z : ℕ} (p : some t ≡ lines_seen g.setup.sizes found.own g.lines)
    (q : some z ≡ queue_seen (member found.effort) g.background t) where
  -- what is left to test is the rest
  by-sets : {fronts queue : ℕ} → fronts ≡ firsts_of g.lines max_clusters
      → queue ≡ queued_of g.setup.homes found.own (server_of g.server) fronts
      → sound_of g ≡ rest_fits g found fronts queue t z
  by-sets = by-rest g ok n found same p q

  -- what is left behind the tests of the rooms and of the global queue
  by-global : {fronts queue : ℕ} → fronts ≡ firsts_of g.lines max_clusters
      → queue ≡ queued_of g.setup.homes found.own (server_of g.server) fronts
      → rooms_fit g.setup.sizes found.own z g.lines g.rooms ≡ true → global_fits queue g.global ≡ true
      → sound_of g ≡ server_fits found g.setup.homes g.rooms fronts z g.units (server_of g.server)
      && (leb g.units (cap_of (setup_of g.setup) (server_of g.server)) && accounts_fit g found.real t)
  by-global f k rooms queued = by-sets f k ∙ passes refl rooms ∙ passes refl queued

  -- and behind the test of the server
  by-server : {fronts queue cap : ℕ} → fronts ≡ firsts_of g.lines max_clusters
      → queue ≡ queued_of g.setup.homes found.own (server_of g.server) fronts
      → rooms_fit g.setup.sizes found.own z g.lines g.rooms ≡ true → global_fits queue g.global ≡ true
      → server_fits found g.setup.homes g.rooms fronts z g.units (server_of g.server) ≡ true
      → cap ≡ cap_of (setup_of g.setup) (server_of g.server)
      → sound_of g ≡ leb g.units cap && accounts_fit g found.real t
  by-server f k rooms queued server e = rw e (by-global f k rooms queued ∙ passes refl server)

-- THE ANSWERS

pub returns-then-not-setup_sound : goal.returns-then-not-setup_sound
unfolding sound_of
returns-then-not-setup_sound c =
    rw (sym c.setup_sound.ensures ∙ c.if-not-setup_sound.true)

pub clients_below-clients-requires : goal.clients_below-clients-requires
clients_below-clients-requires c =
    let ok : setup_sound c.args.g.setup ≡ true = sym c.setup_sound.ensures ∙ c.if-not-setup_sound.false in
    let homes : Homes c.args.g.setup.homes = record { rows = search rules; low = (fine c.args.g ok).homes } in
    (omega (arith, c.from.ensures, (fine c.args.g ok).clients), homes)

pub returns-in_default : goal.returns-in_default
returns-in_default c =
    let ok : setup_sound c.args.g.setup ≡ true = sym c.setup_sound.ensures ∙ c.if-not-setup_sound.false in
    let n : Lengths c.args.g =
    record { background = search rules; global = search rules; charges = search rules; deadlines = search rules } in
    let same : c.clients_below-clients.result ≡ clients c.args.g.setup (fine c.args.g ok) =
    rw c.from.ensures at c.clients_below-clients.ensures in
    sym (by_lines c.args.g ok n c.clients_below-clients.result same
    (sym (ap seen_of c.in_default.is) ∙ c.lines_seen.ensures))

pub returns-in_default-queue_seen : goal.returns-in_default-queue_seen
returns-in_default-queue_seen c =
    let ok : setup_sound c.args.g.setup ≡ true = sym c.setup_sound.ensures ∙ c.if-not-setup_sound.false in
    let n : Lengths c.args.g =
    record { background = search rules; global = search rules; charges = search rules; deadlines = search rules } in
    let same : c.clients_below-clients.result ≡ clients c.args.g.setup (fine c.args.g ok) =
    rw c.from.ensures at c.clients_below-clients.ensures in
    let p = sym (ap seen_of c.in-Some.is) ∙ c.lines_seen.ensures in
    sym (by-queue c.args.g ok n c.clients_below-clients.result same p
    (sym (ap seen_of c.in_default-queue_seen.is) ∙ c.queue_seen.ensures))

pub returns-then-not-rooms_sound : goal.returns-then-not-rooms_sound
returns-then-not-rooms_sound c =
    let ok : setup_sound c.args.g.setup ≡ true = sym c.setup_sound.ensures ∙ c.if-not-setup_sound.false in
    let n : Lengths c.args.g =
    record { background = search rules; global = search rules; charges = search rules; deadlines = search rules } in
    let same : c.clients_below-clients.result ≡ clients c.args.g.setup (fine c.args.g ok) =
    rw c.from.ensures at c.clients_below-clients.ensures in
    let p = sym (ap seen_of c.in-Some.is) ∙ c.lines_seen.ensures in
    let q = sym (ap seen_of c.in-Some-queue_seen.is) ∙ c.queue_seen.ensures in
    sym (by-sets c.args.g ok n c.clients_below-clients.result same p q refl refl
    ∙ fails c.rooms_sound.ensures c.if-not-rooms_sound.true _)

pub queued-queue-requires : goal.queued-queue-requires
queued-queue-requires c =
    let ok : setup_sound c.args.g.setup ≡ true = sym c.setup_sound.ensures ∙ c.if-not-setup_sound.false in
    let homes : Homes c.args.g.setup.homes = record { rows = search rules; low = (fine c.args.g ok).homes } in
    homes

pub returns-then-not-global_sound : goal.returns-then-not-global_sound
returns-then-not-global_sound c =
    let ok : setup_sound c.args.g.setup ≡ true = sym c.setup_sound.ensures ∙ c.if-not-setup_sound.false in
    let n : Lengths c.args.g =
    record { background = search rules; global = search rules; charges = search rules; deadlines = search rules } in
    let same : c.clients_below-clients.result ≡ clients c.args.g.setup (fine c.args.g ok) =
    rw c.from.ensures at c.clients_below-clients.ensures in
    let p = sym (ap seen_of c.in-Some.is) ∙ c.lines_seen.ensures in
    let q = sym (ap seen_of c.in-Some-queue_seen.is) ∙ c.queue_seen.ensures in
    let rooms = sym c.rooms_sound.ensures ∙ c.if-not-rooms_sound.false in
    sym (by-sets c.args.g ok n c.clients_below-clients.result same p q c.firsts-first.ensures c.queued-queue.ensures
    ∙ passes refl rooms ∙ fails c.global_sound.ensures c.if-not-global_sound.true _)

pub server_sound-requires : goal.server_sound-requires
server_sound-requires c =
    let ok : setup_sound c.args.g.setup ≡ true = sym c.setup_sound.ensures ∙ c.if-not-setup_sound.false in
    let homes : Homes c.args.g.setup.homes = record { rows = search rules; low = (fine c.args.g ok).homes } in
    homes

pub returns-then-not-server_sound : goal.returns-then-not-server_sound
returns-then-not-server_sound c =
    let ok : setup_sound c.args.g.setup ≡ true = sym c.setup_sound.ensures ∙ c.if-not-setup_sound.false in
    let n : Lengths c.args.g =
    record { background = search rules; global = search rules; charges = search rules; deadlines = search rules } in
    let same : c.clients_below-clients.result ≡ clients c.args.g.setup (fine c.args.g ok) =
    rw c.from.ensures at c.clients_below-clients.ensures in
    let p = sym (ap seen_of c.in-Some.is) ∙ c.lines_seen.ensures in
    let q = sym (ap seen_of c.in-Some-queue_seen.is) ∙ c.queue_seen.ensures in
    let rooms = sym c.rooms_sound.ensures ∙ c.if-not-rooms_sound.false in
    let queued = sym c.global_sound.ensures ∙ c.if-not-global_sound.false in
    sym (by-global c.args.g ok n c.clients_below-clients.result same p q c.firsts-first.ensures c.queued-queue.ensures
    rooms queued ∙ fails c.server_sound.ensures c.if-not-server_sound.true _)

pub returns-then-g-cap : goal.returns-then-g-cap
returns-then-g-cap c =
    let ok : setup_sound c.args.g.setup ≡ true = sym c.setup_sound.ensures ∙ c.if-not-setup_sound.false in
    let n : Lengths c.args.g =
    record { background = search rules; global = search rules; charges = search rules; deadlines = search rules } in
    let same : c.clients_below-clients.result ≡ clients c.args.g.setup (fine c.args.g ok) =
    rw c.from.ensures at c.clients_below-clients.ensures in
    let p = sym (ap seen_of c.in-Some.is) ∙ c.lines_seen.ensures in
    let q = sym (ap seen_of c.in-Some-queue_seen.is) ∙ c.queue_seen.ensures in
    let rooms = sym c.rooms_sound.ensures ∙ c.if-not-rooms_sound.false in
    let queued = sym c.global_sound.ensures ∙ c.if-not-global_sound.false in
    let server = sym c.server_sound.ensures ∙ c.if-not-server_sound.false in
    sym (by-server c.args.g ok n c.clients_below-clients.result same p q c.firsts-first.ensures c.queued-queue.ensures
    rooms queued server (c.from-cap.ensures ∙ c.cap_of.ensures)
    ∙ fails refl (lt-leb _ _ c.if-g-cap.true) _)

pub returns-then-not-charges_sound : goal.returns-then-not-charges_sound
returns-then-not-charges_sound c =
    let ok : setup_sound c.args.g.setup ≡ true = sym c.setup_sound.ensures ∙ c.if-not-setup_sound.false in
    let n : Lengths c.args.g =
    record { background = search rules; global = search rules; charges = search rules; deadlines = search rules } in
    let same : c.clients_below-clients.result ≡ clients c.args.g.setup (fine c.args.g ok) =
    rw c.from.ensures at c.clients_below-clients.ensures in
    let p = sym (ap seen_of c.in-Some.is) ∙ c.lines_seen.ensures in
    let q = sym (ap seen_of c.in-Some-queue_seen.is) ∙ c.queue_seen.ensures in
    let rooms = sym c.rooms_sound.ensures ∙ c.if-not-rooms_sound.false in
    let queued = sym c.global_sound.ensures ∙ c.if-not-global_sound.false in
    let server = sym c.server_sound.ensures ∙ c.if-not-server_sound.false in
    sym (by-server c.args.g ok n c.clients_below-clients.result same p q c.firsts-first.ensures c.queued-queue.ensures
    rooms queued server (c.from-cap.ensures ∙ c.cap_of.ensures)
    ∙ passes refl (le-leb _ _ c.if-g-cap.false) ∙ fails c.charges_sound.ensures c.if-not-charges_sound.true _)

pub deadlines_sound-requires : goal.deadlines_sound-requires
deadlines_sound-requires c =
    let ok : setup_sound c.args.g.setup ≡ true = sym c.setup_sound.ensures ∙ c.if-not-setup_sound.false in
    let homes : Homes c.args.g.setup.homes = record { rows = search rules; low = (fine c.args.g ok).homes } in
    (search rules, homes)

pub returns : goal.returns
returns c =
    let ok : setup_sound c.args.g.setup ≡ true = sym c.setup_sound.ensures ∙ c.if-not-setup_sound.false in
    let n : Lengths c.args.g =
    record { background = search rules; global = search rules; charges = search rules; deadlines = search rules } in
    let same : c.clients_below-clients.result ≡ clients c.args.g.setup (fine c.args.g ok) =
    rw c.from.ensures at c.clients_below-clients.ensures in
    let p = sym (ap seen_of c.in-Some.is) ∙ c.lines_seen.ensures in
    let q = sym (ap seen_of c.in-Some-queue_seen.is) ∙ c.queue_seen.ensures in
    let rooms = sym c.rooms_sound.ensures ∙ c.if-not-rooms_sound.false in
    let queued = sym c.global_sound.ensures ∙ c.if-not-global_sound.false in
    let server = sym c.server_sound.ensures ∙ c.if-not-server_sound.false in
    sym (by-server c.args.g ok n c.clients_below-clients.result same p q c.firsts-first.ensures c.queued-queue.ensures
    rooms queued server (c.from-cap.ensures ∙ c.cap_of.ensures)
    ∙ passes refl (le-leb _ _ c.if-g-cap.false) ∙ passes c.charges_sound.ensures c.if-not-charges_sound.false
    ∙ sym c.deadlines_sound.ensures)
