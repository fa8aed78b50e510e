-- The fronts, as a set, in the global queue and in service: what the functions of this crate answer.
-- Assumes nothing.
use Rattle.std.specs.Prelude.{ℕ, Bool, true, false, ◌&&◌, List, eqb, get_or}
use Rattle.std.proofs.Math.Option.{Option, some, none}
use Rattle.rules.specs.Limits.{max_clients}
use Rattle.rules.specs.Lists.{some_below}
use Rattle.rules.specs.State.{Server, idle, front, best, spent, tidying}
use Rattle.sets.specs.Sets.{member, set_of, without_of, less_of}
use Rattle.gate.specs.declared.Line.{Line}
use Rattle.gate.specs.Shown.{blank_line}
use Rattle.setup_check.specs.declared.Clients.{Clients}
use Rattle.seen.specs.Seen.{queue_seen}

-- the test of what is seen, if all is sound there
abbrev pub then_test : Option ℕ → (ℕ → Bool) → Bool
then_test none f = false
then_test (some s) f = f s

-- THE GLOBAL QUEUE

-- the clients at the first place of one of the first n lines
unfoldable pub firsts_of : List Line → ℕ → ℕ
firsts_of ls n = set_of max_clients (λ (c : ℕ). some_below (λ (k : ℕ). eqb (get_or (get_or ls k blank_line).places 0 0) c) n)

-- of the fronts, those to be in the global queue
abbrev pub queued_of : List ℕ → List ℕ → Server → ℕ → ℕ
queued_of homes own idle fronts = fronts
queued_of homes own (front c) fronts = without_of fronts c
queued_of homes own (best c) fronts = fronts
queued_of homes own (spent c) fronts = less_of fronts (get_or own (get_or homes c 0) 0)
queued_of homes own tidying fronts = fronts

-- the queue holds each of them once, and nobody else
abbrev pub global_fits : ℕ → List ℕ → Bool
global_fits fronts q = then_test (queue_seen (member fronts) q 0) (λ (t : ℕ). eqb t fronts)

-- THE SERVER

abbrev pub server_fits : Clients → List ℕ → List ℕ → ℕ → ℕ → ℕ → Server → Bool
server_fits cs homes rooms fronts standing units idle = eqb units 0 && eqb standing 0
server_fits cs homes rooms fronts standing units (front c) = member fronts c
server_fits cs homes rooms fronts standing units (best c) = member (less_of cs.effort standing) c
server_fits cs homes rooms fronts standing units (spent c) =
    member (less_of (less_of (get_or cs.own (get_or homes c 0) 0) standing) (get_or rooms (get_or homes c 0) 0)) c
server_fits cs homes rooms fronts standing units tidying = true
