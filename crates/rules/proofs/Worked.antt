-- Document 01's log by the inequality of demand 3: after each record what client 1 has been charged, what is due, and
-- what both may come to. docs/ARGUMENT.md prints this table.
-- Assumes nothing.
use Prim.Native.Nat.{ℕ, ◌+◌, ◌*◌}
use mathlib.Core.Path.{◌≡◌, refl}
use mathlib.Core.Bool.{false, cond}
use mathlib.Core.List.{List, [], ◌∷◌, map}
use Rattle.rules.specs.Setup.{Setup, service}
use Rattle.rules.specs.Rank.{outranks}
use Rattle.rules.specs.Queues.{refill, queue, pick}
use Rattle.rules.specs.Events.{Event, invoked, ran, replied, aborted, readied}
use Rattle.rules.specs.Step.{answer_by, moved_by, next_by, step_by}
use Rattle.rules.specs.Records.{Record, Heard, event_of, heard_of}
use Rattle.rules.specs.History.{after, said, struck_in_room}
use Rattle.rules.proofs.Kept.{is_it, lower, rounds, due_in, in_the_way}
use Rattle.rules.proofs.Cases.{log_setup, log_records}
use Rattle.rules.proofs.Table.{invokes, runs, replies}

pub record Account : Type 0 where
  pub charge : ℕ
  pub due : ℕ
  pub most : ℕ

abbrev account : ℕ → ℕ → ℕ → Account
account a b m = record { charge = a; due = b; most = m }

module _ (u : Setup) (c : ℕ) where
  -- after a history, as `Kept` has it: in the room, and else
  abbrev account_after : List Event → Account
  account_after h =
      let s = after u h in
      let hit = struck_in_room u c h in
      cond (s.room c)
      (account (s.charge c) (due_in u s c (in_the_way u s c hit) (lower u (outranks u s) c)) (service u + rounds u c))
      (account (s.charge c) (due_in u s c 0 (is_it c)) (service u + 2 * rounds u c + cond hit (service u) 0))

  -- after each record
  abbrev accounts : List Heard → List Heard → List Account
  accounts past [] = []
  accounts past (x ∷ xs) = account_after (said u (x ∷ past)) ∷ accounts (x ∷ past) xs

pub log-accounts : accounts log_setup 1 [] (map (heard_of 1 false) log_records)
    ≡ account 0 0 30 ∷ account 0 0 30 ∷ account 0 20 20 ∷ account 10 10 20 ∷ account 10 10 20 ∷ account 20 0 20
    ∷ account 20 0 20 ∷ account 20 0 20 ∷ account 20 20 40 ∷ account 30 10 40 ∷ account 30 10 40 ∷ account 40 0 40
    ∷ account 40 0 40 ∷ []
unfolding event_of answer_by next_by moved_by step_by outranks refill queue pick invoked ran replied aborted readied
log-accounts = refl

-- The same without the abort.
abbrev pub unaborted_records : List Record
unaborted_records =
    invokes 3 ∷ invokes 2 ∷ invokes 1 ∷ runs 10 ∷ replies ∷ runs 10 ∷ invokes 0 ∷ replies ∷ runs 10 ∷
    replies ∷ runs 10 ∷ replies ∷ []

pub unaborted-accounts : accounts log_setup 1 [] (map (heard_of 1 false) unaborted_records)
    ≡ account 0 0 30 ∷ account 0 0 30 ∷ account 0 20 20 ∷ account 10 10 20 ∷ account 10 10 20 ∷ account 20 0 20
    ∷ account 20 0 20 ∷ account 20 0 20 ∷ account 20 0 20 ∷ account 20 10 30 ∷ account 30 0 30 ∷ account 30 0 30 ∷ []
unfolding event_of answer_by next_by moved_by step_by outranks refill queue pick invoked ran replied aborted readied
unaborted-accounts = refl
