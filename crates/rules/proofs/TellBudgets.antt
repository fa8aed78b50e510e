-- An order and the use that is made of it: document 01's own log uses up the budget of document 01's own quote, and
-- wrong readings of what it is to keep to an order are told apart.
-- Assumes nothing.
use Prim.Native.Nat.{◌+◌}
use mathlib.Core.Path.{◌≡◌, refl}
use mathlib.Core.List.{[], ◌∷◌}
use native.Mathlib.Omega.{arith}
use lib.IntN.{pos, nat_abs}
use Rattle.rules.specs.Rank.{outranks}
use Rattle.rules.specs.Queues.{refill, queue, pick}
use Rattle.rules.specs.Events.{invoked, ran, replied, aborted, readied}
use Rattle.rules.specs.Step.{answer_by, moved_by, next_by, step_by}
use Rattle.rules.specs.Records.{event_of}
use Rattle.rules.specs.History.{calls}
use Rattle.rules.specs.Quote.{Order, quote}
use Rattle.rules.specs.Budgets.{Use, KeepsLine, Keeps, charged_for}
use Rattle.rules.proofs.Cases.{one_line, log_setup, log_records, log-accepted}
use Rattle.rules.proofs.Table.{past}

-- quote e 100, p 140, m 1, K 1, one line N 1, L 10, W 0
abbrev pub log_order : Order
log_order = one_line 100 140 1 1 1 (pos 10)

-- client 1 of the log
abbrev pub log_use : Use
log_use = record { setup = log_setup; client = 1; events = past log_setup log_records }

called-once : calls log_setup 1 (past log_setup log_records) ≡ 1
unfolding event_of answer_by next_by moved_by step_by outranks refill queue pick invoked ran replied aborted readied
called-once = refl

pub log-keeps : Keeps log_order (log_use ∷ [])
log-keeps = (
  record {
    gate = log-accepted;
    real = refl;
    size = refl;
    clusters = refl;
    cap = refl;
    tidy = refl;
    within = omega (arith, called-once);
  },
  tt,
)

-- its 40 units and e are all of the budget
pub budget-used-up : nat_abs log_order.work + charged_for (log_use ∷ []) ≡ (quote log_order).budget
unfolding quote event_of answer_by next_by moved_by step_by outranks refill queue pick invoked ran replied aborted readied
budget-used-up = refl

-- A line of no calls does not allow its one call; nor does one for another m, K, L or W fit its gate.
pub calls-passed : KeepsLine 1 1 0 10 0 log_use → ⊥
calls-passed k = omega (arith, k.within, called-once)

pub another-size : KeepsLine 2 1 1 10 0 log_use → ⊥
another-size k = omega (arith, k.size)

pub another-count : KeepsLine 1 2 1 10 0 log_use → ⊥
another-count k = omega (arith, k.clusters)

pub another-cap : KeepsLine 1 1 1 9 0 log_use → ⊥
another-cap k = omega (arith, k.cap)

pub another-tidy : KeepsLine 1 1 1 10 1 log_use → ⊥
another-tidy k = omega (arith, k.tidy)

-- A use a line: neither a line without one nor a use without a line.
pub use-missing : Keeps log_order [] → ⊥
use-missing k = k

pub line-missing : Keeps log_order (log_use ∷ log_use ∷ []) → ⊥
line-missing k = k.1
