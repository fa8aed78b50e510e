-- What holding arrays of tickets and of stacks tells of their lengths.
-- Assumes nothing.
use Prim.Native.Nat.{ℕ}
use mathlib.Core.Path.{◌≡◌}
use mathlib.Core.List.{List}
use lib.ListN.{length}
use mir.Val.{Val}
use denote.Laws.{Is}
use denote.Array.{Array}
use denote.Struct.Declared.{row}
use Rattle.group_rules.specs.declared.Tickets.{Tickets}
use Rattle.group_rules.specs.declared.Stack.{Stack}
use Rattle.group_rules.specs.contracts.Tickets as tickets
use Rattle.group_rules.specs.contracts.Stack as stack

pub tickets-length : (ts : List Tickets) (n : ℕ) (vs : List Val) → Is (Array (row tickets.the_type) n) ts vs
    → length ts ≡ n
tickets-length ts n vs h = h.1.0.1

pub stacks-length : (ss : List Stack) (n : ℕ) (vs : List Val) → Is (Array (row stack.the_type) n) ss vs
    → length ss ≡ n
stacks-length ss n vs h = h.1.0.1
