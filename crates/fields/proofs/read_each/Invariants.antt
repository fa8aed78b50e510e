-- `fields::read_each` meets its contract. The loop's invariant: n fields are placed, whatever is read of each, and the
-- next starts at byte a.
-- Assumes nothing.
use Rattle.std.proofs.Common.{length, ◌+◌, ◌-◌, ◌≡◌, ℕ, List, []}
use Rattle.std.specs.Fn.{FnReturnsAt}
use Rattle.fields.proofs.Placed.{Reading}
use Rattle.fields.proofs.read_each.Given as goal

abbrev pub invariant-loop-a : goal.invariant-loop-a
invariant-loop-a g l =
    Reading {A = ℕ} 0 l.separator length l.s [] [] l.n l.a
    × ((f : List ℕ → _) (d : _) → ((t : List ℕ) (x : _) → FnReturnsAt g.F.Fn l.read t x → x ≡ f t)
    → Reading d l.separator f l.s l.initial.v l.v l.n l.a)

abbrev pub decreases-loop-a : goal.decreases-loop-a
decreases-loop-a g l = length l.s + 1 - l.a
