-- The fields of the contexts by timestamps, sets and stacks, as the code writes them one by one.
-- Assumes nothing.
use Prim.Native.Nat.{ℕ, zero, suc, ◌≤◌}
use native.Mathlib.Omega.{arith}
use mathlib.Core.Path.{◌≡◌, refl, ap, ap₂}
use mathlib.Core.List.{List, [], ◌++◌}
use lib.ListN.{get_or}
use Rattle.group_rules.specs.declared.Stack.{Stack}
use Rattle.group_rules.specs.declared.Group.{Group}
use Rattle.group_rules.specs.Limits.{max_contexts}
use Rattle.group_rules.specs.Groups.{no_calls}
use Rattle.blocking.specs.Queue.{SetsOf}
use Rattle.blocking.specs.Delegates.{delegate_in}
use Rattle.blocking.proofs.Delegates.{delegate-in}
use Rattle.group_tells.specs.Tells.{field_text, first_fields}

-- the fields of the first n contexts
unfoldable pub first_in : List ℕ → List ℕ → List Stack → ℕ → List ℕ
first_in times sets stacks zero = []
first_in times sets stacks (suc n) =
    first_in times sets stacks n ++ field_text (delegate_in times sets (get_or stacks n no_calls).places n)

pub first-in : (g : Group) (sets : List ℕ) → SetsOf g.tickets g.stacks sets
    → (n : ℕ) → n ≤ max_contexts → first_in g.times sets g.stacks n ≡ first_fields g n
unfolding first_in first_fields
first-in g sets is zero h = refl
first-in g sets is (suc n) h =
    ap₂ (λ (s t : List ℕ). s ++ t) (first-in g sets is n (omega arith))
    (ap field_text (delegate-in g sets is n (omega arith)))
