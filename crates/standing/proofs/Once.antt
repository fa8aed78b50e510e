-- Seen one by one, nobody twice: the same as a list in which no number stands twice, and its set.
-- Assumes nothing.
use Prim.Native.Nat.{ℕ, ◌<◌}
use mathlib.Core.Path.{◌≡◌}
use mathlib.Core.Bool.{true, cond}
use mathlib.Core.List.{List}
use mathlib.Core.Option.{some, none}
use Rattle.rules.specs.Limits.{max_clients}
use Rattle.rules.specs.Lists.{has}
use Rattle.places.specs.Tests.{distinct}
use Rattle.soundness.specs.Tests.{set_in}
use Rattle.seen.specs.Seen.{seen_from}
use Rattle.seen.proofs.Once.{seen-distinct}

pub seen-once : (l : List ℕ) → ((x : ℕ) → has x l ≡ true → x < max_clients)
    → seen_from 0 l ≡ cond (distinct l) (some (set_in l)) none
unfolding set_in
seen-once l h = seen-distinct l h
