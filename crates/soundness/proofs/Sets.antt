-- The set of the clients that pass a test, and of those in a list.
-- Assumes nothing.
use Prim.Native.Nat.{ℕ, ◌<◌}
use mathlib.Core.Path.{◌≡◌, sym, ◌∙◌}
use mathlib.Core.Bool.{Bool, true}
use mathlib.Core.List.{List}
use native.Mathlib.Omega.{arith}
use lib.Dec.{ltb}
use borrow.Author.Tests.{ltb-true, ltb-false}
use Rattle.rules.specs.Limits.{max_clients}
use Rattle.rules.specs.Lists.{has}
use Rattle.rules.proofs.Tests.{by-test, not_so}
use Rattle.sets.specs.Sets.{member, set_of}
use Rattle.sets.proofs.Laws.{member-set_of, member-set_of-past}
use Rattle.soundness.specs.Tests.{set_in}

-- its members are those that pass the test, if no number past the last client does
pub members : (p : ℕ → Bool) → ((x : ℕ) → p x ≡ true → x < max_clients) → (j : ℕ)
    → member (set_of max_clients p) j ≡ p j
members p h j =
    by-test (ltb j max_clients)
    (λ e. member-set_of max_clients p j (ltb-true j max_clients e))
    (λ e.
    let past = ltb-false j max_clients e in
    member-set_of-past max_clients p j past ∙ sym (not_so (p j) (λ q. omega (arith, h j q))))

-- those of the list
pub set-has : (l : List ℕ) → ((x : ℕ) → has x l ≡ true → x < max_clients) → (j : ℕ) → member (set_in l) j ≡ has j l
unfolding set_in
set-has l = members (λ c. has c l)
