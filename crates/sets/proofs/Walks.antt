-- A set that is walked by its members: those passed are the ones that are not left.
-- Assumes nothing.
use Prim.Native.Nat.{ℕ, ◌^◌, ◌<◌}
use mathlib.Core.Bool.{Bool, true, false, not, ◌&&◌}
use mathlib.Core.Path.{◌≡◌, refl, sym, ◌∙◌}
use native.Mathlib.Omega.{arith}
use lib.Dec.{eqb, ltb}
use borrow.Author.Tests.{eqb-true, ltb-false, ltb-true}
use Rattle.rules.specs.Limits.{max_clients}
use Rattle.rules.specs.Lists.{upd}
use Rattle.rules.proofs.Tests.{by-test, clash, upd-at}
use Rattle.sets.specs.Sets.{member, without_of}
use Rattle.sets.proofs.Bits.{member-none, member-past}
use Rattle.sets.proofs.Laws.{member-set_of}

-- a word that is not 0
pub some_left : (s : ℕ) → (s ≡ 0 → ⊥) → 0 < s
some_left s n = omega arith

-- A SET WITHOUT ONE MEMBER

-- who is out of it: c, or who was out
pub left_out {ℓ} : {X : Type ℓ} (s c d : ℕ) → d < max_clients → member (without_of s c) d ≡ false → (d ≡ c → X)
    → (member s d ≡ false → X) → X
left_out {X} s c d b e f g =
    upd-at (λ y. y ≡ false → X) (member s) c false d (λ q h. f q) (λ q h. g h)
    (sym (member-set_of max_clients (upd (member s) c false) d b) ∙ e)

-- who is in it was in
pub still-in : (s c d : ℕ) → d < max_clients → member (without_of s c) d ≡ true → member s d ≡ true
still-in s c d b e =
    upd-at (λ y. y ≡ true → member s d ≡ true) (member s) c false d (λ q h. clash h refl) (λ q h. h)
    (sym (member-set_of max_clients (upd (member s) c false) d b) ∙ e)

-- THOSE PASSED

-- those of s that are not left
abbrev pub passed : ℕ → ℕ → ℕ → Bool
passed s left d = member s d && not (member left d)

pub passed_none : (s d : ℕ) → passed s s d ≡ false
passed_none s d = by-test (member s d) (λ e. rw e) (λ e. rw e)

pub passed-more : (s left c d : ℕ) → s < 2 ^ max_clients → member s c ≡ true
    → upd (passed s left) c true d ≡ passed s (without_of left c) d
passed-more s left c d w e =
    by-test (ltb d max_clients)
    (λ l. rw (member-set_of max_clients (upd (member left) c false) d (ltb-true d max_clients l))
    (by-test (eqb d c) (λ f. rw (f, eqb-true d c f, e)) (λ f. rw f)))
    (λ l.
    let out : member s d ≡ false = member-past max_clients s d w (ltb-false d max_clients l) in
    by-test (eqb d c) (λ f. clash e (rw (← eqb-true d c f) out)) (λ f. rw (f, out)))

pub passed-all : (s d : ℕ) → passed s 0 d ≡ member s d
passed-all s d = rw (member-none d) (by-test (member s d) (λ e. rw e) (λ e. rw e))
