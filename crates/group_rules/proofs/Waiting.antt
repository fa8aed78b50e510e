-- No server waits for itself through others: all that one waits for stand above it on one stack.
-- Assumes nothing.
use Prim.Native.Nat.{ℕ, suc, ◌<◌}
use mathlib.Core.Path.{◌≡◌, refl, sym, ap, ◌∙◌, subst}
use mathlib.Core.Bool.{true, false, ◌&&◌}
use mathlib.Core.List.{List, [], ◌∷◌}
use native.Mathlib.Omega.{arith}
use lib.Dec.{eqb}
use lib.ListN.{length}
use borrow.Author.Tests.{eqb-true, lt-ltb}
use Rattle.rules.specs.Lists.{has, Distinct}
use Rattle.rules.proofs.Tests.{by-test, clash, not_so, both_true, either_true}
use Rattle.rules.proofs.Lists.{has-tail}
use Rattle.places.specs.Places.{place_of}
use Rattle.group_rules.specs.declared.Group.{Group}
use Rattle.group_rules.specs.Limits.{max_contexts}
use Rattle.group_rules.specs.Groups.{calls_of, queued}
use Rattle.group_rules.specs.Blocking.{committed}
use Rattle.group_rules.specs.History.{next, awaits, Chain}
use Rattle.group_rules.proofs.Searches.{some-found}
use Rattle.group_rules.proofs.Facts.{Facts, queued-low}
use Rattle.group_rules.proofs.Committed.{committed-queued, one-stack}

-- ONE DIRECTLY BEFORE ANOTHER

pub next-first : (q r : ℕ) (l : List ℕ) → next q r l ≡ true → has q l ≡ true
next-first q r [] e = e
next-first q r (x ∷ []) e = clash e refl
next-first q r (x ∷ y ∷ l) e =
    either_true (eqb x q && eqb y r) (next q r (y ∷ l)) e
    (λ z. rw (both_true (eqb x q) (eqb y r) z).0)
    (λ z. has-tail q x (y ∷ l) (next-first q r (y ∷ l) z))

pub next-second : (q r : ℕ) (l : List ℕ) → next q r l ≡ true → has r l ≡ true
next-second q r [] e = e
next-second q r (x ∷ []) e = clash e refl
next-second q r (x ∷ y ∷ l) e =
    either_true (eqb x q && eqb y r) (next q r (y ∷ l)) e
    (λ z. has-tail r x (y ∷ l) (rw (both_true (eqb x q) (eqb y r) z).1))
    (λ z. has-tail r x (y ∷ l) (next-second q r (y ∷ l) z))

next-deep : (q r : ℕ) (l : List ℕ) → next q r l ≡ true → 1 < length l
next-deep q r [] e = clash e refl
next-deep q r (x ∷ []) e = clash e refl
next-deep q r (x ∷ y ∷ l) e = omega arith

-- a member of the rest is not the first
place_rest : (x z : ℕ) (l : List ℕ) → has x l ≡ false → has z l ≡ true → place_of z (x ∷ l) ≡ suc (place_of z l)
unfolding place_of
place_rest x z l n h =
    by-test (eqb x z)
    (λ e. clash (subst (λ (y : ℕ). has y l ≡ true) (sym (eqb-true x z e)) h) n)
    (λ e. rw e)

-- it stands one place before it
next_place : (q r : ℕ) (l : List ℕ) → Distinct l → next q r l ≡ true → place_of r l ≡ suc (place_of q l)
unfolding place_of
next_place q r [] d e = clash e refl
next_place q r (x ∷ []) d e = clash e refl
next_place q r (x ∷ y ∷ l) d e =
    either_true (eqb x q && eqb y r) (next q r (y ∷ l)) e
    (λ z. let w = both_true (eqb x q) (eqb y r) z in
    place_rest x r (y ∷ l) d.0 (rw w.1) ∙ (rw (w.0, w.1)))
    (λ z. place_rest x r (y ∷ l) d.0 (next-second q r (y ∷ l) z)
    ∙ ap suc (next_place q r (y ∷ l) d.1 z)
    ∙ ap suc (sym (place_rest x q (y ∷ l) d.0 (next-first q r (y ∷ l) z))))

-- SERVERS THAT WAIT

module _ (g : Group) (f : Facts g) where
  -- the context for which q has called r is committed
  waits-in {ℓ} : {X : Type ℓ} (q r : ℕ) → awaits g q r ≡ true
      → ((c : ℕ) → committed g c ≡ true → next q r (calls_of g c) ≡ true → X) → X
  unfolding awaits
  waits-in q r e k =
      some-found (λ (c : ℕ). next q r (calls_of g c)) max_contexts e λ c l n.
      let long = next-deep q r (calls_of g c) n in
      let there : queued g c ≡ true = lt-ltb 0 (length (calls_of g c)) (omega arith) in
      k c (((f.each c l).inside there).alone long) n

  -- whoever it waits for, directly or through others, stands above it on the same stack
  above : (c : ℕ) → committed g c ≡ true → (l : List ℕ) (q : ℕ) → Chain g q l → has q (calls_of g c) ≡ true
      → (r : ℕ) → has r l ≡ true → place_of q (calls_of g c) < place_of r (calls_of g c)
  above c can [] q h i r e = clash e refl
  above c can (x ∷ l) q h i r e =
      waits-in q x h.0 λ d k n.
      let same = one-stack g f d c q k can (next-first q x (calls_of g d) n) i in
      let here : next q x (calls_of g c) ≡ true = subst (λ (b : ℕ). next q x (calls_of g b) ≡ true) same n in
      let once = ((f.each c (queued-low g c f.stacks (committed-queued g c can))
      ).inside (committed-queued g c can)).once in
      let place = next_place q x (calls_of g c) once here in
      either_true (eqb x r) (has r l) e
      (λ y. let is : place_of r (calls_of g c) ≡ place_of x (calls_of g c)
      = ap (λ (z : ℕ). place_of z (calls_of g c)) (sym (eqb-true x r y)) in
      omega (arith, place))
      (λ y. let more = above c can l x h.1 (next-second q x (calls_of g c) here) r y in omega (arith, place))

  -- No server waits for itself through others.
  pub no-cycle : (q : ℕ) (l : List ℕ) → Chain g q l → has q l ≡ false
  no-cycle q [] h = refl
  no-cycle q (x ∷ l) h =
      not_so (has q (x ∷ l)) λ e.
      waits-in q x h.0 λ c k n.
      let less = above c k (x ∷ l) q h (next-first q x (calls_of g c) n) q e in omega arith
