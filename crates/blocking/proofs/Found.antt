-- The highest in rank: it is low, it is found one by one, and there is none where nobody passes.
-- Assumes nothing.
use Prim.Native.Nat.{ℕ, zero, suc, ◌+◌, ◌≤◌, ◌<◌}
use mathlib.Core.Path.{◌≡◌, refl, ap}
use mathlib.Core.Bool.{Bool, true, false, not}
use mathlib.Core.List.{List}
use mathlib.Core.Option.{Option, some, none}
use Rattle.std.specs.Prelude as code
use Rattle.std.specs.Prelude.{Some, None, IfSome, is_some}
use Rattle.std.specs.Option.{ForSome}
use native.Mathlib.Numerals.{add-one}
use native.Mathlib.Omega.{arith}
use lib.Dec.{ltb}
use lib.ListN.{get_or}
use Rattle.rules.specs.Lists.{some_below, higher, highest}
use Rattle.rules.proofs.Tests.{by-test}
use Rattle.blocking.specs.Queue.{found_in, is_nobody, later_of}

-- who is found is below n
abbrev pub Low : ℕ → Option ℕ → Type 0
Low n none = Unit {0}
Low n (some d) = d < n

module _ (rank : ℕ → ℕ → Bool) (p : ℕ → Bool) where
  more : (n : ℕ) (o : Option ℕ) → Low n o → Low (suc n) o
  more n none h = tt
  more n (some d) h = omega arith

  higher-low : (n : ℕ) (o : Option ℕ) → Low n o → higher rank n o < suc n
  higher-low n none h = omega arith
  higher-low n (some d) h = by-test (rank n d) (λ e. rw e (omega arith)) (λ e. rw e (omega arith))

  pub highest-low : (n : ℕ) → Low n (highest rank p n)
  highest-low zero = tt
  highest-low (suc n) =
      by-test (p n)
      (λ e. rw e (higher-low n (highest rank p n) (highest-low n)))
      (λ e. rw e (more n (highest rank p n) (highest-low n)))

  -- nobody is found where nobody passes
  pub highest-none : (n : ℕ) → is_nobody (highest rank p n) ≡ not (some_below p n)
  highest-none zero = refl
  highest-none (suc n) = by-test (p n) (λ e. rw e) (λ e. rw e (highest-none n))

pub low-below : (m n : ℕ) (o : Option ℕ) → m ≤ n → Low m o → Low n o
low-below m n none h l = tt
low-below m n (some d) h l = omega arith

-- what the code has found is below n
pub found-low : (n : ℕ) (o : code.Option ℕ) → Low n (found_in o) → IfSome o (λ a. a < n)
found-low n None l = tt
found-low n (Some a) l = l

pub for-found : (n : ℕ) (o : code.Option ℕ) → Low n (found_in o) → ForSome o (λ a. a < n)
for-found n o l x e = rw e at l

-- BY TIMESTAMPS

-- a is later than b
abbrev pub later_by : List ℕ → ℕ → ℕ → Bool
later_by times a b = ltb (get_or times b 0) (get_or times a 0)

-- of b and the one found before it, the later
later-higher : (times : List ℕ) (b : ℕ) (o : Option ℕ) → later_of times o b ≡ higher (later_by times) b o
later-higher times b none = refl
later-higher times b (some d) = refl

module _ (times : List ℕ) (p : ℕ → Bool) (b : ℕ) where
  -- b is taken, or passed
  pub found-taken : p b ≡ true
      → some (later_of times (highest (later_by times) p b) b) ≡ highest (later_by times) p (b + 1)
  found-taken e = rw (add-one b, e) (ap some (later-higher times b (highest (later_by times) p b)))

  pub found-passed : p b ≡ false → highest (later_by times) p b ≡ highest (later_by times) p (b + 1)
  found-passed e = rw (add-one b, e)

-- what is none is nobody
pub none-nobody : (o : code.Option ℕ) (b : Bool) → is_some o ≡ not b → b ≡ is_nobody (found_in o)
none-nobody None true e = refl
none-nobody None false e = cc
none-nobody (Some a) true e = cc
none-nobody (Some a) false e = refl
