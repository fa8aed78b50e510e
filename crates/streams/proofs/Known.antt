-- What a read behind others does to the bytes that an input still has, where those are known.
-- Assumes nothing.
use Rattle.std.proofs.Common.{ℕ, ◌+◌, ◌≤◌, ◌<◌, ◌≡◌, zero, suc, List, ◌++◌, length, take}
use Rattle.std.proofs.Common.{sym, ap, ◌∙◌, subst, arith, Result, Ok, Err}
use Rattle.std.specs.declared.option.Option.{Option}
use Rattle.std.specs.declared.ops.ControlFlow.{ControlFlow}
use Rattle.std.specs.declared.ops.ControlFlow.TheVariants.{Continue}
use Rattle.std.specs.Io.{ReadsAtMost}
use Rattle.std.specs.Io.KnownBytes.{Consumes}
use Rattle.std.proofs.KnownBytes.{Consumes-trans}
use Rattle.std.proofs.Math.Dec.{eqb-suc-zero}
use lib.Seq.{take-append-add, take-append-le, length-take-le}
use Rattle.streams.specs.declared.Failure.{Failure}
use Rattle.streams.specs.Reads.{Reads, standing_after}

-- what is held, and what came behind it
joined : (n k : ℕ) (room part rest : List ℕ) → n ≤ length room → k ≤ length part
    → take n room ++ take k part ≡ take (n + k) (take n room ++ (part ++ rest))
joined n k room part rest few fits =
    ap (λ l. take n room ++ l) (sym (take-append-le k part rest fits))
    ∙ sym (take-append-add (take n room) (part ++ rest) k)
    ∙ ap (λ m. take (m + k) (take n room ++ (part ++ rest))) (length-take-le n room few)

-- what is held, and what came behind it, is what the input has lost
pub both-lost : (a b c : Option (List ℕ)) (n k : ℕ) (room part rest : List ℕ) → n ≤ length room → k ≤ length part
    → Consumes a b (take n room) → Consumes b c (take k part)
    → Consumes a c (take (n + k) (take n room ++ (part ++ rest)))
both-lost a b c n k room part rest few fits held came =
    subst (Consumes a c) (joined n k room part rest few fits) (Consumes-trans a b c _ _ held came)

-- where there may be more, some came
some-came : (n m k : ℕ) → Continue m ≡ standing_after n (Ok k) → (m ≡ n + k) × (0 < k)
some-came n m zero e = let z : ◌≡◌ {A = ℕ} 0 1 = cc in absurd (omega arith)
some-came n m (suc k) e =
    let same : ◌≡◌ {A = ControlFlow (Result ℕ Failure) ℕ} (Continue m) (Continue (n + suc k)) =
    rw (eqb-suc-zero k) at e in
    let sum : m ≡ n + suc k = cc in (sum, omega arith)

-- where there may be more, all that came stands in the room, and what is held then is what the input has lost
pub more-lost : (a b c : Option (List ℕ)) (n m : ℕ) (read : Result ℕ Failure) (room part rest : List ℕ)
    → n ≤ length room → ReadsAtMost read part → Consumes a b (take n room) → Reads b c part read
    → Continue m ≡ standing_after n read
    → (n < m) × (m ≤ n + length part) × Consumes a c (take m (take n room ++ (part ++ rest)))
more-lost a b c n m (Ok k) room part rest few fits held came e =
    let s = some-came n m k e in (
      omega (arith, s),
      omega (arith, s, fits.0),
      subst (λ x. Consumes a c (take x (take n room ++ (part ++ rest)))) (sym s.0)
          (both-lost a b c n k room part rest few fits.0 held came.0),
    )
more-lost a b c n m (Err f) room part rest few fits held came e = let z : ◌≡◌ {A = ℕ} 0 1 = cc in absurd (omega arith)
