-- A line that was written counts bytes of its buffer.
-- Assumes nothing.
use Prim.Native.Nat.{ℕ}
use native.Mathlib.Omega.{arith}
use mathlib.Core.Path.{sym}
use mathlib.Core.List.{List}
use lib.Seq.{length-take-le}
use Rattle.io.specs.Counts.{IsPrefixLen}
use Rattle.text.specs.Text.{Wrote}
use Rattle.text.proofs.Written.{wrote-ends}

pub counted : {text before after : List ℕ} {n : ℕ} → Wrote text before after n
    → IsPrefixLen n after × Wrote text before after n
counted {text} {before} {after} {n} w =
    let fits = wrote-ends w (omega arith) in ((fits, sym (length-take-le n after fits)), w)
