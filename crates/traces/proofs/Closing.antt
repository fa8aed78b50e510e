-- The end of an input: what is held is enough to judge it, and what is decided needs nothing that is held.
-- Assumes nothing.
use Prim.Native.Nat.{ℕ, zero, suc, ◌<◌}
use native.Mathlib.Omega.{arith}
use mathlib.Core.Path.{◌≡◌, refl, ap, ◌∙◌}
use mathlib.Core.Bool.{true}
use mathlib.Core.List.{List, [], ◌∷◌}
use lib.ListN.{length, take}
use Rattle.rules.proofs.Tests.{clash}
use Rattle.checking.specs.declared.Verdict.{Verdict}
use Rattle.checking.specs.declared.Verdict.TheVariants as verdict
use Rattle.lines.specs.Input.{Read}
use Rattle.tracing.specs.declared.Stage.{Stage}
use Rattle.tracing.specs.declared.Stage.TheVariants as stage
use Rattle.tracing.specs.declared.Trace.{Trace}
use Rattle.tracing.specs.Tracing.{decided_in, is_decided}
use Rattle.traces.specs.declared.Judgement.{Judgement}
use Rattle.traces.specs.declared.Judgement.TheVariants.{Accepted}
use Rattle.traces.specs.Reading.{room_bytes, held_of}
use Rattle.traces.specs.Judgement.{lacking, agreed, by_stage, closed, closed_of, closed_held}
use Rattle.traces.proofs.Room.{held-begun}

-- BY HOW MANY BYTES ARE HELD

pub agreed-none : (t : Trace) (room : List ℕ) (n : ℕ) → n ≡ 0 → Accepted t.checker.entries ≡ agreed t (take n room)
agreed-none t room n e = rw e

pub agreed-some : (t : Trace) (room : List ℕ) (n : ℕ) → (n ≡ 0 → ⊥) → 0 < length room
    → lacking t ≡ agreed t (take n room)
agreed-some t room zero e h = absurd (e refl)
agreed-some t [] (suc n) e h = absurd (omega arith)
agreed-some t (b ∷ room) (suc n) e h = refl

-- BY WHAT IS HELD

-- what is held of a last line shows whether there is one
agreed-held : (t : Trace) (s : List ℕ) → agreed t (take room_bytes s) ≡ agreed t s
agreed-held t [] = refl
agreed-held t (b ∷ s) = refl

pub closed-held : (r : Read Trace) → closed_held (held_of r) ≡ closed_of r
closed-held r =
    let t = r.state in
    ap (λ (s : List ℕ). closed t s) (held-begun r)
    ∙ ap (λ (j : Judgement). by_stage t.stage t.checker.verdict t j) (agreed-held t r.rest)

-- a judgement that is decided does not depend on a last line
decided-by : (s : Stage) (v : Verdict) (t : Trace) (j k : Judgement) → decided_in s v ≡ true
    → by_stage s v t j ≡ by_stage s v t k
decided-by stage.Head v t j k d = clash d refl
decided-by stage.Sizes v t j k d = clash d refl
decided-by stage.Rows v t j k d = clash d refl
decided-by stage.Entries (verdict.Refused n) t j k d = refl
decided-by stage.Entries verdict.Agrees t j k d = clash d refl
decided-by stage.Entries (verdict.Differs i p) t j k d = refl
decided-by stage.Malformed v t j k d = refl

pub decided-closed : (t : Trace) (s u : List ℕ) → is_decided t ≡ true → closed t s ≡ closed t u
decided-closed t s u d = decided-by t.stage t.checker.verdict t (agreed t s) (agreed t u) d
