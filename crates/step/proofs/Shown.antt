-- A step of a gate that shows a sound state, and that a sound gate stays sound.
-- Assumes nothing.
use mathlib.Core.Path.{◌≡◌, refl, ap, ◌∙◌}
use mathlib.Core.Bool.{true}
use Rattle.rules.specs.State.{State}
use Rattle.rules.specs.Sound.{Sound}
use Rattle.rules.specs.Records.{Heard, answer_of, step_of}
use Rattle.rules.proofs.Theorems.{sound-stays}
use Rattle.gate.specs.declared.Setup.{Setup}
use Rattle.gate.specs.declared.Gate.{Gate}
use Rattle.gate.specs.Shown.{setup_of, state_of, shown}
use Rattle.parts.proofs.Reading.{shown-setup}
use Rattle.parts.proofs.SoundShows.{sound_back}
use Rattle.soundness.specs.Clauses.{sound_of}
use Rattle.soundness.proofs.Exact.{passed-sound, shown-passes}
use Rattle.step.specs.Stepped.{Result, stepped}
use Rattle.step.proofs.Doors.{step-sound}

-- what the rules give of the shown state
ruled-shown : (w v : Setup) (t s : State) (x : Heard) → w ≡ v → t ≡ s
    → ◌≡◌ {A = Result}
    (record { number = answer_of (setup_of w) t x; gate = shown w (step_of (setup_of w) t x) })
    (record { number = answer_of (setup_of v) s x; gate = shown v (step_of (setup_of v) s x) })
ruled-shown w v t s x a b = rw (a, b)

pub step-shown : (v : Setup) (s : State) (x : Heard) → Sound (setup_of v) s
    → stepped (shown v s) x ≡ record { number = answer_of (setup_of v) s x; gate = shown v (step_of (setup_of v) s x) }
step-shown v s x h =
    step-sound (shown v s) x (shown-passes v s h)
    ∙ ruled-shown (shown v s).setup v (state_of (shown v s)) s x (shown-setup v s (shown v s) refl) (sound_back v s h)

pub stays-sound : (g : Gate) (x : Heard) → sound_of g ≡ true → sound_of (stepped g x).gate ≡ true
stays-sound g x h =
    let u = setup_of g.setup in
    ap (λ (t : Result). sound_of t.gate) (step-sound g x h)
    ∙ shown-passes g.setup (step_of u (state_of g) x) (sound-stays u (state_of g) x (passed-sound g h))
