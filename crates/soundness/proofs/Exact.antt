-- The test holds of a gate exactly if the gate is the shown form of a sound state of the rules.
-- Assumes nothing.
use Prim.Native.Nat.{◌≤◌}
use mathlib.Core.Path.{◌≡◌, refl, sym}
use mathlib.Core.Bool.{true, false, ◌&&◌}
use lib.Dec.{eqb}
use borrow.Author.Tests.{eqb-true}
use Rattle.rules.specs.Limits.{max_cap, max_tidy}
use Rattle.rules.specs.Refusals.{accepted}
use Rattle.rules.specs.Setup.{setup_answer, Accepted, Trimmed}
use Rattle.rules.specs.State.{State, fresh}
use Rattle.rules.specs.Sound.{Sound}
use Rattle.rules.proofs.Tests.{by-test, both_true}
use Rattle.gate.specs.declared.Setup.{Setup}
use Rattle.gate.specs.declared.Gate.{Gate}
use Rattle.gate.specs.Shown.{setup_of, state_of, shown}
use Rattle.gate.specs.Made.{trimmed_in, empty_gate, fresh_gate, made}
use Rattle.parts.proofs.Laid.{LaidOut, shown-back}
use Rattle.parts.proofs.SoundShows.{sound_back, fresh-sound}
use Rattle.soundness.specs.Tests.{set_in}
use Rattle.soundness.specs.Clauses.{setup_sound, everyone, stand_sound, rest_sound, sound_of}
use Rattle.soundness.specs.Form.{ShowsSound}
use Rattle.soundness.proofs.Facts.{Clauses, clauses, clauses-stand, clauses-rest, setup-facts, facts-setup}
use Rattle.soundness.proofs.ToSound.{sound-state, sound-laid}
use Rattle.soundness.proofs.FromSound.{shown-clauses}

module _ (g : Gate) (e : sound_of g ≡ true) where
  record Passed : Type 0 where
    setup : Accepted (setup_of g.setup) × Trimmed (setup_of g.setup)
    state : Clauses (setup_of g.setup) g (state_of g)
        (everyone (state_of g).lines (state_of g).background)

  passed : Passed
  unfolding sound_of
  passed =
      let u = setup_of g.setup in
      let all = everyone (state_of g).lines (state_of g).background in
      let w = both_true (setup_sound g.setup) _ e in
      let stand = stand_sound u g.lines g.background all in
      let x = both_true stand (rest_sound u g (state_of g) (set_in all)) w.1 in
      record {
        setup = setup-facts g.setup w.0;
        state = clauses u g (state_of g) all x.0 x.1;
      }

  pub passed-laid : LaidOut g
  passed-laid = sound-laid g passed.setup.0 passed.setup.1 passed.state

  pub passed-sound : Sound (setup_of g.setup) (state_of g)
  passed-sound = sound-state g passed.setup.0 passed.setup.1 passed.state

  -- a gate that passes the test shows the sound state that its places hold
  pub passed-shows : ShowsSound g
  passed-shows = record { state = state_of g; form = sym (shown-back g passed-laid); sound = passed-sound }

-- the shown form of a sound state passes
pub shown-passes : (v : Setup) (s : State) → Sound (setup_of v) s → sound_of (shown v s) ≡ true
unfolding sound_of shown
shown-passes v s h =
    go (state_of (shown v s)) (sound_back v s h) (shown v s).setup refl
  where
    go : (r : State) → r ≡ s → (w : Setup) → w ≡ v
        → setup_sound w
        && (stand_sound (setup_of w) (shown v s).lines (shown v s).background (everyone r.lines r.background)
        && rest_sound (setup_of w) (shown v s) r (set_in (everyone r.lines r.background))) ≡ true
    go r e w q =
        let all = everyone s.lines s.background in
        let c = shown-clauses v s h in
        rw (
          e,
          q,
          facts-setup v h.setup h.trimmed,
          clauses-stand (setup_of v) (shown v s) s all c,
        ) (clauses-rest (setup_of v) (shown v s) s all c)

-- THE THEOREM

-- Its places then hold that state: `passed-sound`.
pub sound-exact : (g : Gate) → (sound_of g ≡ true → ShowsSound g) × (ShowsSound g → sound_of g ≡ true)
sound-exact g = (
  passed-shows g,
  λ h. rw h.form (shown-passes g.setup h.state h.sound),
)

-- FRESH GATES

-- The empty gate is not sound.
pub empty-fails : sound_of empty_gate ≡ false
unfolding sound_of setup_sound setup_answer empty_gate shown
empty-fails = refl

-- A fresh gate is sound exactly if its setup is accepted. L and W are numbers of 16 bits.
pub fresh-exact : (v : Setup) → v.cap ≤ max_cap → v.tidy ≤ max_tidy
    → sound_of (made v).gate ≡ eqb (setup_answer (setup_of v)) accepted
unfolding made fresh_gate
fresh-exact v b d =
    by-test (eqb (setup_answer (setup_of v)) accepted)
    (λ e. rw e
    (shown-passes (trimmed_in v) fresh (fresh-sound v
    (record { no_refusal = eqb-true (setup_answer (setup_of v)) accepted e; sixteen_bits = b; tidy_bits = d }))))
    (λ e. rw e empty-fails)
