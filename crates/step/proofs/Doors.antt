-- What a record on a sound gate leaves: the rules' answer, and the shown form of the state after it.
-- Assumes nothing.
use Prim.Native.Nat.{ℕ}
use mathlib.Core.List.{List}
use mathlib.Core.Path.{◌≡◌, refl}
use mathlib.Core.Bool.{true, false}
use lib.ListN.{length}
use Rattle.rules.specs.Limits.{max_clients}
use Rattle.rules.specs.Refusals.{unsound}
use Rattle.rules.specs.State.{State}
use Rattle.rules.specs.Sound.{Sound}
use Rattle.rules.specs.Records.{Heard, step_of}
use Rattle.rules.proofs.Setups.{allowed}
use Rattle.rules.proofs.Theorems.{sound-stays}
use Rattle.gate.specs.declared.Gate.{Gate}
use Rattle.parts.specs.declared.Queues.{Queues}
use Rattle.gate.specs.declared.Setup.{Setup}
use Rattle.parts.specs.Parts.{gate_of, keys_in, deadlines_in}
use Rattle.gate.specs.Shown.{setup_of, state_of}
use Rattle.parts.specs.Shows.{Shows}
use Rattle.parts.proofs.Keys.{gate-keys, keys-deadlines}
use Rattle.parts.proofs.Reading.{shows-is}
use Rattle.parts.proofs.Laid.{LaidOut, laid_shows}
use Rattle.parts.proofs.SoundShows.{accepted-fine}
use Rattle.soundness.specs.Clauses.{sound_of}
use Rattle.soundness.proofs.Exact.{passed-laid, passed-sound}
use Rattle.answers.specs.Answers.{number_of, Answers, Holds}
use Rattle.answers.specs.declared.Outcome.{Outcome}
use Rattle.step.specs.Stepped.{Result, told_in, ruled, stepped, Ranged, Given}
use Rattle.step.specs.declared.Answered.{Answered}

-- what is handed over of a setup is that setup's
pub given : (v : Setup) → Given v v
given v = record {
  clusters = refl;
  clients = refl;
  cap = refl;
  tidy = refl;
  timed = refl;
  sizes = refl;
  kinds = refl;
  homes = refl;
}

-- parts that show a sound state are in range
pub in-range : {v : Setup} {s : State} {q : Queues} {cs ks : List ℕ} → Holds v s q cs ks
    → length v.homes ≡ max_clients → Ranged v q
in-range {v} h long =
    let fine = accepted-fine v h.sound.setup h.sound.trimmed in
    record {
      clusters = (allowed (setup_of v) h.sound.setup).few-clusters;
      clients = fine.clients;
      homes = record { rows = long; low = fine.homes };
      server = rw h.queues.service.server h.queues.service.fits;
    }

module _ (v : Setup) (q : Queues) (cs ds : List ℕ)
    (long : length v.priorities ≡ max_clients) (h : sound_of (gate_of v q cs ds) ≡ true) where
  -- the state that they show
  abbrev now : State
  now = state_of (gate_of v q cs ds)

  laid : LaidOut (gate_of v q cs ds)
  laid = passed-laid (gate_of v q cs ds) h

  shows : Shows v now (gate_of v q cs ds)
  shows = laid_shows (gate_of v q cs ds) laid

  sound : Sound (setup_of v) now
  sound = passed-sound (gate_of v q cs ds) h

  pub holds : Holds v now q cs (keys_in v.timed v.priorities ds)
  holds =
      record {
        queues = shows.queues;
        charges = shows.charges;
        keys = gate-keys (gate_of v q cs ds) long laid.deadlines;
        sound = sound;
      }

  -- the promise of a function of what is heard, at these parts
  pub answered : (r : Outcome) (cs' ks' : List ℕ) (x : Heard) → Answers v now x r cs' ks'
      → ◌≡◌ {A = Result}
      (record { number = number_of r.answer; gate = gate_of v r.queues cs' (deadlines_in v.timed ks') })
      (stepped (gate_of v q cs ds) x)
  unfolding stepped
  answered r cs' ks' x a =
      let t = step_of (setup_of v) now x in
      let e = shows-is v t (gate_of v r.queues cs' (deadlines_in v.timed ks')) (record {
        fine = shows.fine;
        setup = refl;
        queues = a.queues;
        charges = a.charges;
        deadlines = keys-deadlines (sound-stays (setup_of v) now x sound) a.keys;
      }) in
      rw (h, a.number, e)

-- a sound gate's step is the rules' own
pub step-sound : (g : Gate) (x : Heard) → sound_of g ≡ true → stepped g x ≡ ruled g x
unfolding stepped
step-sound g x h = rw h

-- 19 and the same gate
pub refused : (g : Gate) → sound_of g ≡ false → (r : Answered) (x : Heard)
    → number_of r.answer ≡ unsound → r.gate ≡ g → told_in r ≡ stepped g x
unfolding stepped
refused g h r x n e = rw (h, n, e)
