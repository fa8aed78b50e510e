-- On a sound group a step is what the event's own rules give, and the group after it is sound; and what a question
-- about a context answers, test by test.
-- Assumes nothing.
use Prim.Native.Nat.{ℕ, ◌≤◌, ◌<◌}
use mathlib.Core.Path.{◌≡◌, ap, ◌∙◌}
use mathlib.Core.Bool.{true, false}
use native.Mathlib.Omega.{arith}
use Rattle.std.specs.Prelude.{Ok, Err}
use lib.Dec.{ltb}
use borrow.Author.Tests.{ltb-true, lt-ltb, le-ltb, eq-eqb, ne_eqb}
use Rattle.rules.specs.Refusals.{accepted, unsound}
use Rattle.rules.proofs.Tests.{by-test, clash}
use Rattle.group_rules.specs.declared.Group.{Group}
use Rattle.group_rules.specs.Limits.{max_contexts}
use Rattle.group_rules.specs.Refusals.{no_such, not_queued}
use Rattle.group_rules.specs.Groups.{queued}
use Rattle.group_rules.specs.Blocking.{Delegate, nobody}
use Rattle.group_rules.specs.Sound.{sound_of}
use Rattle.group_rules.specs.Events.{Event, answer_of, step_of}
use Rattle.group_rules.proofs.Steps.{step-sound}
use Rattle.blocking.specs.declared.Delegate as code
use Rattle.blocking.specs.Delegates.{told_of}
use Rattle.group_events.specs.declared.Refusal.{Refusal}
use Rattle.group_events.specs.declared.Answered.{Answered}
use Rattle.group_events.specs.Answers.{refusal_of, Result, told_in, ruled}
use Rattle.group_events.proofs.Told.{refusal-no}
use Rattle.group_step.specs.Doors.{stepped, ask_answer, named_in, naming}

-- AN EVENT

module _ (g : Group) (e : Event) where
  pub ruled-stepped : sound_of g ≡ true → ruled g e ≡ stepped g e
  unfolding answer_of step_of
  ruled-stepped s = rw s

  -- a group that isn't sound is handed back
  pub unsound-stepped : sound_of g ≡ false → record { number = unsound; group = g } ≡ stepped g e
  unfolding answer_of step_of
  unsound-stepped s = rw s

  pub stepped-sound : sound_of g ≡ true → (r : Answered) → told_in r ≡ stepped g e → sound_of r.group ≡ true
  stepped-sound s r is = ap (λ (x : Result). sound_of x.group) is ∙ step-sound g s e

-- A QUESTION

module _ (g : Group) (c : ℕ) where
  pub ask-unsound : sound_of g ≡ false → ask_answer g c ≡ unsound
  unfolding ask_answer
  ask-unsound s = rw s

  module _ (s : sound_of g ≡ true) where
    pub ask-no-context : max_contexts ≤ c → ask_answer g c ≡ no_such
    unfolding ask_answer
    ask-no-context h = rw (s, le-ltb c max_contexts h)

    module _ (low : c < max_contexts) where
      pub ask_out : queued g c ≡ false → ask_answer g c ≡ not_queued
      unfolding ask_answer
      ask_out q = rw (s, lt-ltb c max_contexts low, q)

      pub ask_in : queued g c ≡ true → ask_answer g c ≡ accepted
      unfolding ask_answer
      ask_in q = rw (s, lt-ltb c max_contexts low, q)

  -- so an answered question is about a queued context of a sound group
  pub ask-known : ask_answer g c ≡ accepted → (c < max_contexts) × (queued g c ≡ true)
  unfolding ask_answer
  ask-known e =
      by-test (sound_of g)
      (λ s. by-test (ltb c max_contexts)
      (λ l. by-test (queued g c)
      (λ q. (ltb-true c max_contexts l, q))
      (λ q. absurd (let z : not_queued ≡ accepted = rw (s, l, q) at e in omega arith)))
      (λ l. absurd (let z : no_such ≡ accepted = rw (s, l) at e in omega arith)))
      (λ s. absurd (let z : unsound ≡ accepted = rw s at e in omega arith))

-- WHOM IT NAMES

module _ (n : ℕ) (d : Delegate) where
  pub named-nobody : (a : Refusal) → refusal_of a ≡ n → named_in (Err a) ≡ naming n d
  named-nobody a e =
      ap (λ (k : ℕ). record { number = k; who = nobody }) e
      ∙ ap (λ (w : Delegate). record { number = n; who = w })
      (rw (← e, ne_eqb (refusal_of a) accepted (λ z. clash (eq-eqb _ accepted z) (refusal-no a))))

  pub named-one : n ≡ accepted → (w : code.Delegate) → told_of w ≡ d → named_in (Ok w) ≡ naming n d
  named-one e w h = rw (e, h)
