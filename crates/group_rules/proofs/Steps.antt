-- Every event, accepted or refused, keeps a sound group sound, and a committed context committed until it leaves; so
-- every group that a history reaches is sound.
-- Assumes nothing.
use Prim.Native.Nat.{ℕ, ◌<◌}
use mathlib.Core.Path.{◌≡◌, refl, sym, ◌∙◌, subst}
use mathlib.Core.Bool.{true, false}
use mathlib.Core.List.{List, [], ◌∷◌}
use native.Mathlib.Omega.{arith}
use lib.Dec.{eqb}
use lib.ListN.{length}
use borrow.Author.Tests.{eqb-true, eqb-false, ltb-true}
use Rattle.rules.specs.Refusals.{accepted}
use Rattle.rules.proofs.Tests.{by-test, clash}
use Rattle.places.specs.Places.{pad, unpad, holds_only}
use Rattle.places.specs.Tests.{all_below}
use Rattle.group_rules.specs.declared.Group.{Group}
use Rattle.group_rules.specs.Groups.{none_entered, calls_of, queued}
use Rattle.group_rules.specs.Blocking.{committed}
use Rattle.group_rules.specs.Sound.{is_empty, context_sound, sound_of}
use Rattle.group_rules.specs.Events.{Event, entry, call, reply, event_answer, after}
use Rattle.group_rules.specs.Events.{answer_of, step_of}
use Rattle.group_rules.specs.History.{reached}
use Rattle.group_rules.proofs.Facts.{Facts, facts, sounds}
use Rattle.group_rules.proofs.Committed.{committed-queued}
use Rattle.group_rules.proofs.Accepted.{entry-in, call-in, reply-in}
use Rattle.group_rules.proofs.Entry.{entry-commits, entry-sound}
use Rattle.group_rules.proofs.Call.{call-commits, call-sound}
use Rattle.group_rules.proofs.Reply.{pop-commits, pop-sound}
use Rattle.group_rules.proofs.Leave.{leave-commits, leave-sound}

module _ (g : Group) (f : Facts g) where
  -- more than one call is on a queued stack that hasn't one
  deep : (c : ℕ) → committed g c ≡ true → eqb (length (calls_of g c)) 1 ≡ false → 1 < length (calls_of g c)
  deep c e n =
      omega (arith, ltb-true 0 (length (calls_of g c)) (committed-queued g c e), eqb-false (length (calls_of g c)) 1 n)

  -- ACCEPTED

  after-sound : (e : Event) → event_answer g e ≡ accepted → Facts (after g e)
  after-sound (entry c time first tickets) a =
      let i = entry-in g c time first tickets a in
      entry-sound g c time first tickets f i.low i.server i.few i.ticket i.late
  after-sound (call c s) a =
      let i = call-in g c s a in call-sound g c s f i.low i.can i.ticket i.new i.room
  after-sound (reply c) a =
      let i = reply-in g c a in
      by-test (eqb (length (calls_of g c)) 1)
      (λ y. rw y (leave-sound g c f i.low))
      (λ n. rw n (pop-sound g c f i.low i.can (deep c i.can n)))

  after-commits : (e : Event) → event_answer g e ≡ accepted → (b : ℕ) → committed g b ≡ true
      → queued (after g e) b ≡ true → committed (after g e) b ≡ true
  after-commits (entry c time first tickets) a b k q =
      let i = entry-in g c time first tickets a in
      let was = committed-queued g b k in
      entry-commits g c time first tickets f i.low i.server i.few i.ticket i.late b
      (λ y. clash (subst (λ (x : ℕ). queued g x ≡ true) y was) i.out) k was
  after-commits (call c s) a b k q =
      let i = call-in g c s a in
      call-commits g c s f i.low i.can i.ticket i.new i.room b k
  after-commits (reply c) a b k q =
      let i = reply-in g c a in
      by-test (eqb (length (calls_of g c)) 1)
      (λ y. rw y (leave-commits g c f i.low b (rw y at q) k))
      (λ n. rw n (pop-commits g c f i.low i.can (deep c i.can n) b k))

-- ACCEPTED OR REFUSED

module _ (g : Group) (sound : sound_of g ≡ true) where
  answer-own : (e : Event) → answer_of g e ≡ event_answer g e
  unfolding answer_of
  answer-own e = rw sound

  -- either nothing changes, or the event's own is left
  step-cases {ℓ} : (P : Group → Type ℓ) (e : Event) → (event_answer g e ≡ accepted → P (after g e)) → P g
      → P (step_of g e)
  unfolding step_of
  step-cases P e left same =
      by-test (eqb (answer_of g e) accepted)
      (λ y. rw y (left (sym (answer-own e) ∙ eqb-true (answer_of g e) accepted y)))
      (λ n. rw n same)

  pub step-sound : (e : Event) → sound_of (step_of g e) ≡ true
  step-sound e =
      step-cases (λ (h : Group). sound_of h ≡ true) e
      (λ a. sounds (after g e) (after-sound g (facts g sound) e a)) sound

  -- A committed context stays committed until it leaves.
  pub step-commits : (e : Event) (c : ℕ) → committed g c ≡ true → queued (step_of g e) c ≡ true
      → committed (step_of g e) c ≡ true
  step-commits e c k q =
      step-cases (λ (h : Group). queued h c ≡ true → committed h c ≡ true) e
      (λ a p. after-commits g (facts g sound) e a c k p) (λ p. k) q

-- HISTORIES

pub start-sound : sound_of none_entered ≡ true
unfolding sound_of context_sound is_empty all_below pad unpad holds_only
start-sound = refl

pub reached-sound : (es : List Event) → sound_of (reached es) ≡ true
reached-sound [] = start-sound
reached-sound (e ∷ es) = step-sound (reached es) (reached-sound es) e
