-- What one line leaves and tells, by what it says.
-- Assumes nothing.
use Prim.Native.Nat.{ℕ}
use mathlib.Core.Path.{◌≡◌, sym, ap, ◌∙◌}
use mathlib.Core.Bool.{Bool, true, false, cond}
use mathlib.Core.List.{List, []}
use mathlib.Core.Option.{some, none}
use Rattle.text.specs.Text.{next_count}
use Rattle.group_rules.specs.declared.Group.{Group}
use Rattle.group_rules.specs.Events.{Event, answer_of, step_of}
use Rattle.group_says.specs.Says.{says}
use Rattle.group_tells.specs.Tells.{event_text, malformed_text}
use Rattle.group_lines.specs.declared.Run.{Run}
use Rattle.group_lines.specs.Reading.{after_said, said_text, after_line, line_text}

module _ (run : Run) (s : List ℕ) where
  -- after a malformed line
  pub skipped : run.malformed ≡ true → (run ≡ after_line run s) × ([] ≡ line_text run s)
  unfolding after_line line_text
  skipped e = (
    sym (ap (λ (b : Bool). cond b run (after_said run (says s))) e),
    sym (ap (λ (b : Bool). cond b [] (said_text run (says s))) e),
  )

  module _ (on : run.malformed ≡ false) where
    after-said : after_line run s ≡ after_said run (says s)
    unfolding after_line
    after-said = ap (λ (b : Bool). cond b run (after_said run (says s))) on

    text-said : line_text run s ≡ said_text run (says s)
    unfolding line_text
    text-said = ap (λ (b : Bool). cond b [] (said_text run (says s))) on

    -- a malformed line
    pub malformed-line : {count : ℕ} → count ≡ next_count run.lines → says s ≡ none
        → (record { group = run.group; events = run.events; lines = count; malformed = true } ≡ after_line run s)
        × (malformed_text count ≡ line_text run s)
    malformed-line lines is =
        rw lines (sym (after-said ∙ ap (after_said run) is), sym (text-said ∙ ap (said_text run) is))

    -- an event
    pub event-line : {e : Event} {count events answer : ℕ} {after : Group} → says s ≡ some e
        → count ≡ next_count run.lines → events ≡ next_count run.events
        → answer ≡ answer_of run.group e → after ≡ step_of run.group e
        → (record { group = after; events = events; lines = count; malformed = false } ≡ after_line run s)
        × (event_text run.events answer after ≡ line_text run s)
    event-line is lines next answers leaves =
        rw (lines, next, answers, leaves)
        (sym (after-said ∙ ap (after_said run) is), sym (text-said ∙ ap (said_text run) is))
