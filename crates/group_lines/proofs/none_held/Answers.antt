-- `group_lines::none_held` meets its contract: the group that nobody has entered is sound.
-- Assumes nothing.
use mathlib.Core.Path.{◌≡◌, refl}
use mathlib.Core.Bool.{true}
use Rattle.places.specs.Places.{pad, unpad, holds_only}
use Rattle.places.specs.Tests.{every, all_below}
use Rattle.group_rules.specs.Groups.{none_entered}
use Rattle.group_rules.specs.Sound.{is_empty, context_sound, sound_of}
use Rattle.group_lines.proofs.none_held.Goals as goal

none-sound : sound_of none_entered ≡ true
unfolding sound_of context_sound is_empty all_below every holds_only unpad pad
none-sound = refl

pub returns : goal.returns
returns c = rw c.none_entered.ensures (record { value = refl; group_value = none-sound })
