-- Soundness clause by clause: groups that differ in one thing from a sound one.
-- Assumes nothing.
use Prim.Native.Nat.{ℕ}
use mathlib.Core.Path.{◌≡◌, refl}
use mathlib.Core.Bool.{Bool, true, false}
use mathlib.Core.List.{List, [], ◌∷◌}
use lib.ListN.{set, replicate}
use Rattle.places.specs.Places.{pad, unpad, holds_only, used_first}
use Rattle.places.specs.Tests.{every, all_below, distinct}
use Rattle.group_rules.specs.declared.Group.{Group}
use Rattle.group_rules.specs.Groups.{no_tickets, no_calls}
use Rattle.group_rules.specs.Blocking.{share, committed}
use Rattle.group_rules.specs.Sound.{few_tickets, time_sound, stack_sound, is_empty, context_sound, sound_of}
use Rattle.group_rules.proofs.Cases.{for}

-- contexts 0 and 1, each by its timestamp, tickets and places
abbrev pair : Bool → ℕ → ℕ → List ℕ → List ℕ → ℕ → List ℕ → List ℕ → Group
pair entered last t k s u l v = record {
  entered = entered;
  last = last;
  times = t ∷ u ∷ replicate 6 0;
  tickets = record { counts = k } ∷ record { counts = l } ∷ replicate 6 no_tickets;
  stacks = record { places = s } ∷ record { places = v } ∷ replicate 6 no_calls;
}

-- context 0 with calls to 0 and 1, and context 1 with a call to 2
abbrev deep : List ℕ
deep = 0 ∷ 1 ∷ replicate 6 255

abbrev one : List ℕ
one = 2 ∷ replicate 7 255

abbrev unused : List ℕ
unused = replicate 8 255

-- Queued timestamps differ, none above the last entry's; somebody has entered.
times :
    (sound_of (pair true 5 3 (for (0 ∷ 1 ∷ [])) deep 5 (for (2 ∷ [])) one)
    ∷ sound_of (pair true 9 3 (for (0 ∷ 1 ∷ [])) deep 5 (for (2 ∷ [])) one)
    ∷ sound_of (pair true 4 3 (for (0 ∷ 1 ∷ [])) deep 5 (for (2 ∷ [])) one)
    ∷ sound_of (pair true 5 5 (for (0 ∷ 1 ∷ [])) deep 5 (for (2 ∷ [])) one)
    ∷ sound_of (pair false 5 3 (for (0 ∷ 1 ∷ [])) deep 5 (for (2 ∷ [])) one)
    ∷ sound_of (pair false 0 0 (for (0 ∷ 1 ∷ [])) deep 0 (for []) unused)
    ∷ sound_of (pair true 0 0 (for (0 ∷ 1 ∷ [])) deep 0 (for []) unused)
    ∷ [])
    ≡ true ∷ true ∷ false ∷ false ∷ false ∷ false ∷ true ∷ []
unfolding sound_of context_sound time_sound stack_sound is_empty few_tickets committed share all_below every distinct pad
    unpad used_first holds_only
times = refl

-- Nobody has entered, or has: the timestamp of the last entry.
lasts :
    (sound_of (pair false 0 0 (for []) unused 0 (for []) unused)
    ∷ sound_of (pair false 1 0 (for []) unused 0 (for []) unused)
    ∷ sound_of (pair true 1 0 (for []) unused 0 (for []) unused)
    ∷ [])
    ≡ true ∷ false ∷ true ∷ []
unfolding sound_of context_sound time_sound stack_sound is_empty few_tickets committed share all_below every distinct pad
    unpad used_first holds_only
lasts = refl

-- At most 4 tickets a server.
tickets :
    (sound_of (pair true 5 3 (set (for (0 ∷ 1 ∷ [])) 15 4) deep 5 (for (2 ∷ [])) one)
    ∷ sound_of (pair true 5 3 (set (for (0 ∷ 1 ∷ [])) 15 5) deep 5 (for (2 ∷ [])) one)
    ∷ sound_of (pair true 5 3 (set (for (0 ∷ 1 ∷ [])) 0 5) deep 5 (for (2 ∷ [])) one)
    ∷ [])
    ≡ true ∷ false ∷ false ∷ []
unfolding sound_of context_sound time_sound stack_sound is_empty few_tickets committed share all_below every distinct pad
    unpad used_first holds_only
tickets = refl

-- Different servers with tickets: one twice; one without a ticket; one that is none; a gap; all eight places.
stacks :
    (sound_of (pair true 5 3 (for (0 ∷ 1 ∷ [])) (0 ∷ 0 ∷ replicate 6 255) 5 (for (2 ∷ [])) one)
    ∷ sound_of (pair true 5 3 (for (0 ∷ [])) deep 5 (for (2 ∷ [])) one)
    ∷ sound_of (pair true 5 3 (for (0 ∷ 1 ∷ [])) (0 ∷ 16 ∷ replicate 6 255) 5 (for (2 ∷ [])) one)
    ∷ sound_of (pair true 5 3 (for (0 ∷ 1 ∷ [])) (0 ∷ 255 ∷ 1 ∷ replicate 5 255) 5 (for (2 ∷ [])) one)
    ∷ sound_of (pair true 5 3 (replicate 16 1) (0 ∷ 1 ∷ 2 ∷ 3 ∷ 4 ∷ 5 ∷ 6 ∷ 15 ∷ []) 5 (for (2 ∷ [])) one)
    ∷ [])
    ≡ false ∷ false ∷ false ∷ false ∷ true ∷ []
unfolding sound_of context_sound time_sound stack_sound is_empty few_tickets committed share all_below every distinct pad
    unpad used_first holds_only
stacks = refl

-- Over 1 only if committed: the later of two with a ticket for the same server may have one call.
depths :
    (sound_of (pair true 5 5 (for (0 ∷ 1 ∷ 2 ∷ [])) deep 3 (for (2 ∷ [])) one)
    ∷ sound_of (pair true 5 5 (for (0 ∷ 1 ∷ 2 ∷ [])) (0 ∷ replicate 7 255) 3 (for (2 ∷ [])) one)
    ∷ sound_of (pair true 5 3 (for (0 ∷ 1 ∷ 2 ∷ [])) deep 5 (for (2 ∷ [])) one)
    ∷ [])
    ≡ false ∷ true ∷ true ∷ []
unfolding sound_of context_sound time_sound stack_sound is_empty few_tickets committed share all_below every distinct pad
    unpad used_first holds_only
depths = refl

-- The rest is empty: no timestamp, no ticket, no call behind an unused place.
rests :
    (sound_of (pair true 5 3 (for (0 ∷ 1 ∷ [])) deep 0 (for []) unused)
    ∷ sound_of (pair true 5 3 (for (0 ∷ 1 ∷ [])) deep 1 (for []) unused)
    ∷ sound_of (pair true 5 3 (for (0 ∷ 1 ∷ [])) deep 0 (for (2 ∷ [])) unused)
    ∷ sound_of (pair true 5 3 (for (0 ∷ 1 ∷ [])) deep 0 (for []) (255 ∷ 2 ∷ replicate 6 255))
    ∷ [])
    ≡ true ∷ false ∷ false ∷ false ∷ []
unfolding sound_of context_sound time_sound stack_sound is_empty few_tickets committed share all_below every distinct pad
    unpad used_first holds_only
rests = refl

-- So many counts, places and contexts.
shapes :
    (sound_of (pair true 5 3 (replicate 15 1) deep 5 (for (2 ∷ [])) one)
    ∷ sound_of (pair true 5 3 (for (0 ∷ 1 ∷ [])) (0 ∷ 1 ∷ []) 5 (for (2 ∷ [])) one)
    ∷ sound_of (record { entered = false; last = 0; times = []; tickets = []; stacks = [] })
    ∷ [])
    ≡ false ∷ false ∷ false ∷ []
unfolding sound_of context_sound time_sound stack_sound is_empty few_tickets committed share all_below every distinct pad
    unpad used_first holds_only
shapes = refl
