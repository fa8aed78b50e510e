-- What reads do to the bytes that an input still has, in worked cases: those that are so, and those that can't be.
-- Assumes nothing.
use Rattle.std.proofs.Common.{[], ◌∷◌, refl, arith, Some, Ok, Err}
use Rattle.streams.specs.declared.Failure.TheVariants.{Unread, Unwritten}
use Rattle.streams.specs.Reads.{Reads, ReadsWhole}

-- the first of two bytes came to a part of two places
first-came : Reads (Some (7 ∷ 8 ∷ [])) (Some (8 ∷ [])) (7 ∷ 0 ∷ []) (Ok 1)
first-came = (refl, λ e. absurd (omega (arith, e)))

-- not another byte, not a byte that the input still has, and not one that the input has lost and that isn't there
another-came : Reads (Some (7 ∷ 8 ∷ [])) (Some (8 ∷ [])) (9 ∷ 0 ∷ []) (Ok 1) → ⊥
another-came h = let e = h.0 in cc

came-and-stayed : Reads (Some (7 ∷ 8 ∷ [])) (Some (7 ∷ 8 ∷ [])) (7 ∷ 0 ∷ []) (Ok 1) → ⊥
came-and-stayed h = let e = h.0 in cc

lost : Reads (Some (7 ∷ 8 ∷ [])) (Some []) (7 ∷ 0 ∷ []) (Ok 1) → ⊥
lost h = let e = h.0 in cc

-- the end: nothing is left, and nothing was lost; a part without room says nothing of what is left
at-end : Reads (Some []) (Some []) (0 ∷ []) (Ok 0)
at-end = (refl, λ _ _. refl)

lost-at-end : Reads (Some (7 ∷ [])) (Some []) (0 ∷ []) (Ok 0) → ⊥
lost-at-end h = let e = h.0 in cc

not-at-end : Reads (Some (7 ∷ [])) (Some (7 ∷ [])) (0 ∷ []) (Ok 0) → ⊥
not-at-end h = let e = h.1 refl (omega arith) in cc

no_room : Reads (Some (7 ∷ [])) (Some (7 ∷ [])) [] (Ok 0)
no_room = (refl, λ _ l. absurd (omega (arith, l)))

-- a read that fails loses nothing, and fails as a read
failed-keeps : Reads (Some (7 ∷ [])) (Some (7 ∷ [])) (0 ∷ []) (Err Unread)
failed-keeps = refl

failed-without-room : Reads (Some (7 ∷ [])) (Some (7 ∷ [])) [] (Err Unread)
failed-without-room = refl

failed-loses : Reads (Some (7 ∷ [])) (Some []) (0 ∷ []) (Err Unread) → ⊥
failed-loses h = cc

failed-to-write : Reads (Some (7 ∷ [])) (Some (7 ∷ [])) (0 ∷ []) (Err Unwritten) → ⊥
failed-to-write h = h

-- an input that is read whole, and one that is longer than the room
whole-input : ReadsWhole (Some (7 ∷ 8 ∷ [])) (Some []) (7 ∷ 8 ∷ 0 ∷ []) (Ok 2)
whole-input = (refl, λ _. refl)

longer-input : ReadsWhole (Some (7 ∷ 8 ∷ 9 ∷ [])) (Some (9 ∷ [])) (7 ∷ 8 ∷ []) (Ok 2)
longer-input = (refl, λ l. absurd (omega arith))

-- not a part of it where there is room for more, and none of it either
part-of-it : ReadsWhole (Some (7 ∷ 8 ∷ [])) (Some (8 ∷ [])) (7 ∷ 0 ∷ []) (Ok 1) → ⊥
part-of-it h = let e = h.1 (omega arith) in cc

none-of-it : ReadsWhole (Some (7 ∷ [])) (Some (7 ∷ [])) (0 ∷ []) (Ok 0) → ⊥
none-of-it h = let e = h.1 (omega arith) in cc

-- it fails as a read
whole-unwritten : ReadsWhole (Some (7 ∷ [])) (Some []) (7 ∷ []) (Err Unwritten) → ⊥
whole-unwritten h = h
