-- What reads do to the bytes that an input still has, where those are known.
-- Assumes nothing.
use Rattle.std.specs.Prelude.{ℕ, ◌+◌, ◌<◌, ◌≡◌, cond, eqb, List, length, take, Result, Ok, Err}
use Rattle.std.specs.declared.option.Option.{Option}
use Rattle.std.specs.declared.ops.ControlFlow.{ControlFlow}
use Rattle.std.specs.declared.ops.ControlFlow.TheVariants.{Continue, Break}
use Rattle.std.specs.Io.KnownBytes.{Consumes, Keeps, IsAtEnd}
use Rattle.streams.specs.declared.Failure.{Failure}
use Rattle.streams.specs.declared.Failure.TheVariants.{Unread, Unwritten}

-- One read into a part: the bytes that came are the first ones that the input had. Where none came and the part has
-- room, the input has ended; and where the read fails all are still there.
abbrev pub Reads : Option (List ℕ) → Option (List ℕ) → List ℕ → Result ℕ Failure → Type 0
Reads old new part (Ok n) = Consumes old new (take n part) × (n ≡ 0 → 0 < length part → IsAtEnd new)
Reads old new part (Err Unread) = Keeps old new
Reads old new part (Err Unwritten) = ⊥

-- Reads until the room is full or the input has ended: what came are the first bytes that the input had, and all of it
-- where there was more room. No failure of a read passes for that.
abbrev pub ReadsWhole : Option (List ℕ) → Option (List ℕ) → List ℕ → Result ℕ Failure → Type 0
ReadsWhole old new room (Ok n) = Consumes old new (take n room) × (n < length room → IsAtEnd new)
ReadsWhole old new room (Err Unread) = Unit {0}
ReadsWhole old new room (Err Unwritten) = ⊥

-- A read that gave bytes leaves more to come. Only the end of the input makes them the whole, and no failure does; nor
-- is the end told as a failure.
abbrev pub standing_after : ℕ → Result ℕ Failure → ControlFlow (Result ℕ Failure) ℕ
standing_after n (Ok k) = cond (eqb k 0) (Break (Ok n)) (Continue (n + k))
standing_after n (Err f) = Break (Err f)
