-- However an input is cut into parts, its judgement is that of the whole; once that is decided, whatever parts follow.
-- Assumes nothing.
use Prim.Native.Nat.{ℕ}
use mathlib.Core.Path.{◌≡◌, refl, sym, ap, ◌∙◌}
use mathlib.Core.Bool.{true}
use mathlib.Core.List.{List, [], ◌∷◌, ◌++◌, append_assoc, flatten}
use Rattle.lines.specs.Input.{Read, read_from}
use Rattle.lines.proofs.Input.{read-on, read_stays}
use Rattle.lines.proofs.Steps.{held-read}
use Rattle.tracing.specs.declared.Trace.{Trace}
use Rattle.tracing.specs.Tracing.{none_read, is_decided, taken}
use Rattle.tracing.proofs.Lines.{decided-stays, held-enough}
use Rattle.traces.specs.declared.Held.{Held}
use Rattle.traces.specs.Reading.{room_bytes, stored, held_of, none_held, part_read, parts_read}
use Rattle.traces.specs.Judgement.{closed, closed_of, closed_held, judgement}
use Rattle.traces.proofs.Room.{held-begun}
use Rattle.traces.proofs.Closing.{closed-held, decided-closed}

-- PART BEHIND PART

-- one more part is held as if all before it were held
part-read : (r : Read Trace) (part : List ℕ)
    → part_read (held_of r) part ≡ held_of (read_from taken r.state r.rest part)
part-read r part =
    ap (λ (s : List ℕ). held_of (read_from taken r.state s part)) (held-begun r)
    ∙ ap stored (held-read taken room_bytes held-enough r.state r.rest part)

parts-read : (r : Read Trace) (parts : List (List ℕ))
    → parts_read (held_of r) parts ≡ held_of (read_from taken r.state r.rest (flatten parts))
unfolding flatten
parts-read r [] = refl
parts-read r (part ∷ parts) =
    ap (λ (h : Held). parts_read h parts) (part-read r part)
    ∙ parts-read (read_from taken r.state r.rest part) parts
    ∙ ap held_of (sym (read-on taken r.state r.rest part (flatten parts)))

-- THE WHOLE INPUT

-- Parts read one after the other, each from what was held after the one before, and judged at the end.
pub whole-input : (parts : List (List ℕ)) → closed_held (parts_read none_held parts) ≡ judgement (flatten parts)
whole-input parts =
    let start : Read Trace = record { state = none_read; rest = [] } in
    ap closed_held (parts-read start parts) ∙ closed-held (read_from taken none_read [] (flatten parts))

flatten-on : (s u : List (List ℕ)) → flatten (s ++ u) ≡ flatten s ++ flatten u
unfolding flatten
flatten-on [] u = refl
flatten-on (x ∷ s) u = ap (λ (y : List ℕ). x ++ y) (flatten-on s u) ∙ sym (append_assoc x (flatten s) (flatten u))

-- If the trace is decided after some first parts, they may be judged then, whatever parts follow.
pub early : (parts others : List (List ℕ)) → is_decided (parts_read none_held parts).trace ≡ true
    → closed_held (parts_read none_held parts) ≡ judgement (flatten (parts ++ others))
early parts others d =
    let start : Read Trace = record { state = none_read; rest = [] } in
    let r = read_from taken none_read [] (flatten parts) in
    let more = flatten others in
    let then = read_from taken r.state r.rest more in
    let is : is_decided r.state ≡ true = ap (λ (h : Held). is_decided h.trace) (sym (parts-read start parts)) ∙ d in
    whole-input parts
    ∙ decided-closed r.state r.rest then.rest is
    ∙ ap (λ (t : Trace). closed t then.rest)
    (sym (read_stays taken r.state (λ l. decided-stays r.state l is) r.rest more))
    ∙ ap closed_of (sym (read-on taken none_read [] (flatten parts) more))
    ∙ ap judgement (sym (flatten-on parts others))
