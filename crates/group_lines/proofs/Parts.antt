-- However an input is cut into parts, what is told of them is what is told of the whole; and after a malformed line
-- nothing is told of whatever follows.
-- Assumes nothing.
use Prim.Native.Nat.{ℕ}
use mathlib.Core.Path.{◌≡◌, refl, sym, ap, ap₂, ◌∙◌}
use mathlib.Core.Bool.{true}
use mathlib.Core.List.{List, [], ◌∷◌, ◌++◌, append_assoc, flatten}
use lib.ListN.{take}
use Rattle.lines.specs.Input.{Read, held_to, read_from}
use Rattle.lines.proofs.Input.{read-on, read_stays}
use Rattle.lines.proofs.Steps.{held-read}
use Rattle.lines.proofs.Room.{room-held}
use Rattle.group_lines.specs.declared.Held.{Held}
use Rattle.group_lines.specs.Reading.{Progress, taken, none_read, end_text, told, report}
use Rattle.group_lines.specs.Parts.{room_bytes, stored, held_of, begun_in, none_held, part_from, read_in}
use Rattle.group_lines.specs.Parts.{part_read, part_text, output}
use Rattle.group_lines.proofs.Ending.{end-held, end-malformed}
use Rattle.group_lines.proofs.Lines.{held-enough, malformed-stays, behind, text-behind}

-- WHAT IS HELD

held-begun : (r : Read Progress) → begun_in (held_of r) ≡ take room_bytes r.rest
held-begun r = room-held room_bytes (take room_bytes r.rest)

-- what was told before does not matter for what follows
output-behind : (text : List ℕ) (r : Read Progress) (parts : List (List ℕ))
    → output (held_of (behind text r)) parts ≡ output (held_of r) parts
output-behind text r [] = refl
output-behind text r (part ∷ parts) = refl

-- PART BEHIND PART

module _ (r : Read Progress) (part : List ℕ) where
  abbrev fresh : Read Progress
  fresh = part_from r.state.run r.rest part

  same : held_to room_bytes (read_in (held_of r) part) ≡ held_to room_bytes fresh
  same =
      ap (λ (s : List ℕ). held_to room_bytes (part_from r.state.run s part)) (held-begun r)
      ∙ held-read taken room_bytes held-enough (record { run = r.state.run; text = [] }) r.rest part

  -- it is told, and held, as if all before it were held
  part-text : part_text (held_of r) part ≡ fresh.state.text
  part-text = ap (λ (x : Read Progress). x.state.text) same

  part-read : part_read (held_of r) part ≡ held_of fresh
  part-read = ap stored same

whole : (r : Read Progress) (parts : List (List ℕ))
    → r.state.text ++ output (held_of r) parts ≡ told (read_from taken r.state r.rest (flatten parts))
unfolding flatten
whole r [] =
    ap (λ (s : List ℕ). r.state.text ++ end_text r.state.run s) (held-begun r)
    ∙ ap (λ (t : List ℕ). r.state.text ++ t) (end-held r.state.run r.rest)
whole r (part ∷ parts) =
    let before = r.state.text in
    let q = fresh r part in
    let all = behind before q in
    ap₂ (λ (t : List ℕ) (h : Held). before ++ (t ++ output h parts)) (part-text r part) (part-read r part)
    ∙ sym (append_assoc before q.state.text (output (held_of q) parts))
    ∙ ap (λ (t : List ℕ). (before ++ q.state.text) ++ t) (sym (output-behind before q parts))
    ∙ whole all parts
    ∙ ap (λ (x : Read Progress). told (read_from taken x.state x.rest (flatten parts)))
    (sym (text-behind r.state.run before r.rest part))
    ∙ ap told (sym (read-on taken r.state r.rest part (flatten parts)))

-- THE WHOLE INPUT

-- Parts read one after the other, each from what was held after the one before, and the end.
pub whole-input : (parts : List (List ℕ)) → output none_held parts ≡ report (flatten parts)
whole-input parts = whole (record { state = record { run = none_read; text = [] }; rest = [] }) parts

-- Once a line was malformed, nothing more is told.
pub early : (h : Held) → h.run.malformed ≡ true → (parts : List (List ℕ)) → output h parts ≡ []
early h e [] = end-malformed h.run e (begun_in h)
early h e (part ∷ parts) =
    let start : Progress = record { run = h.run; text = [] } in
    let stays = read_stays taken start (malformed-stays start e) (begun_in h) part in
    ap (λ (p : Progress). p.text ++ output (part_read h part) parts) stays
    ∙ early (part_read h part) (ap (λ (p : Progress). p.run.malformed) stays ∙ e) parts
