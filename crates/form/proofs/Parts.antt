-- A part behind a part is answered as the two in one, and a part of one byte as an LF or another byte is.
-- Assumes nothing.
use Prim.Native.Nat.{ℕ, suc, ◌+◌, ◌≤◌, ◌<◌, min}
use native.Mathlib.Omega.{arith}
use mathlib.Core.Path.{◌≡◌, refl, sym, ap, ◌∙◌, subst}
use mathlib.Core.List.{List, [], ◌∷◌, ◌++◌, map, append-nil}
use lib.Dec.{eqb, ltb}
use lib.ListN.{length, take, set, length-append, length-take}
use lib.Seq.{take_all, take-suc-set, take-append-le, set_out, length-take-le}
use borrow.Author.Tests.{eq-eqb, ne_eqb, ltb-true, ltb-false}
use Rattle.rules.proofs.Tests.{by-test}
use Rattle.text.specs.Text.{lf, WroteAt}
use Rattle.text.proofs.Written.{wrote_none, wrote_on}
use Rattle.text.proofs.Firsts.{take-least, held_on}
use Rattle.order.specs.Orders.{asked}
use Rattle.form.specs.declared.Standing.{Standing}
use Rattle.form.specs.Input.{without_cr, ended, behind, last}
use Rattle.form.specs.Output.{line, lines}
use Rattle.form.specs.Parts.{room_bytes, held_after, room_after, Answered, EndAnswered}
use Rattle.form.proofs.Seams.{behind-held, lines_then, held_then}

-- THE ROOM

-- the count goes with what is held
room-on : (room : List ℕ) (n : ℕ) (held s t : List ℕ) → length held ≡ n → n ≤ room_bytes
    → room_after room n (s ++ t) ≡ room_after (room_after room n s) (length (held_after held s)) t
room-on room n held [] t e h =
    ap (λ (k : ℕ). room_after room k t) (sym e ∙ ap length (sym (take_all room_bytes held (omega arith))))
room-on room n held (b ∷ s) t e h =
    by-test (eqb b lf)
    (λ y. rw y (room-on room 0 [] s t refl (omega arith)))
    (λ f. let more = held ++ (b ∷ []) in
    let k = min (n + 1) room_bytes in
    let long : length (take room_bytes more) ≡ k
    = omega (arith, length-take room_bytes more, length-append held (b ∷ [])) in
    rw f (
    room-on (set room n b) k (take room_bytes more) s t long (omega arith)
    ∙ ap (λ (u : List ℕ). room_after (room_after (set room n b) k s) (length u) t) (behind-held more s)
    ))

-- PART BEHIND PART

module _ {s t room room' room'' out out' out'' : List ℕ} {n at : ℕ} {r r' : Standing} where
  pub answered-on : Answered s room n room' out at out' r → Answered t room' r.n room'' out' r.used out'' r'
      → length room ≡ room_bytes → n ≤ room_bytes → r.used ≤ length out
      → Answered (s ++ t) room n room'' out at out'' r'
  answered-on first next all few fits =
      let h = take n room in
      let then = held_then h s t in
      let long : length h ≡ n = length-take-le n room (omega arith) in
      let count : min r.n room_bytes ≡ length (held_after h s)
      = omega (arith, first.count, length-take room_bytes (behind h s)) in
      let start : min n room_bytes ≡ n = omega arith in
      record {
        text = subst (λ (x : List ℕ). WroteAt at x out out'' r'.used)
            (ap (λ (u : List ℕ). lines (map asked (ended h s)) ++ lines (map asked (ended u t))) first.held
            ∙ sym (lines_then h s t))
            (wrote_on first.text fits next.text);
        count = next.count ∙ ap (λ (u : List ℕ). length (held_after u t)) first.held ∙ ap length (sym then);
        held = next.held ∙ ap (λ (u : List ℕ). held_after u t) first.held ∙ sym then;
        bytes =
            next.bytes
            ∙ ap (λ (x : List ℕ). room_after x (min r.n room_bytes) t) first.bytes
            ∙ ap (λ (k : ℕ). room_after (room_after room (min n room_bytes) s) k t) count
            ∙ ap (λ (k : ℕ). room_after (room_after room k s) (length (held_after h s)) t) start
            ∙ sym (room-on room n h s t long few)
            ∙ ap (λ (k : ℕ). room_after room k (s ++ t)) (sym start);
      }

-- NO BYTE, AND ONE

module _ (room out : List ℕ) (n at : ℕ) (all : length room ≡ room_bytes) (few : n ≤ room_bytes) where
  long : length (take n room) ≡ n
  long = length-take-le n room (omega arith)

  pub answered-none : Answered [] room n room out at out (record { n = n; used = at })
  answered-none =
      let same = take_all room_bytes (take n room) (omega (arith, long)) in
      record {
        text = wrote_none at out;
        count = sym long ∙ ap length (sym same);
        held = sym same;
        bytes = refl;
      }

  pub answered-lf : (b : ℕ) → b ≡ lf → (out' : List ℕ) (used : ℕ)
      → WroteAt at (line (asked (without_cr (take n room)))) out out' used
      → Answered (b ∷ []) room n room out at out' (record { n = 0; used = used })
  answered-lf b e out' used w =
      let y = eq-eqb b lf e in
      record {
        text =
            let one = sym (append-nil (line (asked (without_cr (take n room))))) in
            rw y (subst (λ (x : List ℕ). WroteAt at x out out' used) one w);
        count = rw y;
        held = rw y;
        bytes = rw y;
      }

  held_one : (b : ℕ) → take (min (n + 1) room_bytes) (set room n b) ≡ take room_bytes (take n room ++ (b ∷ []))
  held_one b =
      by-test (ltb n room_bytes)
      (λ y. let h = ltb-true n room_bytes y in
      let m : min (n + 1) room_bytes ≡ suc n = omega arith in
      let k : length (take n room ++ (b ∷ [])) ≤ room_bytes
      = omega (arith, length-append (take n room) (b ∷ []), long) in
      rw m (take-suc-set room n b (omega arith) ∙ sym (take_all room_bytes (take n room ++ (b ∷ [])) k)))
      (λ f. let h = ltb-false n room_bytes f in
      let m : min (n + 1) room_bytes ≡ room_bytes = omega arith in
      let e : n ≡ room_bytes = omega arith in
      rw (m, set_out room n b (omega arith), e) (
      sym (held_on room_bytes room (b ∷ []) ∙ take-append-le room_bytes room (b ∷ []) (omega arith))
      ))

  pub answered-other : (b : ℕ) → (b ≡ lf → ⊥)
      → Answered (b ∷ []) room n (set room n b) out at out (record { n = min (n + 1) room_bytes; used = at })
  answered-other b e =
      let f = ne_eqb b lf e in
      let start : min n room_bytes ≡ n = omega arith in
      record {
        text = rw f (wrote_none at out);
        count =
            let more = take n room ++ (b ∷ []) in
            rw f (omega (arith, length-take room_bytes more, length-append (take n room) (b ∷ []), long));
        held = rw f (held_one b);
        bytes = rw f (ap (λ (k : ℕ). set room k b) (sym start));
      }

-- no more than the room is held
pub answered-few : {s room room' out out' : List ℕ} {n at : ℕ} {r : Standing} → Answered s room n room' out at out' r
    → r.n ≤ room_bytes
answered-few {s} {room} {room'} {out} {out'} {n} {at} {r} a =
    omega (arith, a.count, length-take room_bytes (behind (take n room) s))

pub answered-least : {s room room' out out' : List ℕ} {n at : ℕ} {r : Standing} → length room ≡ room_bytes
    → Answered s room (min n room_bytes) room' out at out' r → Answered s room n room' out at out' r
answered-least {s} {room} {room'} {out} {out'} {n} {at} {r} all a =
    let same : take (min n room_bytes) room ≡ take n room
    = ap (λ (k : ℕ). take (min n k) room) (sym all) ∙ take-least n room in
    let twice : min (min n room_bytes) room_bytes ≡ min n room_bytes = omega arith in
    record {
      text = subst (λ (h : List ℕ). WroteAt at (lines (map asked (ended h s))) out out' r.used) same a.text;
      count = a.count ∙ ap (λ (h : List ℕ). length (held_after h s)) same;
      held = a.held ∙ ap (λ (h : List ℕ). held_after h s) same;
      bytes = a.bytes ∙ ap (λ (k : ℕ). room_after room k s) twice;
    }

-- THE END OF THE INPUT

pub end_none : (out : List ℕ) → EndAnswered [] out out 0
end_none out = wrote_none 0 out

end_line : (b : ℕ) (s : List ℕ) → line (asked (b ∷ s)) ≡ lines (map asked (last (b ∷ s)))
end_line b s = sym (append-nil (line (asked (b ∷ s))))

pub end-some : (held out out' : List ℕ) (used : ℕ) → 0 < length held → WroteAt 0 (line (asked held)) out out' used
    → EndAnswered held out out' used
end-some [] out out' used h w = absurd (omega arith)
end-some (b ∷ s) out out' used h w = subst (λ (x : List ℕ). WroteAt 0 x out out' used) (end_line b s) w
