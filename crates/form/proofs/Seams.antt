-- Nothing is lost or joined where a part of the input ends: what is held of an order is enough to answer it, and
-- however the input is cut, what is written for its parts is what answers the whole.
-- Assumes nothing.
use Prim.Native.Nat.{ℕ, ◌+◌, ◌-◌, ◌≤◌}
use native.Mathlib.Omega.{arith}
use mathlib.Core.Path.{◌≡◌, refl, sym, ap, ◌∙◌}
use mathlib.Core.List.{List, [], ◌∷◌, ◌++◌, map, map-append, append_assoc, flatten}
use lib.Dec.{eqb, ltb}
use lib.ListN.{length, get_or, take}
use lib.Seq.{take_all, take-take, length-take-le}
use borrow.Author.Tests.{ltb-true, ltb-false}
use Rattle.rules.specs.Quote.{Quote}
use Rattle.rules.proofs.Tests.{by-test}
use Rattle.order.specs.Orders.{asked}
use Rattle.order.proofs.Asked.{too_long}
use Rattle.text.specs.Text.{lf, cr}
use Rattle.text.proofs.Firsts.{held_on}
use Rattle.form.specs.Input.{without_cr, ended, behind, last, answers}
use Rattle.form.specs.Output.{line, lines}
use Rattle.form.specs.Parts.{room_bytes, held_after, output}

-- WHAT IS HELD IS ENOUGH

length-order : (s : List ℕ) → length s ≤ length (without_cr s) + 1
length-order s =
    by-test (eqb (get_or s (length s - 1) 0) cr)
    (λ y. rw y (omega (arith, length-take-le (length s - 1) s (omega arith))))
    (λ n. rw n (omega arith))

-- for an order that an LF ends, and for the last
ended-enough : (s : List ℕ) → asked (without_cr (take room_bytes s)) ≡ asked (without_cr s)
ended-enough s =
    by-test (ltb room_bytes (length s))
    (λ y. let h = ltb-true room_bytes (length s) y in
    let k = length-take-le room_bytes s (omega arith) in
    too_long (without_cr (take room_bytes s)) (omega (arith, length-order (take room_bytes s)))
    ∙ sym (too_long (without_cr s) (omega (arith, length-order s))))
    (λ f. ap (λ (u : List ℕ). asked (without_cr u)) (take_all room_bytes s (ltb-false room_bytes (length s) f)))

last-enough : (s : List ℕ) → asked (take room_bytes s) ≡ asked s
last-enough s =
    by-test (ltb room_bytes (length s))
    (λ y. let h = ltb-true room_bytes (length s) y in
    let k = length-take-le room_bytes s (omega arith) in
    too_long (take room_bytes s) (omega arith) ∙ sym (too_long s (omega arith)))
    (λ f. ap asked (take_all room_bytes s (ltb-false room_bytes (length s) f)))

-- for all that a part ends
pub ended_held : (begun part : List ℕ) → map asked (ended (take room_bytes begun) part) ≡ map asked (ended begun part)
ended_held begun [] = refl
ended_held begun (b ∷ part) =
    by-test (eqb b lf)
    (λ y. rw y (ap (λ (q : Quote). q ∷ map asked (ended [] part)) (ended-enough begun)))
    (λ n. let more = b ∷ [] in
    rw n (
    sym (ended_held (take room_bytes begun ++ more) part)
    ∙ ap (λ (u : List ℕ). map asked (ended u part)) (held_on room_bytes begun more)
    ∙ ended_held (begun ++ more) part
    ))

-- and for what is held after it
pub behind-held : (begun part : List ℕ) → held_after (take room_bytes begun) part ≡ held_after begun part
behind-held begun [] = take-take room_bytes room_bytes begun (omega arith)
behind-held begun (b ∷ part) =
    by-test (eqb b lf)
    (λ y. rw y)
    (λ n. let more = b ∷ [] in
    rw n (
    sym (behind-held (take room_bytes begun ++ more) part)
    ∙ ap (λ (u : List ℕ). held_after u part) (held_on room_bytes begun more)
    ∙ behind-held (begun ++ more) part
    ))

last-held : (s : List ℕ) → map asked (last (take room_bytes s)) ≡ map asked (last s)
last-held [] = refl
last-held (b ∷ s) = ap (λ (q : Quote). q ∷ []) (last-enough (b ∷ s))

-- PART BEHIND PART

pub ended-on : (begun s t : List ℕ) → ended begun (s ++ t) ≡ ended begun s ++ ended (behind begun s) t
ended-on begun [] t = refl
ended-on begun (b ∷ s) t =
    by-test (eqb b lf)
    (λ y. rw y (ap (λ (os : List (List ℕ)). without_cr begun ∷ os) (ended-on [] s t)))
    (λ n. rw n (ended-on (begun ++ (b ∷ [])) s t))

pub behind-on : (begun s t : List ℕ) → behind begun (s ++ t) ≡ behind (behind begun s) t
behind-on begun [] t = refl
behind-on begun (b ∷ s) t =
    by-test (eqb b lf) (λ y. rw y (behind-on [] s t)) (λ n. rw n (behind-on (begun ++ (b ∷ [])) s t))

pub lines-on : (p q : List Quote) → lines (p ++ q) ≡ lines p ++ lines q
lines-on [] q = refl
lines-on (a ∷ p) q = ap (λ (s : List ℕ). line a ++ s) (lines-on p q) ∙ sym (append_assoc (line a) (lines p) (lines q))

-- the lines of a part, and then of what follows with what is held
pub lines_then : (begun s t : List ℕ)
    → lines (map asked (ended begun (s ++ t)))
    ≡ lines (map asked (ended begun s)) ++ lines (map asked (ended (held_after begun s) t))
lines_then begun s t =
    ap (λ (os : List (List ℕ)). lines (map asked os)) (ended-on begun s t)
    ∙ ap lines (map-append asked (ended begun s) (ended (behind begun s) t))
    ∙ lines-on (map asked (ended begun s)) (map asked (ended (behind begun s) t))
    ∙ ap (λ (qs : List Quote). lines (map asked (ended begun s)) ++ lines qs) (sym (ended_held (behind begun s) t))

pub held_then : (begun s t : List ℕ) → held_after begun (s ++ t) ≡ held_after (held_after begun s) t
held_then begun s t = ap (take room_bytes) (behind-on begun s t) ∙ sym (behind-held (behind begun s) t)

-- THE WHOLE INPUT

-- the answers to an input of which an order has begun
abbrev rest : List ℕ → List ℕ → List Quote
rest begun s = map asked (ended begun s) ++ map asked (last (behind begun s))

rest-on : (begun s t : List ℕ) → rest begun (s ++ t) ≡ map asked (ended begun s) ++ rest (behind begun s) t
rest-on begun s t =
    rw (ended-on begun s t, behind-on begun s t)
    (rw (map-append asked (ended begun s) (ended (behind begun s) t), append_assoc))

output-rest : (begun : List ℕ) (parts : List (List ℕ))
    → output (take room_bytes begun) parts ≡ lines (rest begun (flatten parts))
unfolding flatten
output-rest begun [] = ap lines (last-held begun)
output-rest begun (part ∷ parts) =
    let first = map asked (ended begun part) in
    let more = flatten parts in
    ap (λ (qs : List Quote). lines qs ++ output (held_after (take room_bytes begun) part) parts) (ended_held begun part)
    ∙ ap (λ (h : List ℕ). lines first ++ output h parts) (behind-held begun part)
    ∙ ap (λ (s : List ℕ). lines first ++ s) (output-rest (behind begun part) parts)
    ∙ sym (lines-on first (rest (behind begun part) more))
    ∙ ap lines (sym (rest-on begun part more))

-- However an input is cut into parts, what is written for them is its answers, a line each.
pub whole-input : (parts : List (List ℕ)) → output [] parts ≡ lines (answers (flatten parts))
whole-input parts =
    let s = flatten parts in output-rest [] parts ∙ ap lines (sym (map-append asked (ended [] s) (last (behind [] s))))
