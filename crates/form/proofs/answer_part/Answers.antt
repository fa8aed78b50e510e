-- `form::answer_part` meets its contract: no more is answered than part and room hold, and there is room for it.
-- Assumes nothing.
use borrow.Author.Rules.{rules}
use Prim.Native.Nat.{ℕ, ◌≤◌, min}
use native.Mathlib.Omega.{arith}
use mathlib.Core.Path.{◌≡◌, sym, ap, ◌∙◌, subst}
use mathlib.Core.List.{List}
use lib.ListN.{length, take}
use lib.Seq.{length-take-le}
use Rattle.text.proofs.Firsts.{take-least}
use Rattle.form.specs.Parts.{room_bytes, Answered}
use Rattle.form.proofs.Parts.{answered-least}
use Rattle.form.proofs.answer_part.Goals as goal

pub slice_bounds-answer_bytes-end : goal.slice_bounds-answer_bytes-end
slice_bounds-answer_bytes-end c =
    let there : c.min-end.result ≤ length c.args.part.now = omega (arith, c.min-end.ensures, c.bytes-1.given) in
    sym (length-take-le c.min-end.result c.args.part.now there)

pub answer_bytes-s-requires : goal.answer_bytes-s-requires
answer_bytes-s-requires c =
    let all : length c.args.held.room ≡ room_bytes = search rules in
    let there : c.min-end.result ≤ length c.args.part.now = omega (arith, c.min-end.ensures, c.bytes-1.given) in
    let part = c.args.part.now in
    let n = c.min-n in
    let few : n.result ≤ room_bytes = omega (arith, n.ensures) in record {
      room_len = (all, few);
      line_bytes_in_bounds = omega (
        arith,
        length-take-le c.min-end.result part there,
        c.min-end.ensures,
        c.answer_bytes-arg-1.given,
      );
    }

pub returns : goal.returns
returns c =
    let all : length c.args.held.room ≡ room_bytes = search rules in
    let r = c.answer_bytes-s in
    let a = c.args in
    let part = a.part.now in
    let first = take c.min-end.result part in
    let bytes : first ≡ take a.k part
    = ap (λ (n : ℕ). take n part) (c.min-end.ensures ∙ ap (λ (n : ℕ). min a.k n) (sym c.bytes-1.given))
    ∙ take-least a.k part in
    let held : Answered first a.held.room (min a.held.n room_bytes) r.new.room a.out.now 0
    r.new.out r.result
    = subst (λ (n : ℕ). Answered first a.held.room n r.new.room a.out.now 0 r.new.out
    r.result) c.min-n.ensures r.ensures.answered in
    let fits : r.result.used ≤ length r.new.out = omega (arith, r.ensures.used_in_bounds, r.auto.out) in record {
      prefix_len = (fits, sym (length-take-le r.result.used r.new.out fits));
      answered =
          subst (λ (p : List ℕ). Answered p a.held.room a.held.n r.new.room a.out.now 0
          r.new.out r.result) bytes (answered-least all held);
    }
