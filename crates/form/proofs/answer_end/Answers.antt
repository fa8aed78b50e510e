-- `form::answer_end` meets its contract: with no byte held nothing is written, else the answer to what is held.
-- Assumes nothing.
use borrow.Author.Rules.{rules}
use Prim.Native.Nat.{ℕ, ◌≤◌, ◌<◌, min}
use native.Mathlib.Omega.{arith}
use mathlib.Core.Path.{◌≡◌, sym, ap, ◌∙◌, subst}
use mathlib.Core.List.{List}
use lib.ListN.{length, take}
use lib.Seq.{length-take-le}
use Rattle.text.proofs.Firsts.{take-least}
use Rattle.form.proofs.Parts.{end_none, end-some}
use Rattle.form.specs.Parts.{room_bytes, EndAnswered}
use Rattle.form.proofs.answer_end.Goals as goal

pub returns-then-n-eq0 : goal.returns-then-n-eq0
returns-then-n-eq0 c = let a = c.args in
    let none : a.held.n ≡ 0 = omega (arith, c.min-n.ensures, c.if-n-eq0.true) in
    record { prefix_len = omega arith; end_answered = rw none (end_none a.out.now) }

pub answer-requires : goal.answer-requires
answer-requires c =
    let all : length c.args.held.room ≡ room_bytes = search rules in
    record {
      n_in_bounds = omega (arith, c.min-n.ensures, all);
      line_bytes_in_bounds = omega (arith, c.answer-arg-1.given.0.1);
    }

pub returns : goal.returns
returns c =
    let all : length c.args.held.room ≡ room_bytes = search rules in
    let w = c.answer in
    let a = c.args in
    let room = a.held.room in
    let held : take c.min-n.result room ≡ take a.held.n room
    = ap (λ (k : ℕ). take k room) (c.min-n.ensures ∙ ap (λ (k : ℕ). min a.held.n k) (sym (all)))
    ∙ take-least a.held.n room in
    let some : 0 < length (take c.min-n.result room)
    = omega (
      arith,
      length-take-le c.min-n.result room (omega (arith, c.min-n.ensures, all)),
      c.if-n-eq0.false,
    ) in
    let fits : w.result ≤ length w.new.out = omega (arith, w.ensures.upper_bound, w.auto) in record {
      prefix_len = (fits, sym (length-take-le w.result w.new.out fits));
      end_answered =
          subst (λ (h : List ℕ). EndAnswered h a.out.now w.new.out w.result) held
          (end-some (take c.min-n.result room) a.out.now w.new.out w.result some w.ensures.wrote_at);
    }
