-- `form::take_byte` meets its contract, by whether the byte is an LF.
-- Assumes nothing.
use Prim.Native.Nat.{ℕ, ◌+◌, min}
use native.Mathlib.Omega.{arith}
use mathlib.Core.Path.{◌≡◌, sym, subst}
use mathlib.Core.List.{List, [], ◌∷◌}
use Rattle.text.specs.Text.{WroteAt}
use Rattle.order.specs.Orders.{asked}
use Rattle.form.specs.Output.{line}
use Rattle.form.specs.Parts.{room_bytes, Answered}
use Rattle.form.proofs.Parts.{answered-lf, answered-other}
use Rattle.form.proofs.take_byte.Goals as goal

pub returns-then-b-eq-LF : goal.returns-then-b-eq-LF
returns-then-b-eq-LF c = let w = c.answer in
    let a = c.args in
    let order = c.without_cr-k.ensures.1 in record {
      answered =
          answered-lf a.room.now a.out.now a.n a.at c.requires.room_len.0 c.requires.room_len.1 a.b
          c.if-b-eq-LF.true w.new.out w.result
          (subst (λ (o : List ℕ). WroteAt a.at (line (asked o)) a.out.now w.new.out w.result) order
          w.ensures.wrote_at);
      used_bound = w.ensures.upper_bound;
    }

pub returns : goal.returns
returns c = let p = c.put in
    let a = c.args in
    let count : p.result ≡ min (a.n + 1) room_bytes = omega (arith, p.ensures.value, c.requires.room_len.0) in
    let held = answered-other a.room.now a.out.now a.n a.at c.requires.room_len.0 c.requires.room_len.1 a.b
    c.if-b-eq-LF.false in record {
      answered =
          subst (λ (k : ℕ). Answered (a.b ∷ []) a.room.now a.n p.new.room a.out.now a.at a.out.now
          (record { n = k; used = a.at })) (sym count)
          (subst (λ (x : List ℕ). Answered (a.b ∷ []) a.room.now a.n x a.out.now a.at a.out.now
          (record { n = min (a.n + 1) room_bytes; used = a.at })) (sym p.ensures.room_after) held);
      used_bound = omega arith;
    }
