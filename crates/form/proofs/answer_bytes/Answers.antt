-- `form::answer_bytes` meets its contract. The loop's invariant: the first i bytes are answered, as a part is.
-- Assumes nothing.
use Prim.Native.Nat.{ℕ, ◌<◌}
use native.Mathlib.Numerals.{add-one}
use native.Mathlib.Omega.{arith}
use mathlib.Core.Path.{sym, ap, ◌∙◌, subst}
use mathlib.Core.List.{List}
use lib.ListN.{length, take}
use lib.Seq.{take-suc, take_all}
use Rattle.form.specs.declared.Standing.{Standing}
use Rattle.form.specs.Parts.{Answered}
use Rattle.form.proofs.Parts.{answered-few, answered-none, answered-on}
use Rattle.form.proofs.answer_bytes.Goals as goal

pub loop-b-init : goal.loop-b-init
loop-b-init c =
    let a = c.args in (
      c.requires.room_len.0,
      omega arith,
      answered-none a.room.now a.out.now a.n 0 c.requires.room_len.0 c.requires.room_len.1,
    )

pub take_byte-s-requires : goal.take_byte-s-requires
take_byte-s-requires c =
    let inv = c.loop-b.invariant in
    record { room_len = (inv.0, answered-few inv.2); line_bytes_in_bounds = omega arith }

pub loop-b-preserved : goal.loop-b-preserved
loop-b-preserved c = let t = c.take_byte-s in
    let a = c.args in
    let part = a.part.now in
    let inv = c.loop-b.invariant in
    let i = c.loop-b.b-index in
    let on = answered-on inv.2 t.ensures.answered c.requires.room_len.0 c.requires.room_len.1 (omega arith) in
    let there : i < length part = c.loop-b-test.true in
    let bytes = sym (take-suc part i 0 there) ∙ ap (λ (n : ℕ). take n part) (sym (add-one i)) in (
      t.auto.room ∙ inv.0,
      omega (arith, t.ensures.used_bound),
      subst (λ (p : List ℕ). Answered p a.room.now a.n t.new.room a.out.now 0 t.new.out
          t.result) bytes on,
    )

pub returns : goal.returns
returns c =
    let a = c.args in
    let inv = c.loop-b.invariant in
    let r : Standing = record { n = c.loop-b.held; used = c.loop-b.used } in record {
      answered =
          subst (λ (p : List ℕ). Answered p a.room.now a.n c.loop-b.room a.out.now 0 c.loop-b.out r)
          (take_all c.loop-b.b-index a.part.now (omega arith)) inv.2;
      used_in_bounds = omega arith;
    }
