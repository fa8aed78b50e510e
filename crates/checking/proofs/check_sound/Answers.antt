-- `checking::check_sound` meets its contract.
-- Assumes nothing.
use mathlib.Core.Path.{sym, ◌∙◌, subst}
use Rattle.checking.specs.Checking.{seen_in, Going}
use Rattle.checking.proofs.Steps.{checked-told, checked-by, checked-going}
use Rattle.checking.proofs.check_sound.Goals as goal

pub returns-then-not-is_agreeing : goal.returns-then-not-is_agreeing
returns-then-not-is_agreeing c = record {
  value = sym (checked-told c.args.k _ _ (sym c.is_agreeing.ensures ∙ c.if-not-is_agreeing.true));
  going = c.requires;
}

pub sound_heard-a-requires : goal.sound_heard-a-requires
sound_heard-a-requires c =
    c.requires (sym c.is_agreeing.ensures ∙ c.if-not-is_agreeing.false)

pub returns : goal.returns
returns c =
    let a = c.args in
    let step = c.sound_heard-a in
    let is = checked-by a.k _ (seen_in a.answer a.says a.charges.now) step.result _ _ _
    (sym c.is_agreeing.ensures ∙ c.if-not-is_agreeing.false)
    c.heard_in.ensures step.ensures c.number.ensures
    c.entered.ensures in record {
      value = is;
      going = subst Going (sym is) (checked-going a.k _ (seen_in a.answer a.says a.charges.now) c.requires);
    }
