-- `group_says::by_word` meets its contract, by which of the three words it is.
-- Assumes nothing.
use mathlib.Core.Path.{◌≡◌, sym, ◌∙◌}
use Prim.Native.Nat.{ℕ}
use mathlib.Core.Bool.{Bool, false}
use mathlib.Core.List.{List}
use Rattle.group_says.specs.Says.{same, by_word}
use Rattle.group_says.proofs.by_word.Goals as goal

-- past a test, it is another word
other : (w k : List ℕ) {b : Bool} → b ≡ same w k → b ≡ false → same w k ≡ false
other w k e t = sym e ∙ t

pub returns-then-is_word : goal.returns-then-is_word
unfolding by_word
returns-then-is_word c = rw (sym c.is_word.ensures ∙ c.if-is_word.true) c.entry_in.ensures

pub returns-then-is_word-2 : goal.returns-then-is_word-2
unfolding by_word
returns-then-is_word-2 c =
    rw (other _ _ c.is_word.ensures c.if-is_word.false, sym c.is_word-2.ensures ∙ c.if-is_word-2.true) c.call_in.ensures

pub returns-then-is_word-3 : goal.returns-then-is_word-3
unfolding by_word
returns-then-is_word-3 c =
    rw (other _ _ c.is_word.ensures c.if-is_word.false, other _ _ c.is_word-2.ensures c.if-is_word-2.false, sym c.is_word-3.ensures ∙ c.if-is_word-3.true)
    c.reply_in.ensures

pub returns : goal.returns
unfolding by_word
returns c =
    rw (other _ _ c.is_word.ensures c.if-is_word.false, other _ _ c.is_word-2.ensures c.if-is_word-2.false, sym c.is_word-3.ensures ∙ c.if-is_word-3.false)
