-- A line by its length and by its first space. No more of a line need be looked at than shows that it is too long.
-- Assumes nothing.
use Prim.Native.Nat.{ℕ, suc, ◌+◌, ◌-◌, ◌≤◌, ◌<◌}
use native.Mathlib.Numerals.{add-one}
use native.Mathlib.Omega.{arith}
use mathlib.Core.Path.{◌≡◌, sym, ap, ◌∙◌}
use mathlib.Core.List.{List, []}
use mathlib.Core.Option.{none}
use lib.Dec.{leb}
use lib.ListN.{length, take, drop, length-drop}
use lib.Seq.{take_all, length-take-le}
use borrow.Author.Tests.{leb-true, leb-false, le-leb, lt-leb}
use Rattle.rules.proofs.Tests.{by-test}
use Rattle.text.specs.Text.{space}
use Rattle.fields.specs.Fields.{fields, field_length}
use Rattle.fields.proofs.Fields.{last-field, field-then}
use Rattle.lines.specs.Lines.{max_line, fit_in}
use Rattle.group_says.specs.Says.{same, entry_word, call_word, reply_word, numbers_of}
use Rattle.group_says.specs.Says.{entry_in, call_in, reply_in, by_word, by_fields, says}

-- LONG LINES

pub too_long : (s : List ℕ) → max_line < length s → says s ≡ none
unfolding says
too_long s h = rw (lt-leb (length s) max_line h)

pub first-enough : (s : List ℕ) → says (take (suc max_line) s) ≡ says s
first-enough s =
    by-test (leb (length s) (suc max_line))
    (λ y. ap says (take_all (suc max_line) s (leb-true (length s) (suc max_line) y)))
    (λ y. let h = leb-false (length s) (suc max_line) y in
    let full = length-take-le (suc max_line) s (omega arith) in
    too_long (take (suc max_line) s) (omega arith) ∙ sym (too_long s (omega arith)))

-- SHORT LINES

-- no event goes without numbers
no-numbers : (word : List ℕ) → by_word word [] ≡ none
unfolding by_word entry_in call_in reply_in fit_in
no-numbers word =
    by-test (same word entry_word) (λ y. rw y)
    (λ n. by-test (same word call_word) (λ y. rw (n, y))
    (λ m. by-test (same word reply_word) (λ y. rw (n, m, y)) (λ l. rw (n, m, l))))

-- with no space, there are none
pub word-alone : (s : List ℕ) → field_length space s ≡ length s → says s ≡ none
unfolding says numbers_of
word-alone s e =
    let alone : by_fields (fields space s) ≡ none = ap by_fields (last-field space s e) ∙ no-numbers s in
    by-test (leb (length s) max_line) (λ y. rw y alone) (λ y. rw y)

-- with one, they stand behind it
pub word-then : (s : List ℕ) (e : ℕ) → length s ≤ max_line → e ≡ field_length space s → e < length s
    → says s ≡ by_word (take e s) (numbers_of (fields space (take (length s - (e + 1)) (drop (e + 1) s))))
unfolding says
word-then s e short is there =
    let rest = take_all (length s - (e + 1)) (drop (e + 1) s) (omega (arith, length-drop (e + 1) s)) in
    rw (le-leb (length s) max_line short, rest)
    (ap by_fields (field-then space s (omega arith))
    ∙ ap (λ (k : ℕ). by_word (take k s) (numbers_of (fields space (drop (suc k) s)))) (sym is)
    ∙ ap (λ (k : ℕ). by_word (take e s) (numbers_of (fields space (drop k s)))) (sym (add-one e)))
