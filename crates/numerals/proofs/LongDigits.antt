-- Digits read one by one, of a number that may not fit 64 bits.
-- Assumes nothing.
use Prim.Native.Nat.{ℕ, ◌+◌, ◌-◌, ◌*◌, ◌≤◌, ◌<◌}
use native.Mathlib.Numerals.{add-one}
use native.Mathlib.Omega.{arith}
use mathlib.Core.Path.{◌≡◌, refl}
use mathlib.Core.Bool.{Bool, true, false, cond}
use mathlib.Core.List.{List, [], ◌∷◌}
use mathlib.Core.Option.{some, none}
use lib.ListN.{length, get_or, drop}
use lib.Seq.{drop-cons}
use borrow.Author.Tests.{le-leb, lt-leb}
use Rattle.text.specs.Text.{max_count}
use Rattle.numerals.specs.Numbers.{is_digit, spelt}
use Rattle.numerals.specs.Plain.{up_to}
use Rattle.numerals.proofs.Digits.{goes_on}

-- a number that is too large stays so
stays : (t : Bool) (n : ℕ) (s : List ℕ)
    → up_to max_count (spelt n s) ≡ none → up_to max_count (cond t (spelt n s) none) ≡ none
stays true n s e = e
stays false n s e = refl

spelt-large : (n : ℕ) (s : List ℕ) → max_count < n → up_to max_count (spelt n s) ≡ none
spelt-large n [] h = rw (lt-leb n max_count h)
spelt-large n (b ∷ s) h = stays (is_digit b) (n * 10 + (b - 48)) s (spelt-large (n * 10 + (b - 48)) s (omega arith))

module _ (f : List ℕ) (n i : ℕ) (there : i < length f) where
  abbrev next : ℕ
  next = n * 10 + (get_or f i 0 - 48)

  spelt-at : spelt n (drop i f) ≡ cond (is_digit (get_or f i 0)) (spelt next (drop (i + 1) f)) none
  spelt-at = rw (add-one, drop-cons f i 0)

  pub overflows : is_digit (get_or f i 0) ≡ true → max_count < next → up_to max_count (spelt n (drop i f)) ≡ none
  overflows e h = rw (goes_on f n i there e) (spelt-large next (drop (i + 1) f) h)

pub within : (n : ℕ) → n ≤ max_count → up_to max_count (some n) ≡ some n
within n h = rw (le-leb n max_count h)
