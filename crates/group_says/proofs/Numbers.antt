-- The numbers of a line, read field by field.
-- Assumes nothing.
use Prim.Native.Nat.{ℕ, zero, suc, ◌≤◌, ◌<◌}
use native.Mathlib.Omega.{arith}
use mathlib.Core.Path.{◌≡◌, refl, sym, ap, ◌∙◌}
use mathlib.Core.List.{List, [], ◌∷◌, map}
use mathlib.Core.Option.{Option, some, none}
use lib.Dec.{leb}
use lib.ListN.{length, get_or, take, drop, length-map, get_or-map}
use borrow.Author.Tests.{le-leb, lt-leb}
use Rattle.rules.proofs.Tests.{by-test}
use Rattle.fields.specs.Fields.{fields, field_length, Placed}
use Rattle.fields.proofs.Fields.{At, value-here}
use Rattle.fields.proofs.Placed.{placed_first}
use Rattle.numerals.specs.Plain.{long_of}
use Rattle.group_says.specs.Says.{with_number, longs_of, most_numbers, numbers_of}

-- A LINE THAT SAYS NO NUMBERS

pub too_many : (fs : List (List ℕ)) → most_numbers < length fs → numbers_of fs ≡ []
unfolding numbers_of
too_many fs h = rw (lt-leb (length fs) most_numbers h)

none-behind : (o : Option ℕ) → with_number o none ≡ none
none-behind none = refl
none-behind (some n) = refl

one_none : (fs : List (List ℕ)) (n : ℕ) → n < length fs → long_of (get_or fs n []) ≡ none → longs_of fs ≡ none
one_none [] n h e = absurd (omega arith)
one_none (f ∷ fs) zero h e = rw e
one_none (f ∷ fs) (suc n) h e = rw (one_none fs n (omega arith) e) (none-behind (long_of f))

pub no_number : (fs : List (List ℕ)) (n : ℕ) → n < length fs → long_of (get_or fs n []) ≡ none → numbers_of fs ≡ []
unfolding numbers_of
no_number fs n h e =
    by-test (leb (length fs) most_numbers) (λ y. rw (y, one_none fs n h e)) (λ y. rw y)

-- A LINE THAT SAYS NUMBERS

-- the number of a field, 0 where it says none
abbrev pub number_in : Option ℕ → ℕ
number_in none = 0
number_in (some n) = n

abbrev pub field_number : List ℕ → ℕ
field_number f = number_in (long_of f)

-- a field says a number
abbrev pub Says : List (List ℕ) → ℕ → Type 0
Says fs j = long_of (get_or fs j []) ≡ some (field_number (get_or fs j []))

-- each does
all_say : (fs : List (List ℕ)) → ((j : ℕ) → j < length fs → Says fs j) → longs_of fs ≡ some (map field_number fs)
all_say [] each = refl
all_say (f ∷ fs) each = rw (each 0 (omega arith), all_say fs (λ j h. each (suc j) (omega arith)))

-- they stand in the first places
pub numbers-placed : (fs : List (List ℕ)) (n : ℕ) (before v : List ℕ) → length fs ≡ n → n ≤ most_numbers
    → length v ≡ length before → most_numbers ≤ length before
    → ((j : ℕ) → j < n → Says fs j) → Placed 0 (map field_number fs) before v
    → (n ≡ length (numbers_of fs)) × (take n v ≡ numbers_of fs)
unfolding numbers_of
numbers-placed fs n before v all few long enough each placed =
    let these : take n v ≡ map field_number fs
    = ap (λ (k : ℕ). take k v) (sym (length-map fs field_number ∙ all))
    ∙ placed_first 0 (map field_number fs) before v long (omega (arith, length-map fs field_number)) placed in
    rw (le-leb (length fs) most_numbers (omega arith), all_say fs (λ j h. each j (omega arith)))
    (sym (length-map fs field_number ∙ all), these)

-- THE NEXT FIELD

module _ {separator : ℕ} {s : List ℕ} {n a : ℕ} (here : At separator s n a) where
  pub number-here :
      long_of (get_or (fields separator s) n []) ≡ long_of (take (field_length separator (drop a s)) (drop a s))
  number-here = sym (get_or-map long_of (fields separator s) n []) ∙ value-here here long_of

-- a number that is read of a field is what the field says
pub says_some : (fs : List (List ℕ)) (n x : ℕ) → long_of (get_or fs n []) ≡ some x → Says fs n
says_some fs n x e = rw e
