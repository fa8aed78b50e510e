-- A line of text cut into fields at a separator, and places that hold what was read of them.
-- Assumes nothing.
use Rattle.std.specs.Prelude.{ℕ, suc, ◌+◌, ◌≤◌, ◌<◌, ◌≡◌, cond, List, [], ◌∷◌, eqb, length, get_or, drop}

-- a byte more in front of the first field
abbrev pub with_first : ℕ → List (List ℕ) → List (List ℕ)
with_first b [] = (b ∷ []) ∷ []
with_first b (f ∷ fs) = (b ∷ f) ∷ fs

-- The fields of a line are what stands between its separators, one more than there are of these. (An empty line has one
-- field, which is empty.)
abbrev pub fields : ℕ → List ℕ → List (List ℕ)
fields separator [] = [] ∷ []
fields separator (b ∷ s) = cond (eqb b separator) ([] ∷ fields separator s) (with_first b (fields separator s))

-- how long the first field is
abbrev pub field_length : ℕ → List ℕ → ℕ
field_length separator [] = 0
field_length separator (b ∷ s) = cond (eqb b separator) 0 (suc (field_length separator s))

-- the field that starts at byte a of a line ends before byte e
pub record EndsAt (separator : ℕ) (s : List ℕ) (a e : ℕ) : Type 0 where
  pub ends : e ≡ a + field_length separator (drop a s)
  pub behind : a ≤ e
  pub within : e ≤ length s

-- The places hold the values, and what they held where there is no value. (d stands for a place that is not there.)
abbrev pub Placed : {A : Type 0} → A → List A → List A → List A → Type 0
Placed d vs before after = (j : ℕ) → j < length before → get_or after j d ≡ get_or vs j (get_or before j d)
