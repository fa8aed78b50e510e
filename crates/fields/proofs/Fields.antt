-- The fields of a line one by one.
-- Assumes nothing.
use Prim.Native.Nat.{ℕ, suc, ◌+◌, ◌≤◌, ◌<◌}
use native.Mathlib.Numerals.{add-one}
use native.Mathlib.Omega.{arith}
use mathlib.Core.Path.{◌≡◌, refl, sym, ap, ◌∙◌, subst}
use mathlib.Core.List.{List, [], ◌∷◌, map}
use lib.Dec.{eqb}
use lib.ListN.{length, get_or, take, drop, length-drop, get_or-map}
use lib.Seq.{drop-cons, drop-drop, get_or-drop}
use borrow.Author.Tests.{eq-eqb, ne_eqb}
use Rattle.rules.proofs.Tests.{by-test}
use Rattle.fields.specs.Fields.{with_first, fields, field_length}

first-with_first : (b : ℕ) (fs : List (List ℕ)) → get_or (with_first b fs) 0 [] ≡ b ∷ get_or fs 0 []
first-with_first b [] = refl
first-with_first b (f ∷ fs) = refl

some-with_first : (b : ℕ) (fs : List (List ℕ)) → 0 < length (with_first b fs)
some-with_first b [] = omega arith
some-with_first b (f ∷ fs) = omega arith

few-with_first : (b : ℕ) (fs : List (List ℕ)) (n : ℕ) → length fs ≤ n → 0 < n → length (with_first b fs) ≤ n
few-with_first b [] n h some = omega arith
few-with_first b (f ∷ fs) n h some = h

module _ (separator : ℕ) where
  -- THE FIRST FIELD

  -- with no separator, it is the only one
  pub last-field : (t : List ℕ) → field_length separator t ≡ length t → fields separator t ≡ t ∷ []
  last-field [] e = refl
  last-field (b ∷ t) e =
      by-test (eqb b separator) (λ y. absurd (omega (arith, rw y at e)))
      (λ n. let k : suc (field_length separator t) ≡ suc (length t) = rw n at e in rw (n, last-field t (omega arith)))

  -- with one, others follow
  pub field-then : (t : List ℕ) → field_length separator t < length t
      → fields separator t
      ≡ take (field_length separator t) t ∷ fields separator (drop (suc (field_length separator t)) t)
  field-then [] h = absurd (omega arith)
  field-then (b ∷ t) h =
      by-test (eqb b separator) (λ y. rw y)
      (λ n. let k : suc (field_length separator t) < suc (length t) = rw n at h in rw (n, field-then t (omega arith)))

  -- either way it stands first
  first_field : (t : List ℕ) → get_or (fields separator t) 0 [] ≡ take (field_length separator t) t
  first_field [] = refl
  first_field (b ∷ t) =
      by-test (eqb b separator) (λ y. rw y)
      (λ n. rw n (first-with_first b (fields separator t) ∙ ap (λ (f : List ℕ). b ∷ f) (first_field t)))

  some-field : (s : List ℕ) → 0 < length (fields separator s)
  some-field [] = omega arith
  some-field (b ∷ s) =
      by-test (eqb b separator) (λ y. rw y (omega arith)) (λ n. rw n (some-with_first b (fields separator s)))

  -- at most one for each byte, and one more
  pub few-fields : (s : List ℕ) → length (fields separator s) ≤ length s + 1
  few-fields [] = omega arith
  few-fields (b ∷ s) =
      let rest = few-fields s in
      by-test (eqb b separator) (λ y. rw y (omega arith))
      (λ n. rw n (few-with_first b (fields separator s) (suc (length s) + 1) (omega arith) (omega arith)))

  -- FROM BYTE i ON

  module _ (s : List ℕ) (i : ℕ) (there : i < length s) where
    pub at-separator : get_or s i 0 ≡ separator → field_length separator (drop i s) ≡ 0
    at-separator e = rw (drop-cons s i 0, eq-eqb (get_or s i 0) separator e)

    pub no-separator : (get_or s i 0 ≡ separator → ⊥)
        → field_length separator (drop i s) ≡ suc (field_length separator (drop (i + 1) s))
    no-separator e = rw (add-one, drop-cons s i 0, ne_eqb (get_or s i 0) separator e)

-- FROM FIELD TO FIELD

-- k fields have passed, and the next starts at byte a
pub record At (separator : ℕ) (s : List ℕ) (k a : ℕ) : Type 0 where
  pub within : a ≤ length s
  pub left : fields separator (drop a s) ≡ drop k (fields separator s)

pub at-start : {separator : ℕ} {s : List ℕ} → At separator s 0 0
at-start = record { within = omega arith; left = refl }

module _ {separator : ℕ} {s : List ℕ} {k a : ℕ} (here : At separator s k a) where
  abbrev all : List (List ℕ)
  all = fields separator s

  abbrev rest : List ℕ
  rest = drop a s

  abbrev long : ℕ
  long = field_length separator rest

  pub at_next : a + long < length s → At separator s (k + 1) (a + long + 1)
  at_next h = record {
    within = omega arith;
    left =
        let n : a + suc long ≡ a + long + 1 = omega arith in
        sym (
        sym (drop-drop 1 k all)
        ∙ ap (drop 1) (sym here.left ∙ field-then separator rest (omega (arith, length-drop a s)))
        ∙ ap (fields separator) (drop-drop (suc long) a s ∙ ap (λ (i : ℕ). drop i s) n)
        );
  }

  -- the field that is here, and what is read of it
  field_at : get_or all k [] ≡ take long rest
  field_at =
      let n : k + 0 ≡ k = omega arith in
      ap (λ (i : ℕ). get_or all i []) (sym n)
      ∙ sym (get_or-drop k all 0 [])
      ∙ ap (λ (fs : List (List ℕ)). get_or fs 0 []) (sym here.left)
      ∙ first_field separator rest

  pub value-here : {A : Type 0} (read : List ℕ → A) → get_or (map read all) k (read []) ≡ read (take long rest)
  value-here read = get_or-map read all k [] ∙ ap read field_at

  -- it is the last
  pub last-here : a + long ≡ length s → length all ≡ k + 1
  last-here e =
      let one : length (drop k all) ≡ 1
      = ap length (sym here.left ∙ last-field separator rest (omega (arith, length-drop a s))) in
      omega (arith, length-drop k all)

  -- there is one
  pub field-here : k < length all
  field-here =
      let some : 0 < length (drop k all)
      = subst (λ (fs : List (List ℕ)). 0 < length fs) here.left (some-field separator rest) in
      omega (arith, length-drop k all)
