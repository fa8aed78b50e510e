-- What is read of the fields, placed one by one.
-- Assumes nothing.
use Prim.Native.Nat.{ℕ, zero, suc, ◌+◌, ◌-◌, ◌≤◌, ◌<◌}
use native.Mathlib.Omega.{arith}
use mathlib.Core.Path.{◌≡◌, refl, sym, ap, ◌∙◌, subst}
use mathlib.Core.List.{List, [], ◌∷◌, map}
use lib.Dec.{eqb, ltb}
use lib.ListN.{length, get_or, take, drop, set, replicate, length-take, length-set, length-map, length-replicate}
use lib.ListN.{get_or-replicate, get_or-eq_default}
use lib.Seq.{take_all, length-take-le, get_or-take, get_or-set_same, get_or-set_other, ext_get_or}
use borrow.Author.Tests.{eqb-true, eqb-false, ltb-true, ltb-false}
use Rattle.rules.proofs.Tests.{by-test}
use Rattle.fields.specs.Fields.{fields, field_length, EndsAt, Placed}
use Rattle.fields.proofs.Fields.{At, at-start, at_next, value-here, last-here, field-here}

-- within a list, what stands for a missing element does not matter
pub get_d_any : {A : Type 0} (l : List A) (i : ℕ) (d e : A) → i < length l → get_or l i d ≡ get_or l i e
get_d_any [] i d e h = absurd (omega arith)
get_d_any (x ∷ l) zero d e h = refl
get_d_any (x ∷ l) (suc i) d e h = get_d_any l i d e (omega arith)

-- over places that all held one value, a value that is missing is that one
pub placed_at : {A : Type 0} (d : A) (vs v : List A) (n : ℕ) (e : A) → Placed d vs (replicate n e) v
    → (j : ℕ) → j < n → get_or v j d ≡ get_or vs j e
placed_at d vs v n e placed j h =
    placed j (omega (arith, length-replicate n e)) ∙ ap (get_or vs j) (get_or-replicate n j e d h)

-- values for each of which there is a place are the first places
pub placed_first : {A : Type 0} (d : A) (vs before v : List A) → length v ≡ length before → length vs ≤ length before
    → Placed d vs before v → take (length vs) v ≡ vs
placed_first d vs before v long few placed =
    let n = length-take-le (length vs) v (omega arith) in
    ext_get_or d (take (length vs) v) vs n
    (λ j h. get_or-take (length vs) v j d (omega arith)
    ∙ placed j (omega arith)
    ∙ get_d_any vs j (get_or before j d) d (omega arith))

-- ONE MORE

module _ {A : Type 0} (d : A) (vs before v : List A) (n : ℕ) (x e : A) (long : length v ≡ length before)
    (there : n < length vs) (is : x ≡ get_or vs n e) (placed : Placed d (take n vs) before v) where
  other : (j : ℕ) (o : A) → (j ≡ n → ⊥) → get_or (take n vs) j o ≡ get_or (take (n + 1) vs) j o
  other j o ne =
      by-test (ltb j n)
      (λ y. let h = ltb-true j n y in get_or-take n vs j o h ∙ sym (get_or-take (n + 1) vs j o (omega arith)))
      (λ f. let h = ltb-false j n f in
      get_or-eq_default (take n vs) o (omega (arith, length-take n vs))
      ∙ sym (get_or-eq_default (take (n + 1) vs) o (omega (arith, length-take (n + 1) vs, ne))))

  one_more : Placed d (take (n + 1) vs) before (set v n x)
  one_more j h =
      by-test (eqb j n)
      (λ y. let q = eqb-true j n y in
      let o = get_or before n d in
      rw q (
      get_or-set_same v n x d (omega arith)
      ∙ is
      ∙ get_d_any vs n e o there
      ∙ sym (get_or-take (n + 1) vs n o (omega arith))
      ))
      (λ f. let q = eqb-false j n f in get_or-set_other v n j x d q ∙ placed j h ∙ other j (get_or before j d) q)

-- A LINE HALF READ

-- n fields are read and placed, and the next starts at byte a, if there is one
pub record Reading {A : Type 0} (d : A) (separator : ℕ) (read : List ℕ → A) (s : List ℕ) (before v : List A) (n a : ℕ)
    : Type 0 where
  pub long : length v ≡ length before
  pub few : (n ≤ a) × (a ≤ length s + 1)
  pub next : a ≤ length s → At separator s n a
  pub done : length s < a → length (fields separator s) ≡ n
  pub placed : Placed d (take n (map read (fields separator s))) before v

pub starting : {A : Type 0} {d : A} {separator : ℕ} {read : List ℕ → A} {s : List ℕ} {before : List A}
    → Reading d separator read s before before 0 0
starting =
    record {
      long = refl;
      few = omega arith;
      next = λ h. at-start;
      done = λ h. absurd (omega arith);
      placed = λ j h. refl;
    }

module _ {A : Type 0} {d : A} {separator : ℕ} {read : List ℕ → A} {s : List ℕ} {before v : List A} {n a : ℕ}
    (reading : Reading d separator read s before v n a) where
  abbrev values : List A
  values = map read (fields separator s)

  -- one field more: it ends at e, x is read of it, and is placed
  pub reading-on : a ≤ length s → {e : ℕ} → EndsAt separator s a e
      → {x : A} → x ≡ read (take (e - a) (drop a s)) → {after : List A} → after ≡ set v n x
      → Reading d separator read s before after (n + 1) (e + 1)
  reading-on there {e} ends {x} is stored =
      let here = reading.next there in
      let long : e - a ≡ field_length separator (drop a s) = omega arith in
      let some : n < length values = omega (arith, length-map (fields separator s) read, field-here here) in
      let value = is ∙ ap (λ (k : ℕ). read (take k (drop a s))) long ∙ sym (value-here here read) in
      rw (stored, ends.ends) (record {
        long = length-set v n x ∙ reading.long;
        few = omega arith;
        next = λ h. at_next here (omega arith);
        done = λ h. last-here here (omega arith);
        placed = one_more d values before v n x (read []) reading.long some value reading.placed;
      })

  -- no field more
  pub all_placed : length s < a → Placed d values before v
  all_placed past =
      subst (λ (vs : List A). Placed d vs before v)
      (take_all n values (omega (arith, length-map (fields separator s) read, reading.done past)))
      reading.placed
