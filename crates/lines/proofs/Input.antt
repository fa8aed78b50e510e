-- An input by its lines: one that an LF ends, and one that has no LF.
-- Assumes nothing.
use Prim.Native.Nat.{ℕ, suc, ◌<◌}
use native.Mathlib.Omega.{arith}
use mathlib.Core.Path.{◌≡◌, refl, sym, ap, ◌∙◌}
use mathlib.Core.List.{List, [], ◌∷◌, ◌++◌, append_assoc, append-nil}
use lib.Dec.{eqb}
use lib.ListN.{length, take, drop}
use Rattle.rules.proofs.Tests.{by-test}
use Rattle.text.specs.Text.{lf}
use Rattle.fields.specs.Fields.{field_length}
use Rattle.lines.specs.Input.{read_from}

joined : (begun : List ℕ) (b : ℕ) (s : List ℕ) → (begun ++ (b ∷ [])) ++ s ≡ begun ++ b ∷ s
joined begun b s = append_assoc begun (b ∷ []) s

module _ {S : Type 0} (taken : S → List ℕ → S) where
  -- bytes without LF: the line goes on
  pub no_line : (t : S) (begun s : List ℕ) → field_length lf s ≡ length s
      → read_from taken t begun s ≡ record { state = t; rest = begun ++ s }
  no_line t begun [] e = ap (λ (x : List ℕ). record { state = t; rest = x }) (sym (append-nil begun))
  no_line t begun (b ∷ s) e =
      by-test (eqb b lf) (λ y. absurd (omega (arith, rw y at e)))
      (λ n. let k : suc (field_length lf s) ≡ suc (length s) = rw n at e in
      rw n (
      no_line t (begun ++ (b ∷ [])) s (omega arith)
      ∙ ap (λ (x : List ℕ). record { state = t; rest = x }) (joined begun b s)
      ))

  -- bytes with an LF behind them: the line is taken, and the next begins
  pub line-then : (t : S) (begun s : List ℕ) → field_length lf s < length s
      → read_from taken t begun s
      ≡ read_from taken (taken t (begun ++ take (field_length lf s) s)) [] (drop (suc (field_length lf s)) s)
  line-then t begun [] h = absurd (omega arith)
  line-then t begun (b ∷ s) h =
      by-test (eqb b lf)
      (λ y. rw y (ap (λ (x : List ℕ). read_from taken (taken t x) [] s) (sym (append-nil begun))))
      (λ n. let k : suc (field_length lf s) < suc (length s) = rw n at h in
      let end = field_length lf s in
      rw n (
      line-then t (begun ++ (b ∷ [])) s (omega arith)
      ∙ ap (λ (x : List ℕ). read_from taken (taken t x) [] (drop (suc end) s)) (joined begun b (take end s))
      ))

  -- bytes behind bytes
  pub read-on : (t : S) (begun s u : List ℕ)
      → read_from taken t begun (s ++ u)
      ≡ read_from taken (read_from taken t begun s).state (read_from taken t begun s).rest u
  read-on t begun [] u = refl
  read-on t begun (b ∷ s) u =
      by-test (eqb b lf) (λ y. rw y (read-on (taken t begun) [] s u)) (λ n. rw n (read-on t (begun ++ (b ∷ [])) s u))

  -- what no line changes stays, whatever follows
  pub read_stays : (t : S) → ((l : List ℕ) → taken t l ≡ t) → (begun s : List ℕ) → (read_from taken t begun s).state ≡ t
  read_stays t stays begun [] = refl
  read_stays t stays begun (b ∷ s) =
      by-test (eqb b lf)
      (λ y. rw (y, stays begun) (read_stays t stays [] s))
      (λ n. rw n (read_stays t stays (begun ++ (b ∷ [])) s))
