-- Events by their numbers: what fits the widths of an event, and what does not.
-- Assumes nothing.
use Prim.Native.Nat.{ℕ, zero, suc, ◌-◌, ◌≤◌}
use native.Mathlib.Omega.{arith}
use mathlib.Core.Path.{◌≡◌, refl, ◌∙◌}
use mathlib.Core.Bool.{true}
use mathlib.Core.List.{List, [], ◌∷◌}
use lib.Dec.{leb}
use lib.ListN.{length, take, drop, replicate, length-drop}
use lib.Seq.{take_all}
use Rattle.rules.proofs.Tests.{clash, both_true}
use Rattle.text.specs.Text.{bits8}
use Rattle.lines.specs.Lines.{fit_in, all_fit}
use Rattle.lines.proofs.Widths.{fit_length}
use Rattle.group_rules.specs.Limits.{max_servers}
use Rattle.group_says.specs.Says.{entry_widths}

-- THE TICKETS OF AN ENTRY

-- what fits, fits from each place on
fit-drop : (j : ℕ) (ws vs : List ℕ) → fit_in ws vs ≡ true → fit_in (drop j ws) (drop j vs) ≡ true
unfolding fit_in
fit-drop zero ws vs e = e
fit-drop (suc j) [] [] e = e
fit-drop (suc j) [] (v ∷ vs) e = clash e refl
fit-drop (suc j) (w ∷ ws) [] e = clash e refl
fit-drop (suc j) (w ∷ ws) (v ∷ vs) e = fit-drop j ws vs (both_true (leb v w) (fit_in ws vs) e).1

-- one width for each is one for all
fit_all : (n w : ℕ) (vs : List ℕ) → fit_in (replicate n w) vs ≡ true → all_fit w vs ≡ true
unfolding fit_in all_fit
fit_all zero w [] e = refl
fit_all zero w (v ∷ vs) e = clash e refl
fit_all (suc n) w [] e = clash e refl
fit_all (suc n) w (v ∷ vs) e =
    let h = both_true (leb v w) (fit_in (replicate n w) vs) e in rw h.0 (fit_all n w vs h.1)

module _ (ns : List ℕ) (fits : fit_in entry_widths ns ≡ true) where
  pub entry_length : 3 ≤ length ns
  entry_length = omega (arith, fit_length entry_widths ns fits)

  pub entry-tickets : take (length ns - 3) (drop 3 ns) ≡ drop 3 ns
  entry-tickets = take_all (length ns - 3) (drop 3 ns) (omega (arith, length-drop 3 ns))

  pub tickets-fit : {part : List ℕ} → part ≡ take (length ns - 3) (drop 3 ns)
      → (length part ≡ max_servers) × (all_fit bits8 part ≡ true)
  tickets-fit is =
      rw (is ∙ entry-tickets) (
        omega (arith, length-drop 3 ns, fit_length entry_widths ns fits),
        fit_all max_servers bits8 (drop 3 ns) (fit-drop 3 entry_widths ns fits),
      )
