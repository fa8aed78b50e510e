-- The loop over the lines: one line more, the ways out, and the end.
-- Assumes nothing.
use Prim.Native.Nat.{ℕ, suc, ◌+◌, ◌-◌, ◌≤◌, ◌<◌}
use mathlib.Core.Path.{◌≡◌}
use mathlib.Core.Bool.{Bool, true, false, and-false}
use mathlib.Core.List.{List, [], ◌++◌}
use mathlib.Core.Option.{some, none}
use native.Mathlib.Numerals.{add-one}
use native.Mathlib.Omega.{arith}
use lib.Dec.{eqb}
use lib.ListN.{length, get_or}
use borrow.Author.Tests.{eq-eqb}
use Rattle.rules.specs.Limits.{max_clusters}
use Rattle.sets.specs.Sets.{member}
use Rattle.gate.specs.declared.Line.{Line}
use Rattle.gate.specs.Shown.{blank_line}
use Rattle.places.specs.Tests.{all_below}
use Rattle.soundness.specs.Tests.{joined}
use Rattle.seen.specs.Seen.{seen_from}
use Rattle.standing.specs.Answers.{lines_in, line_fits, lines_fit, lines_seen}
use Rattle.places.proofs.Tests.{all-not}
use Rattle.seen.proofs.Queues.{none-if}

-- what is left to join, of the lists below n
module _ (f : ℕ → List ℕ) (k n : ℕ) where
  pub joined-turn : k < n → joined f k (n - k) ≡ f k ++ joined f (k + 1) (n - (k + 1))
  unfolding joined
  joined-turn h = go (n - k) (n - (k + 1)) (omega arith)
    where
      go : (a b : ℕ) → a ≡ suc b → joined f k a ≡ f k ++ joined f (k + 1) b
      go a b q = rw (q, add-one k)

  pub joined_end : n ≤ k → joined f k (n - k) ≡ []
  unfolding joined
  joined_end h = let q : n - k ≡ 0 = omega arith in rw q

module _ (sizes own : List ℕ) (ls : List Line) where
  -- the line of k is sound
  abbrev pub fits : ℕ → Bool
  fits k = line_fits (get_or sizes k 0) (member (get_or own k 0)) (get_or ls k blank_line).places

  pub line-fails : (k : ℕ) → k < max_clusters → fits k ≡ false → lines_seen sizes own ls ≡ none
  unfolding lines_fit
  line-fails k b e = rw (all-not max_clusters fits k b e, and-false (eqb (length ls) max_clusters))

  pub seen-fails : seen_from 0 (joined (lines_in ls) 0 max_clusters) ≡ none → lines_seen sizes own ls ≡ none
  seen-fails e = none-if (lines_fit (λ k. get_or sizes k 0) (λ k. member (get_or own k 0)) ls) e

  pub lines-pass : (s : ℕ) → length ls ≡ max_clusters → all_below max_clusters fits ≡ true
      → seen_from 0 (joined (lines_in ls) 0 max_clusters) ≡ some s → lines_seen sizes own ls ≡ some s
  unfolding lines_fit
  lines-pass s e a q = rw (eq-eqb (length ls) max_clusters e, a) q
