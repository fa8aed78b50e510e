-- Everyone in a line and then in the background queue, as the clauses say it.
-- Assumes nothing.
use Prim.Native.Nat.{ℕ, ◌≤◌, ◌<◌}
use mathlib.Core.Path.{◌≡◌, refl, sym, ◌∙◌}
use mathlib.Core.Bool.{true, cond}
use mathlib.Core.List.{List}
use mathlib.Core.Option.{Option, some, none}
use native.Mathlib.Omega.{arith}
use lib.Dec.{ltb}
use borrow.Author.Tests.{ltb-true}
use Rattle.rules.specs.Limits.{max_clusters, max_clients}
use Rattle.rules.specs.Lists.{has}
use Rattle.rules.specs.Setup as rules
use Rattle.rules.proofs.Tests.{by-test, both_true, either_true}
use Rattle.rules.proofs.Lists.{has-append}
use Rattle.places.specs.Places.{unpad}
use Rattle.gate.specs.declared.Line.{Line}
use Rattle.places.specs.Tests.{every}
use Rattle.soundness.specs.Tests.{joined, set_in}
use Rattle.soundness.specs.Clauses.{laid, everyone, of_background, lines_sound, background_sound, stand_sound}
use Rattle.places.proofs.Tests.{every-has}
use Rattle.soundness.proofs.Joined.{joined-has}
use Rattle.soundness.proofs.Facts.{lines-facts}
use Rattle.seen.specs.Seen.{seen_from, seen_if}
use Rattle.standing.specs.Answers.{lines_in}
use Rattle.seen.proofs.Once.{and_then, seen-append}
use Rattle.standing.proofs.Once.{seen-once}

then-none : (o : Option ℕ) → and_then o (λ (t : ℕ). none) ≡ none
then-none none = refl
then-none (some s) = refl

module _ (u : rules.Setup) (few : u.clients ≤ max_clients) where
  -- whoever is in a line is a client
  pub in_lines : (ls : List Line) → lines_sound u ls ≡ true → (x : ℕ) → has x (joined (lines_in ls) 0 max_clusters) ≡ true
      → x < max_clients
  in_lines ls e x h =
      joined-has (lines_in ls) 0 max_clusters x h (λ j a b i.
      omega (arith, (((lines-facts u ls e).1 j (omega arith)).own x i).known))

  in-background : (q : List ℕ) → background_sound u q ≡ true → (x : ℕ) → has x (unpad q) ≡ true → x < max_clients
  unfolding background_sound
  in-background q e x h =
      let w = both_true (laid max_clients q) (every (of_background u) (unpad q)) e in
      let b = both_true (ltb x u.clients) _ (every-has (of_background u) (unpad q) x w.1 h) in
      omega (arith, ltb-true x u.clients b.0)

  -- the lines, and then the background queue
  pub standing-is : (ls : List Line) (q : List ℕ)
      → let all = everyone (lines_in ls) (unpad q) in cond (stand_sound u ls q all) (some (set_in all)) none
      ≡ and_then (seen_if (lines_sound u ls) 0 (joined (lines_in ls) 0 max_clusters))
      (λ (t : ℕ). seen_if (background_sound u q) t (unpad q))
  unfolding stand_sound
  standing-is ls q =
      by-test (lines_sound u ls)
      (λ e. by-test (background_sound u q)
      (λ f.
      rw (e, f)
      (sym (seen-once (everyone (lines_in ls) (unpad q)) (below e f))
      ∙ seen-append 0 (joined (lines_in ls) 0 max_clusters) (unpad q)))
      (λ f. rw (e, f) (sym (then-none (seen_from 0 (joined (lines_in ls) 0 max_clusters))))))
      (λ e. rw e)
    where
      below : lines_sound u ls ≡ true → background_sound u q ≡ true → (x : ℕ)
          → has x (everyone (lines_in ls) (unpad q)) ≡ true → x < max_clients
      below e f x h =
          either_true (has x (joined (lines_in ls) 0 max_clusters)) (has x (unpad q)) (rw has-append at h)
          (in_lines ls e x) (in-background q f x)
