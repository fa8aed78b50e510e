-- `quote::line_burns` meets its contract: within the ranges no product wraps.
-- Assumes nothing.
use Prim.Native.Nat.{ℕ, ◌+◌, ◌*◌, ◌≤◌}
use native.Mathlib.Omega.{arith}
use mathlib.Core.Path.{◌≡◌, ap, ◌∙◌}
use lib.IntN.{nat_abs}
use mir.Facts.{to_z-of_z}
use Rattle.rules.specs.Demands.{worst}
use Rattle.rules.specs.Limits.{max_size, max_clusters, max_calls, max_cap, max_tidy}
use Rattle.quote.proofs.Ranges.{Within, within}
use Rattle.quote.proofs.Most.{pairs-most, worst-most, line-most}
use Rattle.quote.proofs.line_burns.Goals as goal

-- what `whole` answers of L, W and N, and how much that is
module _ (c : goal.After-whole) where
  calls-within : Within 0 max_calls c.args.n
  calls-within = within 0 max_calls c.args.n c.requires.line_in.calls

  cap-within : Within 1 max_cap c.args.l
  cap-within = within 1 max_cap c.args.l c.requires.line_in.cap

  tidy-within : Within 0 max_tidy c.args.w
  tidy-within = within 0 max_tidy c.args.w c.requires.line_in.tidy

  cap : c.whole-served.result ≡ nat_abs c.args.l
  cap = c.whole-served.ensures ∙ ap nat_abs (to_z-of_z c.ranges.l)

  tidy : c.whole-tidied.result ≡ nat_abs c.args.w
  tidy = c.whole-tidied.ensures ∙ ap nat_abs (to_z-of_z c.ranges.w)

  calls : c.whole.result ≡ nat_abs c.args.n
  calls = c.whole.ensures ∙ ap nat_abs (to_z-of_z c.ranges.n)

  cap-most : c.whole-served.result ≤ max_cap
  cap-most = omega (arith, cap, cap-within.most)

  tidy_most : c.whole-tidied.result ≤ max_tidy
  tidy_most = omega (arith, tidy, tidy-within.most)

  calls-most : c.whole.result ≤ max_calls
  calls-most = omega (arith, calls, calls-within.most)

  pairs : c.args.m * c.args.k ≤ max_size * max_clusters
  pairs = pairs-most c.requires.m_le_max_size.0 c.requires.m_le_max_size.1

same-burns : (m K : ℕ) {n n' l l' w w' : ℕ} → n ≡ n' → l ≡ l' → w ≡ w'
    → n * worst m K (l + w) ≡ n' * worst m K (l' + w')
same-burns m K n l w = rw (n, l, w)

pub whole-served-requires : goal.whole-served-requires
whole-served-requires c = rw (to_z-of_z c.ranges.l) (within 1 max_cap c.args.l c.requires.line_in.cap).sign

pub whole-tidied-requires : goal.whole-tidied-requires
whole-tidied-requires c = rw (to_z-of_z c.ranges.w) (within 0 max_tidy c.args.w c.requires.line_in.tidy).sign

pub whole-requires : goal.whole-requires
whole-requires c = rw (to_z-of_z c.ranges.n) (within 0 max_calls c.args.n c.requires.line_in.calls).sign

pub overflow_mul-result : goal.overflow_mul-result
overflow_mul-result c = omega (arith, pairs c)

pub overflow_mul-result-2 : goal.overflow_mul-result-2
overflow_mul-result-2 c = omega (arith, pairs c)

pub overflow_add-result : goal.overflow_add-result
overflow_add-result c = omega (arith, pairs c)

pub overflow_add-result-2 : goal.overflow_add-result-2
overflow_add-result-2 c = omega (arith, cap-most c, tidy_most c)

pub overflow_mul-result-3 : goal.overflow_mul-result-3
overflow_mul-result-3 c = let pre = c.requires.m_le_max_size in
    omega (arith, worst-most pre.0 pre.1 (cap-most c) (tidy_most c))

pub overflow_mul-result-4 : goal.overflow_mul-result-4
overflow_mul-result-4 c = let pre = c.requires.m_le_max_size in
    omega (arith, line-most pre.0 pre.1 (cap-most c) (tidy_most c) (calls-most c))

pub returns : goal.returns
returns c = let pre = c.requires.m_le_max_size in record {
  value = same-burns c.args.m c.args.k (calls c) (cap c) (tidy c);
  upper_bound = line-most pre.0 pre.1 (cap-most c) (tidy_most c) (calls-most c);
}
