-- The most that a server line can burn: no product within it wraps.
-- Assumes nothing.
use Prim.Native.Nat.{ℕ, ◌+◌, ◌*◌, ◌≤◌}
use native.Mathlib.Nat.{mul-le-mul}
use native.Mathlib.Omega.{arith}
use Rattle.rules.specs.Demands.{worst}
use Rattle.rules.specs.Limits.{max_size, max_clusters, max_calls, max_cap, max_tidy}
use Rattle.quote.specs.Steps.{most_of_line}

module _ {m K : ℕ} (small : m ≤ max_size) (few : K ≤ max_clusters) where
  pub pairs-most : m * K ≤ max_size * max_clusters
  pairs-most = mul-le-mul small few

  module _ {l w : ℕ} (cap : l ≤ max_cap) (tidy : w ≤ max_tidy) where
    pub worst-most : worst m K (l + w) ≤ worst max_size max_clusters (max_cap + max_tidy)
    worst-most =
        let each : 2 + 2 * (m * K) ≤ 2 + 2 * (max_size * max_clusters) = omega (arith, pairs-most) in
        let both : l + w ≤ max_cap + max_tidy = omega arith in
        mul-le-mul each both

    pub line-most : {n : ℕ} → n ≤ max_calls → n * worst m K (l + w) ≤ most_of_line
    line-most h = mul-le-mul h worst-most
