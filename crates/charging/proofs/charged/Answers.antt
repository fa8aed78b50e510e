-- `charging::charged` meets its contract: the loop holds the charged clients of the clusters passed.
-- Assumes nothing.
use mathlib.Core.Path.{◌∙◌, ◌≡◌}
use native.Mathlib.Omega.{arith}
use Rattle.gate.specs.Shown.{blank_line}
use Rattle.charging.proofs.Charging.{charged-all}
use Rattle.charging.proofs.charged.Goals as goal

pub returns : goal.returns
returns c =
    let l = c.loop-k in
    let e : l.k ≡ c.args.setup.now.clusters = omega (arith, c.from-k-end.ensures) in
    λ v s ms keys ks lines rooms sound.
    l.invariant ∙ rw (e, ms, ks) (charged-all v sound keys lines rooms blank_line)
