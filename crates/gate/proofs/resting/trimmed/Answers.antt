-- `gate::resting::trimmed` meets its contract.
-- Assumes nothing.
use Rattle.std.proofs.Common.{rules, ◌≡◌, length}
use Rattle.gate.specs.Made.{trimmed_in}
use Rattle.gate.proofs.Zeros.{zeros-over}
use Rattle.gate.proofs.resting.trimmed.Goals as goal

pub returns : goal.returns
unfolding trimmed_in
returns c =
    let s = c.args.s in
    let k = c.min-k.ensures in
    let n = c.min-n.ensures in
    let a : length s.sizes ≡ 8 = search rules in
    rw (
      ← c.from.ensures,
      ← c.from-2.ensures,
      zeros-over c.min-k.result c.from.result 8 s.sizes c.fill.new.self k (search rules) (c.fill.ensures.after (λ y e. e)),
      zeros-over c.min-n.result c.from-2.result 64 s.kinds c.fill-2.new.self n (search rules) (c.fill-2.ensures.after (λ y e. e)),
      zeros-over c.min-n.result c.from-2.result 64 s.homes c.fill-3.new.self n (search rules) (c.fill-3.ensures.after (λ y e. e)),
      zeros-over c.min-n.result c.from-2.result 64 s.priorities c.fill-4.new.self n (search rules) (c.fill-4.ensures.after (λ y e. e)),
    )
