-- `ranks::highest_in` meets its contract: the order that it hands over is rank.
-- Assumes nothing.
use Rattle.ranks.specs.Ranks.{rank_by}
use Rattle.ranks.proofs.Ranks.{ranked}
use Rattle.std.proofs.Common.{rules}
use Rattle.ranks.proofs.highest_in.Goals as goal

pub returns : goal.returns
returns c =
    let ks = c.args.keys.now in
    (c.first_by.ensures.first (rank_by ks) (ranked ks) (λ a b r p q h. search rules), c.first_by.ensures.low)
