-- `ranks::lowest_in` meets its contract: the order that it hands over is rank, turned round.
-- Assumes nothing.
use Rattle.ranks.specs.Ranks.{rank_by, turned}
use Rattle.ranks.proofs.Ranks.{ranked, turned-order}
use Rattle.std.proofs.Common.{rules}
use Rattle.ranks.proofs.lowest_in.Goals as goal

pub returns : goal.returns
returns c =
    let ks = c.args.keys.now in
    (c.first_by.ensures.first (turned (rank_by ks)) (turned-order (ranked ks)) (λ a b r p q h. search rules), c.first_by.ensures.low)
