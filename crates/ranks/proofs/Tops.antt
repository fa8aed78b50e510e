-- The highest of a set that is walked by its members: it leads those that are not left.
-- Assumes nothing.
use Prim.Native.Nat.{ℕ, ◌<◌}
use mathlib.Core.Bool.{true, false, cond}
use mathlib.Core.Path.{◌≡◌, ◌∙◌}
use lib.Dec.{eqb}
use borrow.Author.Tests.{eqb-true, eqb-false}
use Rattle.rules.specs.Limits.{max_clients}
use Rattle.rules.specs.Rank.{Rank}
use Rattle.rules.proofs.Highest.{Leads, StrictTotal}
use Rattle.rules.proofs.Tests.{by-test, clash}
use Rattle.sets.specs.Sets.{member, without_of}
use Rattle.sets.proofs.Bits.{member-none}
use Rattle.sets.proofs.Walks.{left_out, still-in}

-- b leads those of s that are not left
pub record Tops (rank : Rank) (s left b : ℕ) : Type 0 where
  pub low : b < max_clients
  pub has : member s b ≡ true
  pub inside : (d : ℕ) → d < max_clients → member left d ≡ true → member s d ≡ true
  pub leads : (d : ℕ) → d < max_clients → member s d ≡ true → member left d ≡ false → (d ≡ b → ⊥) → rank b d ≡ true

module _ (rank : Rank) (s : ℕ) where
  -- the first alone
  pub tops_first : (b : ℕ) → b < max_clients → member s b ≡ true → Tops rank s (without_of s b) b
  tops_first b l e = record {
    low = l;
    has = e;
    inside = still-in s b;
    leads = λ d i f g n. left_out s b d i g (λ q. absurd (n q)) (λ q. clash f q);
  }

  module _ (order : StrictTotal rank) where
    -- one more
    pub tops_next : {left b : ℕ} → Tops rank s left b → (c : ℕ) → c < max_clients → member left c ≡ true
        → Tops rank s (without_of left c) (cond (rank c b) c b)
    tops_next {left} {b} h c l e =
        by-test (rank c b)
        (λ r. rw r record {
          low = l;
          has = h.inside c l e;
          inside = λ d i f. h.inside d i (still-in left c d i f);
          leads = λ d i f g n.
              left_out left c d i g (λ q. absurd (n q)) (λ q.
              by-test (eqb d b)
              (λ t. rw (eqb-true d b t) r)
              (λ t. order.transitive c b d r (h.leads d i f q (eqb-false d b t))));
        })
        (λ r. rw r record {
          low = h.low;
          has = h.has;
          inside = λ d i f. h.inside d i (still-in left c d i f);
          leads = λ d i f g n.
              left_out left c d i g
              (λ q. rw q (order.total c b (λ z. n (q ∙ z)) r))
              (λ q. h.leads d i f q n);
        })

    -- nobody is left
    pub tops-all : {left b : ℕ} → left ≡ 0 → Tops rank s left b → Leads rank order (member s) max_clients b
    tops-all e h = record {
      low = h.low;
      passes = h.has;
      leads = λ d i f n. h.leads d i f (rw e (member-none d)) n;
    }
