-- Rank by keys is a strict total order, which ever way round; and the one that leads is the highest.
-- Assumes nothing.
use Prim.Native.Nat.{ℕ, zero, suc, ◌≤◌, ◌<◌}
use mathlib.Core.Bool.{Bool, false}
use mathlib.Core.List.{List}
use mathlib.Core.Logic.{by_cases}
use mathlib.Core.Option.{Option, none, some}
use mathlib.Core.Path.{◌≡◌, ap, fun_ext, refl, subst, sym}
use native.Mathlib.Decide.{ℕ_discrete}
use native.Mathlib.Omega.{arith}
use lib.ListN.{get_or}
use Rattle.rules.specs.Lists.{highest}
use Rattle.rules.specs.Rank.{Rank, outranks}
use Rattle.rules.specs.State.{State}
use Rattle.rules.proofs.ByNumber.{by-number-total}
use Rattle.rules.proofs.Highest.{Leader, Leads, StrictTotal, highest-leads, highest-same}
use Rattle.rules.proofs.Tests.{clash}
use Rattle.gate.specs.Shown.{setup_of}
use Rattle.gate.specs.declared.Setup.{Setup}
use Rattle.parts.specs.Shows.{ShowsKeys}
use Rattle.ranks.specs.Ranks.{rank_by, turned}

-- THE ORDER

-- keys that show what a state's rank goes by: theirs is the rank that an event reads off it
pub rank-shown : {v : Setup} {s : State} {ks : List ℕ} → ShowsKeys v s ks → rank_by ks ≡ outranks (setup_of v) s
unfolding outranks rank_by
rank-shown h = fun_ext (λ a. fun_ext (λ b. rw (h.key a, h.key b)))

-- of a state it looks at the deadlines alone
pub same_rank : (v : Setup) (s t : State) → t.deadline ≡ s.deadline
    → outranks (setup_of v) s ≡ outranks (setup_of v) t
unfolding outranks
same_rank v s t e = rw e

pub ranked : (ks : List ℕ) → StrictTotal (rank_by ks)
unfolding rank_by
ranked ks = by-number-total (λ c. get_or ks c 0)

pub turned-order : {rank : Rank} → StrictTotal rank → StrictTotal (turned rank)
turned-order order = record {
  irreflexive = order.irreflexive;
  transitive = λ a b c p q. order.transitive c b a q p;
  total = λ a b d e. order.total b a (λ q. d (sym q)) e;
}

-- THE HIGHEST

module _ {rank : Rank} (order : StrictTotal rank) {p : ℕ → Bool} {n : ℕ} where
  -- who leads is the highest, and no other is
  pub leads-highest : {d : ℕ} → Leads rank order p n d → some d ≡ highest rank p n
  leads-highest {d} h = go (highest rank p n) (highest-leads rank order p n)
    where
      go : (o : Option ℕ) → Leader rank order p n o → some d ≡ o
      go none f = absurd (f d h.low h.passes)
      go (some e) f =
          by_cases (ℕ_discrete d e)
          (λ q. ap some q)
          (λ q. clash
          (order.transitive d e d (h.leads e f.low f.passes (λ z. q (sym z)))
          (f.leads d h.low h.passes q))
          (order.irreflexive d))

-- and the highest leads
pub found-leads : {rank : Rank} (order : StrictTotal rank) (p : ℕ → Bool) (n d : ℕ) → some d ≡ highest rank p n
    → Leads rank order p n d
found-leads {rank} order p n d e = subst (Leader rank order p n) (sym e) (highest-leads rank order p n)

-- nobody passes
pub highest-none : (rank : Rank) (p : ℕ → Bool) (n : ℕ) → ((i : ℕ) → i < n → p i ≡ false) → highest rank p n ≡ none
highest-none rank p zero h = refl
highest-none rank p (suc n) h = rw (h n (omega arith)) (highest-none rank p n (λ i l. h i (omega arith)))

module _ (rank : Rank) (p q : ℕ → Bool) where
  -- tests that agree below n find the same, also in a search further on, where nobody is
  pub highest-cut : (n w : ℕ) → n ≤ w → ((i : ℕ) → i < n → p i ≡ q i) → ((i : ℕ) → i < w → n ≤ i → q i ≡ false)
      → highest rank p n ≡ highest rank q w
  highest-cut n zero l h past = let e : n ≡ 0 = omega arith in rw e
  highest-cut n (suc w) l h past =
      by_cases (ℕ_discrete n (suc w))
      (λ e. rw e (highest-same rank p q (suc w) (λ i b. h i (omega arith))))
      (λ e. rw (past w (omega arith) (omega arith))
      (highest-cut n w (omega arith) h (λ i b m. past i (omega arith) m)))
