-- The best of those seen, over words: one more is seen, the first m, and all.
-- Assumes nothing.
use Prim.Native.Nat.{ℕ, ◌^◌, ◌≤◌, ◌<◌}
use mathlib.Core.Bool.{Bool, true, false, not, ◌&&◌, and-false, cond}
use mathlib.Core.List.{List}
use mathlib.Core.Option.{some}
use mathlib.Core.Path.{◌≡◌, refl, sym, ap, ◌∙◌}
use native.Mathlib.Omega.{arith}
use lib.Dec.{eqb, ltb}
use borrow.Author.Tests.{le-ltb}
use Rattle.rules.specs.Limits.{max_clients}
use Rattle.rules.specs.Lists.{count_below, highest, upd}
use Rattle.rules.specs.Rank.{Rank}
use Rattle.rules.proofs.Highest.{StrictTotal}
use Rattle.rules.proofs.Tests.{clash}
use Rattle.sets.specs.Sets.{member, set_of, count_of, less_of, with_of, without_of}
use Rattle.sets.proofs.Counts.{count-less_of, some_in}
use Rattle.sets.proofs.Laws.{is-set_of, member-set_of, set_of-none}
use Rattle.sets.proofs.Words.{count_of-set_of}
use Rattle.sets.proofs.Walks.{passed}
use Rattle.ranks.specs.Keeps.{Keeps}
use Rattle.ranks.specs.Ranks.{best_in, outranking_in, past_of, rank_by, turned}
use Rattle.ranks.specs.declared.Kept.{Kept}
use Rattle.ranks.proofs.Best.{Best, best-exact, best-keep, best-of-few, best-same, best-swap, over}
use Rattle.ranks.proofs.Left.{past-count, past-in}
use Rattle.ranks.proofs.Ranks.{found-leads, ranked, turned-order}

-- what is kept is the best, and back
held : {rank : Rank} {m : ℕ} {p : ℕ → Bool} {k : Kept} → Keeps rank m p k → Best rank max_clients m p (member k.best)
unfolding count_of
held h = record { seen = h.seen; above = h.above; full = h.full }

keeps : {rank : Rank} {m : ℕ} {p : ℕ → Bool} {k : Kept} → Best rank max_clients m p (member k.best)
    → some k.last ≡ highest (turned rank) (member k.best) max_clients → Keeps rank m p k
unfolding count_of
keeps h e = record { seen = h.seen; above = h.above; full = h.full; last = e }

pub keeps_same : {rank : Rank} {m : ℕ} {p q : ℕ → Bool} {k : Kept} → Keeps rank m p k
    → ((x : ℕ) → x < max_clients → p x ≡ q x) → Keeps rank m q k
keeps_same h e = keeps (best-same (held h) e (λ x b. refl)) h.last

-- ONE MORE IS SEEN

module _ {rank : Rank} (order : StrictTotal rank) {m : ℕ} {p : ℕ → Bool} {k : Kept} (h : Keeps rank m p k) (c : ℕ)
    (b : c < max_clients) (new : p c ≡ false) where
  -- whom the lowest outranks stays out
  pub seen-keep : rank c k.last ≡ false → Keeps rank m (upd p c true) k
  seen-keep r =
      let l = found-leads (turned-order order) (member k.best) max_clients k.last h.last in
      keeps (best-keep order (held h) c b new k.last l.low l.passes l.leads
      (order.total c k.last (λ q. clash (h.seen k.last l.low l.passes) (rw q at new)) r))
      h.last

  -- who outranks the lowest takes its place
  pub seen-swap : rank c k.last ≡ true → {d : ℕ}
      → some d ≡ highest (turned rank) (member (with_of (without_of k.best k.last) c)) max_clients
      → Keeps rank m (upd p c true) (record { best = with_of (without_of k.best k.last) c; last = d })
  seen-swap r e =
      let l = found-leads (turned-order order) (member k.best) max_clients k.last h.last in
      keeps (best-same (best-swap order (held h) c b new k.last l.low l.passes l.leads r) (λ x i. refl)
      (λ x i. sym
      (member-set_of max_clients (upd (member (without_of k.best k.last)) c true) x i
      ∙ ap (λ y. cond (eqb x c) true y) (member-set_of max_clients (upd (member k.best) k.last false) x i)))) e

-- THE FIRST M, AND ALL

module _ (ks : List ℕ) (s m : ℕ) (word : s < 2 ^ max_clients) where
  -- the first m are m
  first-full : m ≤ count_of s → count_of (less_of s (past_of s m)) ≡ m
  first-full few =
      let whole = count-less_of s (past_of s m) (past-in s word m) in
      let gone = past-count s word m few in
      omega (arith, whole, gone)

  pub first_some : m ≤ count_of s → (m ≡ 0 → ⊥) → 0 < less_of s (past_of s m)
  first_some few positive = let e = first-full few in some_in (less_of s (past_of s m)) 0 (omega (arith, e))

  -- and the best of themselves
  pub keeps-first : m ≤ count_of s → {d : ℕ}
      → some d ≡ highest (turned (rank_by ks)) (member (less_of s (past_of s m))) max_clients
      → Keeps (rank_by ks) m (passed s (past_of s m)) (record { best = less_of s (past_of s m); last = d })
  keeps-first few e = record {
    seen = λ c b f. sym (same c b) ∙ f;
    above = λ c d b l f g x. clash (same d l ∙ g) x;
    full = first-full few;
    last = e;
  }
    where
      same : (c : ℕ) → c < max_clients → member (less_of s (past_of s m)) c ≡ passed s (past_of s m) c
      same c b = member-set_of max_clients (λ c. member s c && not (member (past_of s m) c)) c b

  -- who is best in the set, by a count over tests
  best-is : (c : ℕ) → best_in ks s m c ≡ (member s c && ltb (count_below (over (rank_by ks) (member s) c) max_clients) m)
  unfolding best_in
  best-is c = ap (λ x. member s c && ltb x m) (count_of-set_of max_clients (over (rank_by ks) (member s) c) (omega arith))

  pub keeps-all : {k : Kept} → k.best < 2 ^ max_clients → Keeps (rank_by ks) m (member s) k
      → k.best ≡ set_of max_clients (best_in ks s m)
  keeps-all {k} w h =
      is-set_of max_clients k.best (best_in ks s m) w
      (λ c b. best-exact (ranked ks) max_clients (member s) (held h) c b ∙ sym (best-is c))

  -- no more than m: all are
  pub few-best : count_of s ≤ m → s ≡ set_of max_clients (best_in ks s m)
  unfolding count_of
  few-best few =
      is-set_of max_clients s (best_in ks s m) word
      (λ c b. best-of-few (ranked ks) max_clients (member s) m few c b ∙ sym (best-is c))

  -- the best none: nobody is
  pub none-best : m ≡ 0 → 0 ≡ set_of max_clients (best_in ks s m)
  unfolding best_in
  none-best e =
      sym (set_of-none max_clients (best_in ks s m) (λ c b. go (member s c) (count_of (outranking_in ks s c))))
    where
      go : (b : Bool) (x : ℕ) → b && ltb x m ≡ false
      go b x = rw (le-ltb x m (omega arith)) (and-false b)
