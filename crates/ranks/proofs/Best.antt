-- The best m of those seen: a set that is kept as they come, and who is in it. Over tests, for numbers below n.
-- Assumes nothing.
use Prim.Native.Nat.{ℕ, ◌≤◌, ◌<◌}
use mathlib.Core.Bool.{Bool, true, false, ◌&&◌}
use mathlib.Core.Logic.{◌⊎◌, inl, inr, ⊎_elim}
use mathlib.Core.Path.{◌≡◌, refl, sym, ◌∙◌}
use native.Mathlib.Omega.{arith}
use lib.Dec.{eqb, ltb}
use borrow.Author.Tests.{eqb-true, eqb-false, lt-ltb, le-ltb}
use Rattle.rules.specs.Lists.{upd, count_below}
use Rattle.rules.specs.Rank.{Rank}
use Rattle.rules.proofs.Highest.{StrictTotal}
use Rattle.rules.proofs.Tests.{by-test, clash, both_true, upd_same, upd_other, upd-at}
use Rattle.sets.proofs.Counts.{count-within, count-joined, count_left, count_less, count_same}

-- t has m of those that pass p, and each outranks all that are left out
pub record Best (rank : Rank) (n m : ℕ) (p t : ℕ → Bool) : Type 0 where
  pub seen : (c : ℕ) → c < n → t c ≡ true → p c ≡ true
  pub above : (c d : ℕ) → c < n → d < n → t c ≡ true → p d ≡ true → t d ≡ false → rank c d ≡ true
  pub full : count_below t n ≡ m

-- who passes p, and outranks c
abbrev pub over : Rank → (ℕ → Bool) → ℕ → ℕ → Bool
over rank p c d = p d && rank d c

-- WHO IS IN IT

module _ {rank : Rank} (order : StrictTotal rank) (n : ℕ) (p : ℕ → Bool) where
  -- of those who pass, each is outranked by fewer than there are
  fewer-over : (c : ℕ) → c < n → p c ≡ true → count_below (over rank p c) n < count_below p n
  fewer-over c b e =
      count_less (over rank p c) p n c (λ x l o. (both_true (p x) (rank x c) o).0) b
      (rw (e, order.irreflexive c)) e

  -- so that of no more than m each is
  pub best-of-few : (m : ℕ) → count_below p n ≤ m → (c : ℕ) → c < n
      → p c ≡ (p c && ltb (count_below (over rank p c) n) m)
  best-of-few m few c b =
      by-test (p c)
      (λ e.
      let less = fewer-over c b e in
      rw (e, lt-ltb (count_below (over rank p c) n) m (omega (arith, less, few))))
      (λ e. rw e)

  -- it is the set of those whom fewer than m outrank
  pub best-exact : {m : ℕ} {t : ℕ → Bool} → Best rank n m p t → (c : ℕ) → c < n
      → t c ≡ (p c && ltb (count_below (over rank p c) n) m)
  best-exact {m} {t} best c b = by-test (t c) inside outside
    where
      inside : t c ≡ true → t c ≡ (p c && ltb (count_below (over rank p c) n) m)
      inside e =
          let within : (x : ℕ) → x < n → over rank p c x ≡ true → t x ≡ true =
          λ x l o.
          let z = both_true (p x) (rank x c) o in
          by-test (t x) (λ f. f) (λ f.
          clash (order.transitive c x c (best.above c x b l e z.0 f) z.1) (order.irreflexive c)) in
          let alone : over rank p c c ≡ false = rw (order.irreflexive c, best.seen c b e) in
          let less = count_less (over rank p c) t n c within b alone e in
          rw (e, best.seen c b e, lt-ltb (count_below (over rank p c) n) m (omega (arith, less, best.full)))

      outside : t c ≡ false → t c ≡ (p c && ltb (count_below (over rank p c) n) m)
      outside f =
          by-test (p c)
          (λ e.
          let more = count-within t (over rank p c) n (λ x l g.
          rw (best.seen x l g, best.above x c l b g e f)) in
          rw (f, e, le-ltb (count_below (over rank p c) n) m (omega (arith, more, best.full))))
          (λ e. rw (f, e))

-- ONE MORE

-- tests that agree
pub best-same : {rank : Rank} {n m : ℕ} {p q t u : ℕ → Bool} → Best rank n m p t
    → ((x : ℕ) → x < n → p x ≡ q x) → ((x : ℕ) → x < n → t x ≡ u x) → Best rank n m q u
best-same {rank} {n} {m} {p} {q} {t} {u} h e f = record {
  seen = λ c b x. sym (e c b) ∙ h.seen c b (f c b ∙ x);
  above = λ c d b l x y z. h.above c d b l (f c b ∙ x) (e d l ∙ y) (f d l ∙ z);
  full = count_same u t n (λ x l. sym (f x l)) ∙ h.full;
}

module _ {rank : Rank} (order : StrictTotal rank) {n m : ℕ} {p t : ℕ → Bool} (best : Best rank n m p t)
    (c : ℕ) (b : c < n) (new : p c ≡ false) (l : ℕ) (k : l < n) (has : t l ≡ true)
    (lowest : (d : ℕ) → d < n → t d ≡ true → (d ≡ l → ⊥) → rank d l ≡ true) where
  -- it is not in yet
  fresh : t c ≡ false
  fresh = by-test (t c) (λ e. clash (best.seen c b e) new) (λ e. e)

  -- whom the lowest outranks stays out
  pub best-keep : rank l c ≡ true → Best rank n m (upd p c true) t
  best-keep r = record {
    seen = λ d i e. upd-at (λ y. y ≡ true) p c true d (λ q. refl) (λ q. best.seen d i e);
    above = λ a d i j e.
        upd-at (λ y. y ≡ true → t d ≡ false → rank a d ≡ true) p c true d
        (λ q f g. rw q
        (by-test (eqb a l)
        (λ z. rw (eqb-true a l z) r)
        (λ z. order.transitive a l c (lowest a i e (eqb-false a l z)) r)))
        (λ q f g. best.above a d i j e f g);
    full = best.full;
  }

  -- who outranks the lowest takes its place
  pub best-swap : rank c l ≡ true → Best rank n m (upd p c true) (upd (upd t l false) c true)
  best-swap r = record {
    seen = λ d i.
        upd-at (λ y. y ≡ true → upd p c true d ≡ true) (upd t l false) c true d (λ q e. upd_same p c true d q)
        (λ q e. upd_other p c true d q
        ∙ upd-at (λ y. y ≡ true → p d ≡ true) t l false d (λ z f. clash f refl) (λ z f. best.seen d i f) e);
    above = λ a d i j e f g. out-ranked a d i j e f g;
    full = count-joined (upd t l false) n c b out ∙ count_left t n l k has ∙ best.full;
  }
    where
      out : upd t l false c ≡ false
      out = upd-at (λ y. y ≡ false) t l false c (λ q. refl) (λ q. fresh)

      -- one that is out: the lowest, or one that was out
      under : (d : ℕ) → d < n → p d ≡ true → upd t l false d ≡ false → (d ≡ l) ⊎ (rank l d ≡ true)
      under d j f =
          upd-at (λ y. y ≡ false → (d ≡ l) ⊎ (rank l d ≡ true)) t l false d (λ q g. inl q)
          (λ q g. inr (best.above l d k j has f g))

      -- c, or one that stayed, against it
      out-ranked : (a d : ℕ) → a < n → d < n → upd (upd t l false) c true a ≡ true → upd p c true d ≡ true
          → upd (upd t l false) c true d ≡ false → rank a d ≡ true
      out-ranked a d i j e f =
          upd-at (λ y. y ≡ false → rank a d ≡ true) (upd t l false) c true d (λ q g. clash refl g) λ q g.
          let u = under d j (sym (upd_other p c true d q) ∙ f) g in
          upd-at (λ y. y ≡ true → rank a d ≡ true) (upd t l false) c true a
          (λ z h. rw z (⊎_elim (λ s. rw s r) (λ s. order.transitive c l d r s) u))
          (λ z h. upd-at (λ y. y ≡ true → rank a d ≡ true) t l false a (λ s x. clash x refl)
          (λ s x. ⊎_elim (λ w. rw w (lowest a i x s)) (λ w. order.transitive a l d (lowest a i x s) w) u) h)
          e
