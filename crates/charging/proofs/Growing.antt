-- The charges while a set is walked, and after a run in a sound state.
-- Assumes nothing.
use Prim.Native.Nat.{◌+◌, ◌-◌, ◌^◌, ◌<◌, ◌≤◌, ℕ}
use mathlib.Core.Bool.{Bool, ◌&&◌, and-false, cond, false, true}
use mathlib.Core.List.{List}
use mathlib.Core.Path.{◌∙◌, ◌≡◌, sym}
use native.Mathlib.Omega.{arith}
use lib.Dec.{eqb, ltb}
use lib.ListN.{get_or-eq_default, get_or, length, set}
use borrow.Author.Tests.{eqb-true, le-ltb, lt-ltb, ltb-false, ltb-true}
use Rattle.rules.specs.Events.{charged, ran}
use Rattle.rules.specs.Limits.{max_charge, max_clients}
use Rattle.rules.specs.Lists.{some_below, upd}
use Rattle.rules.specs.Rank.{outranks}
use Rattle.rules.specs.Sound.{Sound}
use Rattle.rules.specs.State.{State}
use Rattle.rules.specs.Step.{overcharges}
use Rattle.rules.proofs.Setups.{allowed}
use Rattle.rules.proofs.Tests.{by-test, not_so}
use Rattle.sets.specs.Sets.{member, set_of, without_of}
use Rattle.sets.proofs.Laws.{member-set_of}
use Rattle.sets.proofs.Walks.{passed, passed-all, passed-more}
use Rattle.gate.specs.Shown.{setup_of, table}
use Rattle.gate.specs.declared.Setup.{Setup}
use Rattle.gate.proofs.Tables.{length-table, list-table, set-table, table_at, table-past, table_same}
use Rattle.charging.specs.Charged.{grown, overcharges_in}
use Rattle.charging.proofs.Building.{some-cut}
use Rattle.charging.proofs.Charging.{charged-known}

-- CHARGES WHILE A SET IS WALKED

module _ (cs : List ℕ) (s n : ℕ) where
  -- the charge of c, with n units more if it is in the set and not left
  abbrev pub paid : ℕ → ℕ → ℕ
  paid left c = get_or cs c 0 + cond (passed s left c) n 0

  pub paid-none : cs ≡ table (length cs) (paid s)
  paid-none =
      list-table cs 0
      ∙ table_same (length cs) (λ c. get_or cs c 0) (paid s) (λ c b. by-test (member s c)
      (λ e. rw e (omega arith)) (λ e. rw e (omega arith)))

  pub paid-all : table (length cs) (paid 0) ≡ grown cs s n
  paid-all = table_same (length cs) (paid 0) _ (λ c b. rw (passed-all s c))

  module _ (left c : ℕ) (inside : member left c ≡ true) where
    -- who is left has not paid
    pub paid-yet : get_or (table (length cs) (paid left)) c 0 ≡ get_or cs c 0
    paid-yet =
        by-test (ltb c (length cs))
        (λ l. table_at (length cs) (paid left) c 0 (ltb-true c (length cs) l)
        ∙ rw (inside, and-false (member s c)) (omega arith))
        (λ l. table-past (length cs) (paid left) c 0 (ltb-false c (length cs) l)
        ∙ sym (get_or-eq_default cs 0 (ltb-false c (length cs) l)))

    -- and pays
    pub paid-next : s < 2 ^ max_clients → member s c ≡ true
        → set (table (length cs) (paid left)) c (get_or cs c 0 + n) ≡ table (length cs) (paid (without_of left c))
    paid-next w e =
        set-table (length cs) (paid left) c (get_or cs c 0 + n)
        ∙ table_same (length cs) (upd (paid left) c (get_or cs c 0 + n)) (paid (without_of left c)) (λ j l. go j)
      where
        go : (j : ℕ) → upd (paid left) c (get_or cs c 0 + n) j ≡ paid (without_of left c) j
        go j = rw (← passed-more s left c j w e) (by-test (eqb j c)
            (λ q. rw (q, eqb-true j c q)) (λ q. rw q))

-- a charge that is in the set, and not past the limit
pub within : (x n : ℕ) {b : Bool} → b && ltb max_charge (x + n) ≡ false → b ≡ true → x + n ≤ max_charge
within x n h e = ltb-false max_charge (x + n) (rw e at h)

-- a test without a sum that could wrap
pub past_is : (limit x n : ℕ) → n ≤ limit → ltb (limit - n) x ≡ ltb limit (x + n)
past_is limit x n h =
    by-test (ltb limit (x + n))
    (λ e. lt-ltb (limit - n) x (omega (arith, ltb-true limit (x + n) e)) ∙ sym e)
    (λ e. le-ltb (limit - n) x (omega (arith, ltb-false limit (x + n) e)) ∙ sym e)

-- IN A SOUND STATE

module _ (v : Setup) {s : State} (sound : Sound (setup_of v) s) {cs : List ℕ} (shown : cs ≡ table max_clients s.charge)
    {w : ℕ} (told : w ≡ set_of max_clients (charged (setup_of v) (outranks (setup_of v) s) s)) (n : ℕ) where
  few : v.clients ≤ max_clients
  few = (allowed (setup_of v) sound.setup).few-clients

  member_is : (c : ℕ) → c < max_clients → member w c ≡ charged (setup_of v) (outranks (setup_of v) s) s c
  member_is c b = rw told (member-set_of max_clients (charged (setup_of v) (outranks (setup_of v) s) s) c b)

  -- the code's test is the rules'
  pub overcharges-is : some_below (overcharges_in cs w n) max_clients
      ≡ overcharges (setup_of v) (outranks (setup_of v) s) s n
  overcharges-is =
      some-cut (overcharges_in cs w n) _ v.clients max_clients few
      (λ c b.
      let known : c < max_clients = omega (arith, few) in
      rw (member_is c known, shown, table_at max_clients s.charge c 0 known))
      (λ c b past. rw (
        member_is c b,
        not_so (charged (setup_of v) (outranks (setup_of v) s) s c)
            (λ e. omega (arith, charged-known v sound c e)),
      ))

  -- and so are the charges after
  pub charges-ran : grown cs w n ≡ table max_clients (ran (setup_of v) (outranks (setup_of v) s) n s).charge
  unfolding ran
  charges-ran =
      rw (shown, length-table max_clients s.charge)
      (table_same max_clients _ _ (λ c b. rw (member_is c b, table_at max_clients s.charge c 0 b)))
