-- A setup's clients as sets: their members, and those of a set with others taken out.
-- Assumes nothing.
use Prim.Native.Nat.{ℕ, ◌≤◌, ◌<◌}
use mathlib.Core.Path.{◌≡◌, refl, sym, ap, ◌∙◌, fun_ext}
use mathlib.Core.Bool.{Bool, true, false, not, ◌&&◌}
use native.Mathlib.Omega.{arith}
use lib.Dec.{eqb, ltb}
use lib.ListN.{get_or}
use borrow.Author.Tests.{eqb-true, ltb-true, ltb-false}
use Rattle.rules.specs.Limits.{max_clusters, max_clients}
use Rattle.rules.specs.Setup as rules
use Rattle.rules.proofs.Tests.{by-test, clash, both_true, not_so}
use Rattle.sets.specs.Sets.{member, set_of, less_of}
use Rattle.sets.proofs.Bits.{member-none}
use Rattle.sets.proofs.Laws.{member-set_of-past}
use Rattle.gate.specs.declared.Setup.{Setup}
use Rattle.gate.specs.Shown.{setup_of}
use Rattle.parts.specs.Shows.{Fine}
use Rattle.parts.proofs.Parts.{room_at}
use Rattle.gate.proofs.Tables.{table-past}
use Rattle.soundness.specs.Clauses.{is_real, of_cluster, of_background}
use Rattle.soundness.proofs.Sets.{members}
use Rattle.setup_check.specs.Answers.{sets_of}
use Rattle.setup_check.specs.declared.Clients.{Clients}

pub in-set : (p : ℕ → Bool) (x : ℕ) → member (set_of max_clients p) x ≡ true → x < max_clients
in-set p x e =
    by-test (ltb x max_clients) (ltb-true x max_clients)
    (λ q. clash e (member-set_of-past max_clients p x (ltb-false x max_clients q)))

-- of a set of clients, those that t hasn't
pub less-is : (s t : ℕ) → ((x : ℕ) → member s x ≡ true → x < max_clients) → (c : ℕ)
    → member (less_of s t) c ≡ member s c && not (member t c)
less-is s t h =
    members (λ c. member s c && not (member t c)) (λ x e. h x (both_true (member s x) (not (member t x)) e).0)

module _ (v : Setup) (fine : Fine v) where
  abbrev u : rules.Setup
  u = setup_of v

  abbrev pub clients : Clients
  clients = sets_of v.kinds v.homes v.clients

  known : (b : Bool) (c : ℕ) → ltb c v.clients && b ≡ true → c < max_clients
  known b c e = omega (arith, ltb-true c v.clients (both_true (ltb c v.clients) b e).0, fine.clients)

  pub real-is : member clients.real ≡ is_real u
  real-is = fun_ext (members (is_real u) (λ c. known _ c))

  pub effort-is : member clients.effort ≡ of_background u
  effort-is = fun_ext (members (of_background u) (λ c. known _ c))

  pub own-known : (k c : ℕ) → of_cluster u k c ≡ true → c < max_clients
  own-known k c e = known _ c (both_true (is_real u c) (eqb (u.cluster c) k) e).0

  pub own_is : (λ (k : ℕ). member (get_or clients.own k 0)) ≡ of_cluster u
  own_is =
      fun_ext (λ k. by-test (ltb k max_clusters)
      (λ e. fun_ext (λ c.
      ap (λ w. member w c) (room_at u.cluster (is_real u) refl (ltb-true k max_clusters e) 0)
      ∙ members (of_cluster u k) (own-known k) c))
      (λ e.
      let past = ltb-false k max_clusters e in
      fun_ext (λ c.
      ap (λ w. member w c) (table-past max_clusters (λ j. set_of max_clients (of_cluster u j)) k 0 past)
      ∙ member-none c ∙ sym (none k c past))))
    where
      none : (k c : ℕ) → max_clusters ≤ k → of_cluster u k c ≡ false
      none k c b =
          not_so (of_cluster u k c) (λ q.
          omega (arith, fine.homes c, eqb-true (u.cluster c) k (both_true (is_real u c) (eqb (u.cluster c) k) q).1))
