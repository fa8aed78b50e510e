-- A setup's clients as sets: nobody, and one client more.
-- Assumes nothing.
use Prim.Native.Nat.{ℕ, ◌+◌, ◌<◌}
use mathlib.Core.Path.{◌≡◌, refl, sym, ap, ◌∙◌, fun_ext}
use mathlib.Core.Bool.{Bool, true, false, ◌&&◌, and-false}
use mathlib.Core.List.{List, [], ◌∷◌}
use native.Mathlib.Omega.{arith}
use lib.Dec.{eqb, ltb}
use lib.ListN.{get_or, set}
use borrow.Author.Tests.{eqb-true, eqb-false, ltb-true, ltb-false, lt-ltb, le-ltb}
use Rattle.std.specs.List.{list_all}
use Rattle.rules.specs.Limits.{max_clusters, max_clients}
use Rattle.rules.specs.Lists.{upd}
use Rattle.rules.proofs.Tests.{by-test}
use Rattle.sets.specs.Sets.{set_of, with_of}
use Rattle.sets.proofs.Laws.{set_of-upd, set_of-none}
use Rattle.places.specs.Places.{holds_only}
use Rattle.gate.specs.Shown.{show_rooms, table}
use Rattle.parts.proofs.Parts.{room-put}
use Rattle.gate.proofs.Tables.{table_same}
use Rattle.setup_check.specs.Answers.{sets_of}
use Rattle.setup_check.specs.declared.Clients.{Clients}

-- the library's test of each element
pub all_zero : (q : List ℕ) → list_all (λ x. eqb x 0) q ≡ holds_only 0 q
unfolding holds_only
all_zero [] = refl
all_zero (x ∷ q) = ap (λ b. eqb x 0 && b) (all_zero q)

pub same-clients : {a b : Clients} → a.own ≡ b.own → a.real ≡ b.real → a.effort ≡ b.effort → a ≡ b
same-clients {a} {b} p q r = go a.own a.real a.effort p q r
  where
    go : (x : List ℕ) (y z : ℕ) → x ≡ b.own → y ≡ b.real → z ≡ b.effort
        → ◌≡◌ {A = Clients} (record { own = x; real = y; effort = z }) b
    go x y z p q r = rw (p, q, r)

-- those below n that pass the test
module _ (p : ℕ → Bool) where
  abbrev below : ℕ → ℕ → Bool
  below n x = ltb x n && p x

  nobody : set_of max_clients (below 0) ≡ 0
  nobody = set_of-none max_clients (below 0) (λ x b. rw (le-ltb x 0 (omega arith)))

  -- c joins them, or doesn't
  module _ (c : ℕ) where
    other : (x : ℕ) → (x ≡ c → ⊥) → ltb x c ≡ ltb x (c + 1)
    other x d =
        by-test (ltb x c)
        (λ e. e ∙ sym (lt-ltb x (c + 1) (omega (arith, ltb-true x c e))))
        (λ e. e ∙ sym (le-ltb x (c + 1) (omega (arith, ltb-false x c e))))

    joins : p c ≡ true → upd (below c) c true ≡ below (c + 1)
    joins e =
        fun_ext (λ x. by-test (eqb x c)
        (λ q. rw (q, eqb-true x c q, lt-ltb c (c + 1) (omega arith), e))
        (λ q. rw (q, other x (eqb-false x c q))))

    stays : p c ≡ false → below c ≡ below (c + 1)
    stays e =
        fun_ext (λ x. by-test (eqb x c)
        (λ q. rw (eqb-true x c q, e) (and-false (ltb c c) ∙ sym (and-false (ltb c (c + 1)))))
        (λ q. rw (other x (eqb-false x c q))))

    pub set-joins : p c ≡ true → with_of (set_of max_clients (below c)) c ≡ set_of max_clients (below (c + 1))
    set-joins e = set_of-upd max_clients (below c) c true ∙ ap (set_of max_clients) (joins e)

    pub set-stays : p c ≡ false → set_of max_clients (below c) ≡ set_of max_clients (below (c + 1))
    set-stays e = ap (set_of max_clients) (stays e)

    -- the same of each cluster's
    module _ (home : ℕ → ℕ) where
      pub own-joins : p c ≡ true → home c < max_clusters
          → set (show_rooms home (below c)) (home c) (with_of (get_or (show_rooms home (below c)) (home c) 0) c)
          ≡ show_rooms home (below (c + 1))
      own-joins e low = room-put home (below c) refl low 0 refl true ∙ ap (show_rooms home) (joins e)

      pub own-stays : p c ≡ false → show_rooms home (below c) ≡ show_rooms home (below (c + 1))
      own-stays e = ap (show_rooms home) (stays e)

pub no-clients : (kinds homes : List ℕ)
    → ◌≡◌ {A = Clients} (record { own = table max_clusters (λ k. 0); real = 0; effort = 0 }) (sets_of kinds homes 0)
no-clients kinds homes = same-clients (sym (table_same max_clusters _ _ (λ k b.
    set_of-none max_clients _ (λ x l. rw (le-ltb x 0 (omega arith)))))) (sym (nobody _)) (sym (nobody _))
