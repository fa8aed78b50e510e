-- Every client's invariant after every history, by any ranking.
-- Assumes nothing.
use Prim.Native.Nat.{ℕ}
use mathlib.Core.Path.{◌≡◌, refl, sym, ap₂, ◌∙◌, subst}
use mathlib.Core.Bool.{true, false}
use mathlib.Core.List.{List, [], ◌∷◌}
use lib.Dec.{eqb}
use borrow.Author.Tests.{eqb-true}
use Rattle.rules.specs.Refusals.{accepted}
use Rattle.rules.specs.Setup.{Setup, Accepted, real_time}
use Rattle.rules.specs.State.{State, fresh}
use Rattle.rules.specs.Rank.{Rank}
use Rattle.rules.specs.Queues.{waits}
use Rattle.rules.specs.Events.{Event}
use Rattle.rules.specs.Step.{answer_by, next_by, step_by, Ranks}
use Rattle.rules.specs.History.{after_by, struck_in_room_by}
use Rattle.rules.proofs.Tests.{by-test}
use Rattle.rules.proofs.Setups.{valid}
use Rattle.rules.proofs.Kept.{Kept, begun, kept-rank}
use Rattle.rules.proofs.Goes.{line-waits, room_waits}
use Rattle.rules.proofs.Steps.{next-kept}
use Rattle.rules.proofs.Reached.{reached, fresh-in-order}
use Rattle.rules.proofs.Ranking.{Ranking}

module _ (u : Setup) (ok : Accepted u) (ranks : Ranks) (ranking : Ranking u ranks) where
  -- the rank of an event that comes after a history
  abbrev rank_at : List Event → Rank
  rank_at h = ranks h (after_by u ranks h)

  -- Between two clients rank doesn't change while both wait.
  steady : (e : Event) (h : List Event) (t : State) → after_by u ranks (e ∷ h) ≡ t → (a b : ℕ)
      → waits u (after_by u ranks h) a ≡ true → waits u (after_by u ranks h) b ≡ true
      → waits u t a ≡ true → waits u t b ≡ true → ranks (e ∷ h) t a b ≡ rank_at h a b
  steady e h t q =
      subst (λ (x : State). (a b : ℕ) → waits u (after_by u ranks h) a ≡ true → waits u (after_by u ranks h) b ≡ true
      → waits u x a ≡ true → waits u x b ≡ true → ranks (e ∷ h) x a b ≡ rank_at h a b) q
      (λ a b p r p' r'.
      ranking.by_key (e ∷ h) a b
      ∙ ap₂ ranking.above (ranking.fixed e h a p p') (ranking.fixed e h b r r')
      ∙ sym (ranking.by_key h a b))

  event-kept : (e : Event) (h : List Event) (x : ℕ) → real_time u x ≡ true
      → Kept u (rank_at h) (after_by u ranks h) x (struck_in_room_by u ranks x h)
      → Kept u (rank_at (e ∷ h)) (after_by u ranks (e ∷ h)) x (struck_in_room_by u ranks x (e ∷ h))
  unfolding step_by
  event-kept e h x real k =
      let s = after_by u ranks h in
      let i = reached u ok ranks ranking.order h in
      by-test (eqb (answer_by u (rank_at h) s e) accepted)
      (λ q.
      rw q (next-kept u (valid u ok) (rank_at h) (ranking.order h) s i.in_order i.placed
      (ranks (e ∷ h) (next_by u (rank_at h) s e)) e (eqb-true (answer_by u (rank_at h) s e) accepted q)
      (steady e h (next_by u (rank_at h) s e) (rw q)) x real (struck_in_room_by u ranks x h) k))
      (λ q.
      rw q (kept-rank u (rank_at h) (ranks (e ∷ h) s) s x (struck_in_room_by u ranks x h)
      (λ r d m.
      let w = line-waits u s d (rw ((i.in_order.lined.line (u.cluster x)).home d m) m) in
      let y = room_waits u s x r in
      steady e h s (rw q) d x w y w y) k))

  pub kept : (h : List Event) (x : ℕ) → real_time u x ≡ true
      → Kept u (rank_at h) (after_by u ranks h) x (struck_in_room_by u ranks x h)
  kept [] x r = begun u (rank_at []) fresh x false (fresh-in-order u) refl
  kept (e ∷ h) x r = event-kept e h x r (kept h x r)
