-- Demand 3: how much of a real-time client's budget others can burn while it waits.
-- Assumes nothing.
use Prim.Native.Nat.{ℕ, ◌+◌, ◌*◌, ◌≤◌, ◌<◌}
use mathlib.Core.Path.{◌≡◌, sym, ap, ◌∙◌}
use mathlib.Core.Bool.{true}
use mathlib.Core.List.{List, [], ◌∷◌}
use native.Mathlib.Omega.{arith}
use lib.IntN.{nat_abs}
use lib.ListN.{get_or}
use Rattle.rules.specs.Limits.{max_clients}
use Rattle.rules.specs.Refusals.{accepted, unsound}
use Rattle.rules.specs.Setup as rules
use Rattle.rules.specs.Setup.{Accepted, real_time, span}
use Rattle.rules.specs.State.{State, fresh}
use Rattle.rules.specs.Sound.{Sound}
use Rattle.rules.specs.Events.{Event}
use Rattle.rules.specs.Records.{Heard, answer_of, step_of}
use Rattle.rules.specs.History.{after, said, owed, owed_in_all, calls}
use Rattle.rules.specs.Demands.{worst, Within}
use Rattle.rules.specs.Quote.{Order, quote}
use Rattle.rules.specs.Budgets.{Use, Keeps, charged_for}
use Rattle.rules.proofs.Setups.{allowed}
use Rattle.rules.proofs.Theorems.{sound-stays, stored-is-sum, charge-within as sum-within, nineteen-never}
use Rattle.rules.proofs.Theorems.{bounded-in-all, within-budget}
use Rattle.rules.proofs.Said.{said-step}
use Rattle.gate.specs.declared.Setup.{Setup}
use Rattle.gate.specs.declared.Gate.{Gate}
use Rattle.gate.specs.Shown.{setup_of, shown}
use Rattle.gate.specs.Made.{trimmed_in, made}
use Rattle.gate.proofs.Making.{made-shown}
use Rattle.gate.proofs.Tables.{table_at}
use Rattle.parts.proofs.SoundShows.{fresh-sound}
use Rattle.step.specs.Stepped.{Result, stepped}
use Rattle.demands.specs.Histories.{gate_after, answer_after, charge_after}
use Rattle.step.proofs.Shown.{step-shown}

module _ (v : Setup) (a : Accepted (setup_of v)) where
  -- the rules' setup of the gate that is made
  abbrev pub u : rules.Setup
  u = setup_of (trimmed_in v)

  -- the state that the rules come to by what was heard, the latest first
  abbrev pub now : List Heard → State
  now h = after u (said u h)

  more : (x : Heard) (h : List Heard) → now (x ∷ h) ≡ step_of u (now h) x
  more x h = said-step u fresh (said u h) x

  sound-after : (h : List Heard) → Sound u (now h)
  sound-after [] = fresh-sound v a
  sound-after (x ∷ h) = rw (more x h) (sound-stays u (now h) x (sound-after h))

  -- Whatever was heard, the gate shows the state that the rules come to ..
  pub shows-after : (h : List Heard) → gate_after (made v).gate h ≡ shown (trimmed_in v) (now h)
  shows-after [] = made-shown v a.no_refusal
  shows-after (x ∷ h) =
      ap (λ (g : Gate). (stepped g x).gate) (shows-after h)
      ∙ ap (λ (t : Result). t.gate) (step-shown (trimmed_in v) (now h) x (sound-after h))
      ∙ ap (shown (trimmed_in v)) (sym (more x h))

  -- .. and the next answer is the rules' own.
  pub answers-after : (h : List Heard) (x : Heard) → answer_after (made v).gate h x ≡ answer_of u (now h) x
  answers-after h x =
      ap (λ (g : Gate). (stepped g x).number) (shows-after h)
      ∙ ap (λ (t : Result). t.number) (step-shown (trimmed_in v) (now h) x (sound-after h))

  -- 19 is never given.
  pub never-nineteen : (h : List Heard) (x : Heard) → answer_after (made v).gate h x ≡ unsound → ⊥
  never-nineteen h x e = nineteen-never u (sound-after []).setup (said u h) x (sym (answers-after h x) ∙ e)

  -- The charge that the gate stores is the sum over the history of events.
  pub stored : (h : List Heard) (c : ℕ) → c < max_clients → charge_after (made v).gate h c ≡ owed u c (said u h)
  unfolding shown
  stored h c b =
      ap (λ (g : Gate). get_or g.charges c 0) (shows-after h)
      ∙ table_at max_clients (now h).charge c 0 b
      ∙ stored-is-sum u c (said u h)

  -- THE DEMAND

  -- After any events and any records, refused ones among them, a real-time client's charge is the sum over the events,
  -- at most 2L + 2mKS, with S for L + W, and at most L + 2mKS where no accepted abort hit its own cluster's request in
  -- service while it was in the waiting room, and so where none did during its wait. The figures that are asked for,
  -- (2 + 2mK)S and (1 + 2mK)S, are no smaller.
  pub charge-within : (h : List Heard) (c : ℕ) → c < u.clients → real_time u c ≡ true
      → Within u (said u h) c (charge_after (made v).gate h c)
  charge-within h c b r =
      let ok = (sound-after []).setup in
      sum-within u ok (said u h) c (charge_after (made v).gate h c) r
      (stored h c (omega (arith, (allowed u ok).few-clients)))

  -- WHAT A QUOTE IS FOR

  -- Over all of its waits a client is charged at most (2 + 2mK)S for each accepted invoke ..
  pub charged-in-all : (h : List Event) (c : ℕ) → real_time u c ≡ true
      → owed_in_all u c h ≤ calls u c h * worst (u.size (u.cluster c)) u.clusters (span u)
  charged-in-all h c r = bounded-in-all u (sound-after []).setup h c r

-- .. so where an accepted order's N are not passed, e and all that was charged are within its budget, and that is
-- within the period.
pub budget-covers : (o : Order) (xs : List Use) → (quote o).answer ≡ accepted → Keeps o xs
    → (nat_abs o.work + charged_for xs ≤ (quote o).budget) × ((quote o).budget ≤ nat_abs o.period)
budget-covers = within-budget
