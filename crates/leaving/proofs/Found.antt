-- What an accepted reply and abort find in a sound state.
-- Assumes nothing.
use Prim.Native.Nat.{◌<◌, ℕ}
use mathlib.Core.Bool.{false, true}
use mathlib.Core.List.{List, map}
use mathlib.Core.Path.{◌≡◌, refl}
use native.Mathlib.Omega.{arith}
use lib.ListN.{length, length-map}
use Rattle.rules.specs.Limits.{max_clusters}
use Rattle.rules.specs.Lists.{Distinct, has}
use Rattle.rules.specs.Sound.{Sound}
use Rattle.rules.specs.State.{Server, State, best, front, idle, is_serving, spent, tidying}
use Rattle.rules.proofs.Counts.{distinct-below}
use Rattle.rules.proofs.Images.{has-map}
use Rattle.rules.proofs.InOrder.{turns}
use Rattle.rules.proofs.Lists.{heads-same, length-remove, remove-none}
use Rattle.rules.proofs.Tests.{by-test, clash}
use Rattle.gate.specs.Shown.{setup_of}
use Rattle.gate.specs.declared.Setup.{Setup}
use Rattle.parts.specs.Shows.{Refills, ShowsKeys}
use Rattle.parts.proofs.Turns.{order, fine, queue-once, queue-below, turn-free, front-there}
use Rattle.leaving.specs.Finds.{Turn, Yields}

module _ (v : Setup) (s : State) (sound : Sound (setup_of v) s) where
  pub refills : {ms ks : List ℕ} → ms ≡ v.sizes → ShowsKeys v s ks → Refills v s ms ks
  refills e f = record { sizes = e; keys = f; known = λ c q. (sound.room c q).known }

  pub turn : (c : ℕ) → Turn v s c
  turn c first =
      by-test (has c s.global)
      (λ e. omega (
        arith,
        length-remove c s.global e,
        distinct-below max_clusters (map (setup_of v).cluster s.global) (queue-once v s sound)
            (queue-below v s sound),
        length-map s.global (setup_of v).cluster,
      ))
      (λ e. rw (remove-none c s.global e)
      (turn-free v s sound ((setup_of v).cluster c) ((fine v s sound).homes c) (λ d a b.
      clash a (rw (heads-same d c (s.lines ((setup_of v).cluster c)) (front-there v s sound c d a b) first) e))))

  pub yields : is_serving s.server ≡ true → Yields s.server s.global
  yields = go s.server (order v s sound).ordered.turn-once
    where
      -- the turn of the one in service
      served : (k : ℕ) → k < max_clusters → has k (map (setup_of v).cluster s.global) ≡ false
          → length s.global < max_clusters
      served k low apart =
          turn-free v s sound k low (λ d a b. clash (rw b at (has-map (setup_of v).cluster d s.global a)) apart)

      go : (x : Server) → Distinct (turns (setup_of v) x s.global) → is_serving x ≡ true → Yields x s.global
      go idle t n = clash n refl
      go (front c) t n = served ((setup_of v).cluster c) ((fine v s sound).homes c) t.0
      go (best c) t n = tt
      go (spent c) t n = served ((setup_of v).cluster c) ((fine v s sound).homes c) t.0
      go tidying t n = clash n refl
