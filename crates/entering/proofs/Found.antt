-- What an accepted invoke finds in a sound state.
-- Assumes nothing.
use Prim.Native.Nat.{◌<◌, ℕ}
use mathlib.Core.Bool.{true}
use mathlib.Core.List.{◌∷◌}
use mathlib.Core.Option.{Option}
use mathlib.Core.Path.{◌≡◌}
use native.Mathlib.Omega.{arith}
use lib.Dec.{eqb}
use borrow.Author.Tests.{eqb-true}
use Rattle.rules.specs.Limits.{max_clients}
use Rattle.rules.specs.Lists.{has}
use Rattle.rules.specs.Rank.{Rank}
use Rattle.rules.specs.Sound.{Sound}
use Rattle.rules.specs.State.{State}
use Rattle.rules.proofs.Answers.{Invokes}
use Rattle.rules.proofs.Counts.{distinct-below}
use Rattle.rules.proofs.Lists.{heads-length}
use Rattle.rules.proofs.Setups.{allowed}
use Rattle.rules.proofs.Tests.{either_true}
use Rattle.gate.specs.Shown.{setup_of}
use Rattle.gate.specs.declared.Setup.{Setup}
use Rattle.parts.proofs.Turns.{fine, turn-free, front-there}
use Rattle.entering.specs.Finds.{Ready}

module _ (v : Setup) (s : State) (sound : Sound (setup_of v) s) where
  pub ready : {rank : Rank} (c : ℕ) {o : Option ℕ} → Invokes (setup_of v) rank s c o → Ready v s c
  ready c i =
      record {
        size = (allowed (setup_of v) sound.setup).some_size ((setup_of v).cluster c)
            ((allowed (setup_of v) sound.setup).homes c i.known);
        turn = λ z. turn-free v s sound ((setup_of v).cluster c) ((fine v s sound).homes c) (λ d a b.
            omega (arith, heads-length d (s.lines ((setup_of v).cluster c)) (front-there v s sound c d a b)));
        last = omega (
          arith,
          distinct-below max_clients (c ∷ s.background) (i.not_behind, sound.background.once) below,
        );
        absent = i.not_behind;
      }
    where
      below : (x : ℕ) → has x (c ∷ s.background) ≡ true → x < max_clients
      below x e =
          either_true (eqb c x) (has x s.background) e
          (λ q. omega (arith, eqb-true c x q, i.known, (fine v s sound).clients))
          (λ q. omega (arith, sound.background.known x q, (fine v s sound).clients))
