-- What a sound gate shows while its server tidies: at most W units, and every front in the global queue.
-- Assumes nothing.
use Prim.Native.Nat.{ℕ, ◌≤◌}
use mathlib.Core.Path.{◌≡◌}
use mathlib.Core.Bool.{true, ◌&&◌, and-true}
use Rattle.rules.specs.Lists.{has, heads}
use Rattle.rules.specs.State.{tidying}
use Rattle.gate.specs.declared.Gate.{Gate}
use Rattle.gate.specs.Shown.{setup_of, state_of}
use Rattle.soundness.specs.Clauses.{sound_of}
use Rattle.soundness.proofs.Exact.{passed-sound}

module _ (g : Gate) (e : sound_of g ≡ true) (t : (state_of g).server ≡ tidying) where
  -- L doesn't bound them.
  pub tidied-units : (state_of g).units ≤ g.setup.tidy
  tidied-units = rw t at (passed-sound g e).units

  -- Nobody is in service and no cluster is blocked, so it holds exactly the fronts.
  pub tidied-fronts : (c : ℕ) → has c (state_of g).global ≡ heads c ((state_of g).lines ((setup_of g.setup).cluster c))
  tidied-fronts c =
      let leads = heads c ((state_of g).lines ((setup_of g.setup).cluster c)) in
      rw ((passed-sound g e).global c, t, and-true (leads && true), and-true leads)
