-- `running::run` meets its contract: the queues with the service that `answered` leaves.
-- Assumes nothing.
use Prim.Native.Nat.{ℕ}
use mathlib.Core.Bool.{cond}
use mathlib.Core.Path.{ap₂, refl}
use Rattle.rules.specs.State.{is_tidying}
use Rattle.gate.specs.Shown.{server_of}
use Rattle.running.proofs.run.Goals as goal

pub returns : goal.returns
returns c =
    let tidies = is_tidying (server_of c.args.q.service.server) in
    λ v s e h.
    c.answered-answer.ensures _ refl refl refl v s
    (e.0, e.1, ap₂ (λ (w l : ℕ). cond tidies w l) e.3 e.2) h
