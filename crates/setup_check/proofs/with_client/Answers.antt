-- `setup_check::with_client` meets its contract.
-- Assumes nothing.
use Prim.Native.Nat.{ℕ}
use mathlib.Core.Path.{ap, ◌∙◌}
use mathlib.Core.Bool.{Bool, not}
use lib.Dec.{eqb}
use lib.ListN.{get_or, set}
use borrow.Author.Tests.{eq-eqb, ne_eqb}
use Rattle.sets.specs.Sets.{with_of}
use Rattle.setup_check.specs.declared.Clients.{Clients}
use Rattle.setup_check.proofs.Sets.{same-clients, set-joins, set-stays, own-joins, own-stays}
use Rattle.setup_check.proofs.with_client.Goals as goal

pub returns-then-kinds-c-ne0 : goal.returns-then-kinds-c-ne0
returns-then-kinds-c-ne0 c =
    let a = c.args in
    let real : ℕ → Bool = λ x. eqb (get_or a.kinds.now x 0) 0 in
    let e = ne_eqb (get_or a.kinds.now a.c 0) 0 c.if-kinds-c-ne0.true in
    same-clients
    (ap (λ (w : Clients). w.own) c.requires.2 ∙ own-stays real a.c (λ x. get_or a.homes.now x 0) e)
    (ap (λ (w : Clients). w.real) c.requires.2 ∙ set-stays real a.c e)
    (c.with.ensures ∙ ap (λ (w : Clients). with_of w.effort a.c) c.requires.2
    ∙ set-joins (λ x. not (real x)) a.c (rw e))

pub returns : goal.returns
returns c =
    let a = c.args in
    let real : ℕ → Bool = λ x. eqb (get_or a.kinds.now x 0) 0 in
    let home : ℕ → ℕ = λ x. get_or a.homes.now x 0 in
    let e = eq-eqb (get_or a.kinds.now a.c 0) 0 c.if-kinds-c-ne0.false in
    same-clients
    (rw (c.with-2.ensures, c.from-k.ensures)
    (ap (λ (x : Clients). set x.own (home a.c) (with_of (get_or x.own (home a.c) 0) a.c)) c.requires.2
    ∙ own-joins real a.c home e c.requires.1))
    (c.with-3.ensures ∙ ap (λ (x : Clients). with_of x.real a.c) c.requires.2 ∙ set-joins real a.c e)
    (ap (λ (x : Clients). x.effort) c.requires.2 ∙ set-stays (λ x. not (real x)) a.c (rw e))
