-- `gate::setups::setup_verdict` meets its contract: at each return the tests so far leave one case of the verdict.
-- Assumes nothing.
use mathlib.Core.Path.{◌≡◌}
use native.Mathlib.Omega.{arith}
use lib.ListN.{length}
use borrow.Author.Rules.{rules}
use Rattle.gate.specs.Shown.{setup_of}
use Rattle.gate.proofs.Verdicts.{no-clusters, many-clusters, no-cap, many-clients, bad-size, bad-row, all-fits}
use Rattle.gate.proofs.Searches.{size-found, size-missed, row-found, row-missed}
use Rattle.gate.proofs.setups.setup_verdict.Goals as goal
use Rattle.gate.proofs.setups.setup_verdict.Goals.{then-k-lt1-via-then-k-lt1, then-k-lt1-via-else-k-lt1+then-k-gt-MAX_CLUSTERS}

pub returns-then-k-lt1 : goal.returns-then-k-lt1
returns-then-k-lt1 c = elim c.then-k-lt1.branch [
  | then-k-lt1-via-then-k-lt1 w ↦ no-clusters (setup_of c.args.s) (omega (arith, c.from-k.ensures, w.if-k-lt1.true))
  | then-k-lt1-via-else-k-lt1+then-k-gt-MAX_CLUSTERS w ↦ many-clusters (setup_of c.args.s)
      (omega (arith, c.from-k.ensures, w.if-k-lt1.false))
      (omega (arith, c.from-k.ensures, w.if-k-gt-MAX_CLUSTERS.true))
]

pub returns-then-s-eq0 : goal.returns-then-s-eq0
returns-then-s-eq0 c =
    no-cap (setup_of c.args.s) (omega (arith, c.from-k.ensures)) (omega (arith, c.from-k.ensures))
    c.if-s-eq0.true

pub returns-then-n-gt-MAX_CLIENTS : goal.returns-then-n-gt-MAX_CLIENTS
returns-then-n-gt-MAX_CLIENTS c =
    many-clients (setup_of c.args.s) (omega (arith, c.from-k.ensures)) (omega (arith, c.from-k.ensures))
    c.if-s-eq0.false (omega (arith, c.from-n.ensures))

pub returns-in-Some : goal.returns-in-Some
returns-in-Some c =
    let u = setup_of c.args.s in
    let l : length c.args.s.sizes ≡ 8 = search rules in
    let f = size-found c.args.s c.from-k.result c.in-Some.bad (omega arith) c.from-k.ensures c.in-Some.ensures in
    rw f.0 (bad-size u (omega (arith, c.from-k.ensures)) (omega (arith, c.from-k.ensures)) c.if-s-eq0.false
    (omega (arith, c.from-n.ensures)) f.1)

pub returns-in-Some-first_bad_row : goal.returns-in-Some-first_bad_row
returns-in-Some-first_bad_row c =
    let u = setup_of c.args.s in
    let s = c.args.s in
    let l : length s.sizes ≡ 8 = search rules in
    let k : length s.kinds ≡ 64 = search rules in
    let h : length s.homes ≡ 64 = search rules in
    let m = size-missed s c.from-k.result (omega arith) c.from-k.ensures c.in_default.ensures in
    let f = row-found s c.from-n.result c.in-Some-first_bad_row.row (omega arith) (omega arith) c.from-n.ensures
    c.in-Some-first_bad_row.ensures in
    rw f.0 (bad-row u (omega (arith, c.from-k.ensures)) (omega (arith, c.from-k.ensures)) c.if-s-eq0.false
    (omega (arith, c.from-n.ensures)) m f.1)

pub returns : goal.returns
returns c =
    let u = setup_of c.args.s in
    let s = c.args.s in
    let l : length s.sizes ≡ 8 = search rules in
    let k : length s.kinds ≡ 64 = search rules in
    let h : length s.homes ≡ 64 = search rules in
    let m = size-missed s c.from-k.result (omega arith) c.from-k.ensures c.in_default.ensures in
    let f = row-missed s c.from-n.result (omega arith) (omega arith) c.from-n.ensures c.in_default-first_bad_row.ensures in
    all-fits u (omega (arith, c.from-k.ensures)) (omega (arith, c.from-k.ensures)) c.if-s-eq0.false
    (omega (arith, c.from-n.ensures)) m f
